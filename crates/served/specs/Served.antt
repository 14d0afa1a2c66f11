-- The answer to one frame, and its output line.
use Rattle.std.specs.Prelude.{ℕ, Option, Some, None, Result, Ok, Err, List, eqb, if◌then◌else◌}
use Rattle.std.specs.Result.{ForOk}
use Rattle.channel.specs.Answer.{kind_of, value_of}
use Rattle.bounds.specs.Refusal.{number_of, Reply}
use Rattle.bounds.specs.declared.refusal.Refusal.{Refusal}
use Rattle.bounds.specs.declared.refusal.Refusal.TheVariants.{Malformed, NoChannel}
use Rattle.schedule.specs.Record.{refused_with}
use Rattle.schedule.specs.Making.{zero_record, made_array, made_zero}
use Rattle.schedule.specs.Form.{InForm}
use Rattle.schedule.specs.Calls.{begun, stepped, failed, advanced, taken}
use Rattle.schedule.specs.declared.record.Record.{Record}
use Rattle.schedule.specs.declared.record.Replied.{Replied}
use Rattle.text.specs.Output.{code_line, took_line}
use Rattle.text.specs.declared.frame.Frame.{Frame}
use Rattle.text.specs.declared.frame.Frame.TheVariants.{Header, Begin, Step, Advance, Take, Fail}
use Rattle.served.specs.declared.held.Held.{Held}
use Rattle.served.specs.declared.held.Served.{Served}

-- Before a channel was made, and once it was.
abbrev pub nothing_made : Held
nothing_made = record { channel = Err zero_record }

abbrev pub made_as : Record → Held
made_as r = record { channel = Ok r }

abbrev pub refused_by : Held → Refusal → Served
refused_by h n = record { held = h; reply = Err n }

-- Capacity 0 makes a rendezvous.
unfoldable pub making_of : ℕ → ℕ → Replied
making_of c n = if eqb c 0 then made_zero n else made_array c n

-- A header that gets 2 or 3 makes no channel.
abbrev pub made_by : Reply → Record → Result Record Record
made_by (Ok a) r = Ok r
made_by (Err n) r = Err r

abbrev pub headed_by : Replied → Served
headed_by y = record { held = record { channel = made_by y.reply y.next }; reply = y.reply }

abbrev pub kept_by : Replied → Served
kept_by y = record { held = made_as y.next; reply = y.reply }

-- 11: a header after a channel was made.
abbrev pub header_on : Result Record Record → Replied → Served
header_on (Ok r) y = kept_by (refused_with r Malformed)
header_on (Err r) y = headed_by y

-- 12: any other frame before a channel was made.
abbrev pub call_on : Result Record Record → (Record → Replied) → Served
call_on (Ok r) f = kept_by (f r)
call_on (Err r) f = refused_by (record { channel = Err r }) NoChannel

-- 11: a malformed line; then 11 or 12, then the call's own refusals.
unfoldable pub served_for : Held → Option Frame → Served
served_for h (Some (Header c n)) = header_on h.channel (making_of c n)
served_for h (Some (Begin t c m d)) = call_on h.channel (λ r. begun r t c m d)
served_for h (Some (Step t)) = call_on h.channel (λ r. stepped r t)
served_for h (Some (Advance n)) = call_on h.channel (λ r. advanced r n)
served_for h (Some (Take t)) = call_on h.channel (λ r. taken r t)
served_for h (Some (Fail t)) = call_on h.channel (λ r. failed r t)
served_for h None = refused_by h Malformed

-- Two digits, 00 or the refusal; an accepted take adds kind and value.
abbrev pub reply_line : Reply → List ℕ
reply_line (Ok None) = code_line 0
reply_line (Ok (Some a)) = took_line (kind_of a) (value_of a)
reply_line (Err n) = code_line (number_of n)

-- What the inner path relies on: a channel that was made is in form.
abbrev pub Standing : Held → Type 0
Standing h = ForOk h.channel InForm
