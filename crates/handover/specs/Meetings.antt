-- What a history has brought about on a rendezvous, read off its accepted calls.
use Rattle.std.specs.Prelude.{ℕ, suc, Bool, false, ◌&&◌, List, [], ◌∷◌, Option, Some, None, Result, length, if◌then◌else◌}
use Rattle.std.specs.Result.{result_ok}
use Rattle.waker.specs.Context.{thread, is_waiting}
use Rattle.waker.specs.Wakers.{other_side, listed, word_of}
use Rattle.waker.specs.declared.context.Selected.{Selected}
use Rattle.waker.specs.declared.wakers.Side.{Side}
use Rattle.waker.specs.declared.wakers.Side.TheVariants.{Sender, Receiver}
use Rattle.zero.specs.Zero.{outcome_of, packet_at}
use Rattle.zero.specs.ZeroSteps.{side_of}
use Rattle.zero.specs.declared.Packet.{Packet}
use Rattle.zero.specs.declared.call.Question.{Question}
use Rattle.zero.specs.declared.call.Question.TheVariants as ask
use Rattle.zero.specs.declared.call.ZeroCall.{ZeroCall}
use Rattle.zero.specs.declared.call.ZeroCall.TheVariants.{First, Wait}
use Rattle.zero.specs.declared.outcome.ZeroEffect.{ZeroEffect}
use Rattle.zero.specs.declared.outcome.ZeroEffect.TheVariants as effect
use Rattle.schedule.specs.Record.{place_of}
use Rattle.places.specs.Begin.{code_of, carried_by}
use Rattle.forms.specs.FormWaits.{same_side}
use Rattle.schedule.specs.History.{Act, begins, steps, fails, advances, takes, Moment, reached, updated}
use Rattle.places.specs.declared.begin.Code.{Code}
use Rattle.places.specs.declared.begin.Code.TheVariants as code
use Rattle.places.specs.declared.begin.UnknownCode.{UnknownCode}
use Rattle.places.specs.declared.place.Place.{Place}
use Rattle.places.specs.declared.place.Place.TheVariants.{Idle, Array, Zero, Done}
use Rattle.schedule.specs.declared.record.Record.{Record}

-- A thread's word and packet in a record.
abbrev pub word_at : Record → ℕ → Selected
word_at r t = word_of r.zero.wakers (thread t)

abbrev pub packet_of : Record → ℕ → Packet
packet_of r t = packet_at r.zero (thread t)

-- Whom a pick has joined a call with, and the message of the one that sends.
pub record Pair : Type 0 where
  pub partner : ℕ
  pub message : ℕ

-- What is remembered of each thread's call.
pub record Past : Type 0 where
  -- Its code (none before the first), the message that it carries, and its deadline, as begun.
  pub code : ℕ → Option Code
  pub carried : ℕ → ℕ
  pub deadline : ℕ → ℕ
  -- The entries ahead of it when it registered.
  pub entries : ℕ → ℕ
  -- The opposite calls whose first step has fallen since then while its word was Waiting.
  pub opposed : ℕ → ℕ
  -- Its pairs, newest first.
  pub pairs : ℕ → List Pair
  -- Its own steps since it picked, or since its ready mark was set.
  pub since : ℕ → ℕ

abbrev pub begun_call : Past → ℕ → Result Code UnknownCode → ℕ → ℕ → Past
begun_call h t c m d =
    record {
      code = updated h.code t (result_ok c);
      carried = updated h.carried t (carried_by c m);
      deadline = updated h.deadline t d;
      entries = h.entries;
      opposed = h.opposed;
      pairs = updated h.pairs t [];
      since = h.since;
    }

-- The code of a side's call that may not wait, and of one that may; and of a question.
abbrev pub try_code : Side → Code
try_code Sender = code.TrySend
try_code Receiver = code.TryReceive

abbrev pub wait_code : Side → Code
wait_code Sender = code.Send
wait_code Receiver = code.Receive

abbrev pub ask_code : Question → Code
ask_code ask.Len = code.Len
ask_code ask.IsEmpty = code.IsEmpty
ask_code ask.IsFull = code.IsFull
ask_code ask.IsDisconnected = code.IsDisconnected
ask_code ask.Disconnect = code.Disconnect

-- A call waits on a side with its word Waiting.
abbrev pub waits_on : Side → Place → Selected → Bool
waits_on σ (Zero (Wait own d)) w = same_side σ own && is_waiting w
waits_on σ _ w = false

-- A first step counts for every waiter of the other side.
abbrev pub opposes : ZeroCall → Place → Selected → Bool
opposes (First o l) p w = waits_on (other_side (side_of o)) p w
opposes _ p w = false

-- Of a caller t and a v of side σ that it picked: the one that sends.
abbrev pub sender_of : Side → ℕ → ℕ → ℕ
sender_of Sender t v = v
sender_of Receiver t v = t

abbrev pub pair_of : ℕ → ℕ → Pair
pair_of v m = record { partner = v; message = m }

-- What thread t's step at a place adds, by its effect; the record is the one before the step.
module _ (r : Record) (h : Past) (t : ℕ) (k : ZeroCall) where
  abbrev pub opposed_after : ℕ → ℕ
  opposed_after u = if opposes k (place_of r u) (word_at r u) then suc (h.opposed u) else h.opposed u

  abbrev pub plain : Past
  plain =
      record {
        code = h.code;
        carried = h.carried;
        deadline = h.deadline;
        entries = h.entries;
        opposed = opposed_after;
        pairs = h.pairs;
        since = updated h.since t (suc (h.since t));
      }

  -- A pick pairs two calls.
  abbrev pub paired : ℕ → ℕ → Past
  paired v m =
      record {
        code = h.code;
        carried = h.carried;
        deadline = h.deadline;
        entries = h.entries;
        opposed = opposed_after;
        pairs = updated (updated h.pairs v (pair_of t m ∷ h.pairs v)) t (pair_of v m ∷ h.pairs t);
        since = updated h.since t 0;
      }

  -- A waiter registers: all that its side's queue has are ahead of it.
  abbrev pub registered_on : Side → Past
  registered_on σ =
      record {
        code = h.code;
        carried = h.carried;
        deadline = h.deadline;
        entries = updated h.entries t (length (listed r.zero.wakers σ));
        opposed = updated opposed_after t 0;
        pairs = h.pairs;
        since = h.since;
      }

  -- A ready mark is set.
  abbrev pub marked : ℕ → Past
  marked v =
      record {
        code = h.code;
        carried = h.carried;
        deadline = h.deadline;
        entries = h.entries;
        opposed = opposed_after;
        pairs = h.pairs;
        since = updated h.since v 0;
      }

  abbrev pub brought : Option ZeroEffect → Past
  brought None = plain
  brought (Some (effect.Pick σ v)) = paired v.0 (h.carried (sender_of σ t v.0))
  brought (Some (effect.Join o)) = registered_on (side_of o)
  brought (Some (effect.PutMessage v m)) = plain
  brought (Some (effect.TakeMessage v)) = plain
  brought (Some (effect.SetReady v)) = marked v.0
  brought (Some (effect.Abort σ)) = plain
  brought (Some (effect.GiveUp σ)) = plain
  brought (Some (effect.Leave σ)) = plain
  brought (Some effect.Clear) = plain
  brought (Some effect.Disconnect) = plain

abbrev pub brought_at : Record → Past → ℕ → Place → Past
brought_at r h t Idle = h
brought_at r h t (Array k) = h
brought_at r h t (Zero k) = brought r h t k (outcome_of r.zero (thread t) r.clock k).effect
brought_at r h t (Done a) = h

-- What an accepted call adds; no exchange fails on a rendezvous.
abbrev pub rule : Record → Past → Act → Past
rule r h (begins t c m d) = begun_call h t.0 (code_of c) m d.0
rule r h (steps t) = brought_at r h t.0 (place_of r t.0)
rule r h (fails t) = h
rule r h (advances n) = h
rule r h (takes t) = h

-- Nothing yet.
abbrev pub nothing : Past
nothing =
    record {
      code = λ t. None;
      carried = λ t. 0;
      deadline = λ t. 0;
      entries = λ t. 0;
      opposed = λ t. 0;
      pairs = λ t. [];
      since = λ t. 0;
    }

-- The moment after a history from a record.
abbrev pub moment_after : Record → List Act → Moment Past
moment_after r l = reached rule (record { now = r; past = nothing }) l
