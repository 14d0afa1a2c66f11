-- The replay of a rendezvous' lines: where it begins, and what a step leaves of each part that it writes.
use Prim.Native.Nat.{ℕ, ◌<◌}
use mathlib.Core.Path.{◌≡◌, sym, ap, ◌∙◌}
use mathlib.Core.List.{List}
use lib.ListN.{set}
use Rattle.std.specs.Prelude.{Some, None, Ok}
use Rattle.waker.specs.declared.context.Thread.{Thread}
use Rattle.zero.specs.Zero.{fresh_zero, outcome_of}
use Rattle.zero.specs.ZeroOutcome.{ZeroOutcome}
use Rattle.zero.specs.declared.Zero.{Zero}
use Rattle.zero.specs.declared.call.ZeroCall.{ZeroCall}
use Rattle.bounds.specs.Limits.{making, one_more}
use Rattle.bounds.specs.declared.flavour.Flavour.TheVariants as flavour
use Rattle.places.specs.Place.{place_after}
use Rattle.places.specs.declared.place.Place.TheVariants as place
use Rattle.turns.specs.Turn.{goes_on, counts_of}
use Rattle.turns.specs.declared.counts.Counts.{Counts}
use Rattle.turns.specs.declared.Running.TheVariants as running
use Rattle.text.specs.Frames.{parse_of, step_thread}
use Rattle.schedule.specs.Record.{thread_at, accepted_as}
use Rattle.schedule.specs.Making.{no_shape, fresh_zero_record}
use Rattle.schedule.specs.Form.{InForm}
use Rattle.schedule.specs.declared.record.Record.{Record}
use Rattle.schedule.specs.declared.record.ThreadRecord.{ThreadRecord}
use Rattle.served.specs.Served.{made_as, served_for, kept_by}
use Rattle.served.specs.Replies.{Room}
use Rattle.served.proofs.ServedLaws.{grown_made}
use Rattle.served.proofs.RunLaws.{Running, running_none}
use Rattle.served.proofs.AnsweredLaws.{here_stepped}
use Rattle.replayed.specs.Joined.{joined, fresh_joined, place_in}
use Rattle.zero_replay.specs.Meeting.{meeting_memories}
use Rattle.zero_replay.specs.MeetingLaws.{meeting_grown}
use Rattle.zero_replay.proofs.PartLaws.{parts_after, applied_parts}

-- Before the first line, of a rendezvous that may be made.
pub parted_none : {t out : List ℕ} {from start n : ℕ} → making flavour.Zero 0 n ≡ Ok tt → Room t from out start →
    Running t out (made_as (fresh_zero_record n)) from start
    (made_as (fresh_joined no_shape flavour.Zero (meeting_memories fresh_zero) n)) from start out
parted_none {t} {out} {from} {start} {n} allowed room =
    running_none t out _ from start (grown_made (meeting_grown n allowed)) room

-- A line that is the step of a thread that is there, whose call goes on.
module _ (z : Zero) (ts : List ThreadRecord) (c : Counts) (n : ℕ) where
  abbrev whole : Zero → List ThreadRecord → Counts → Record
  whole y us d = joined no_shape flavour.Zero (meeting_memories y) us d n

  module _ (formed : InForm (whole z ts c)) (line : List ℕ) (t : Thread) (step : step_thread (parse_of line) ≡ Some t)
      (low : t.0 < n) (k : ZeroCall) (goes : goes_on (place_in ts t.0) c.steps ≡ Ok (running.Zero k)) where
    abbrev outcome : ZeroOutcome
    outcome = outcome_of z t c.clock k

    abbrev after : Zero → Record
    after y = whole y (set ts t.0 (thread_at (place_after place.Zero outcome.next))) (counts_of c.clock (one_more c.steps))

    pub here_made : served_for (made_as (whole z ts c)) (parse_of line) ≡
        record { held = made_as (after (parts_after z t outcome.effect)); reply = Ok None }
    here_made =
        here_stepped (whole z ts c) formed line t step low (Ok (running.Zero k)) (sym goes)
        ∙ ap (λ (y : Zero). kept_by (accepted_as (after y))) (applied_parts z t outcome.effect)
