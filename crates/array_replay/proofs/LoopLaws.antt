-- The replay of an array's lines: where it begins, and what a step leaves of the slot that it writes.
use Prim.Native.Nat.{ℕ, ◌<◌}
use mathlib.Core.Path.{◌≡◌, sym, ap, ◌∙◌}
use mathlib.Core.List.{List}
use lib.ListN.{set}
use Rattle.std.specs.Prelude.{Some, None, Ok}
use Rattle.waker.specs.declared.context.Thread.{Thread}
use Rattle.channel.specs.Position.{shape_of}
use Rattle.channel.specs.declared.position.Shape.{Shape}
use Rattle.array.specs.Array.{fresh_array, cells_at, outcome_of}
use Rattle.array.specs.ArrayOutcome.{ArrayOutcome}
use Rattle.array.specs.declared.Array.{Array}
use Rattle.array.specs.declared.call.ArrayCall.{ArrayCall}
use Rattle.bounds.specs.Limits.{making, one_more}
use Rattle.bounds.specs.declared.flavour.Flavour.TheVariants as flavour
use Rattle.places.specs.Place.{place_after}
use Rattle.places.specs.declared.place.Place.TheVariants as place
use Rattle.turns.specs.Turn.{goes_on, counts_of}
use Rattle.turns.specs.declared.counts.Counts.{Counts}
use Rattle.turns.specs.declared.Running.TheVariants as running
use Rattle.text.specs.Frames.{parse_of, step_thread}
use Rattle.schedule.specs.Record.{thread_at, accepted_as}
use Rattle.schedule.specs.Making.{fresh_array_record}
use Rattle.schedule.specs.Form.{InForm}
use Rattle.schedule.specs.declared.record.Record.{Record}
use Rattle.schedule.specs.declared.record.ThreadRecord.{ThreadRecord}
use Rattle.served.specs.Served.{made_as, served_for, kept_by}
use Rattle.served.specs.Replies.{Room}
use Rattle.served.proofs.ServedLaws.{grown_made}
use Rattle.served.proofs.RunLaws.{Running, running_none}
use Rattle.served.proofs.AnsweredLaws.{here_stepped}
use Rattle.replayed.specs.Joined.{joined, fresh_joined, place_in}
use Rattle.array_replay.specs.Ring.{ring_memories}
use Rattle.array_replay.specs.RingLaws.{ring_grown}
use Rattle.array_replay.proofs.PartLaws.{written_slot, cells_after, with_cells, applied_cells}

-- Before the first line, of an array that may be made.
pub parted_none : {t out : List ℕ} {from start capacity n : ℕ} → making flavour.Array capacity n ≡ Ok tt → Room t from out start →
    Running t out (made_as (fresh_array_record capacity n)) from start
    (made_as (fresh_joined (shape_of capacity) flavour.Array (ring_memories (fresh_array capacity)) n)) from start out
parted_none {t} {out} {from} {start} {capacity} {n} allowed room =
    running_none t out _ from start (grown_made (ring_grown capacity n allowed)) room

-- A line that is the step of a thread that is there, whose call goes on.
module _ (S : Shape) (a : Array) (ts : List ThreadRecord) (c : Counts) (n : ℕ) where
  abbrev whole : Array → List ThreadRecord → Counts → Record
  whole b us d = joined S flavour.Array (ring_memories b) us d n

  module _ (formed : InForm (whole a ts c)) (line : List ℕ) (t : Thread) (step : step_thread (parse_of line) ≡ Some t)
      (low : t.0 < n) (k : ArrayCall) (goes : goes_on (place_in ts t.0) c.steps ≡ Ok (running.Array k)) where
    abbrev outcome : ArrayOutcome
    outcome = outcome_of S a k

    abbrev after : Array → Record
    after b = whole b (set ts t.0 (thread_at (place_after place.Array outcome.next))) (counts_of c.clock (one_more c.steps))

    abbrev slot : ℕ
    slot = written_slot outcome.effect

    pub here_made : served_for (made_as (whole a ts c)) (parse_of line) ≡
        record {
          held = made_as (after (with_cells a slot (cells_after (cells_at a slot) outcome.effect)));
          reply = Ok None;
        }
    here_made =
        here_stepped (whole a ts c) formed line t step low (Ok (running.Array k)) (sym goes)
        ∙ ap (λ (b : Array). kept_by (accepted_as (after b))) (applied_cells a outcome.effect)
