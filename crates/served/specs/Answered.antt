-- What a frame other than a step leaves of the thread that it names, of the clock and of the steps: the calls' rules, on these alone.
use Rattle.std.specs.Prelude.{ℕ, Option, Some, None, Result, Err, ltb, if◌then◌else◌}
use Rattle.std.specs.Result.{result_and}
use Rattle.waker.specs.Context.{threads}
use Rattle.waker.specs.declared.context.Thread.{Thread}
use Rattle.bounds.specs.Limits.{naming}
use Rattle.bounds.specs.declared.flavour.Flavour.{Flavour}
use Rattle.bounds.specs.declared.refusal.Refusal.{Refusal}
use Rattle.bounds.specs.declared.refusal.Refusal.TheVariants.{NoSuchThread, Malformed}
use Rattle.places.specs.Begin.{started}
use Rattle.places.specs.declared.place.Place.{Place}
use Rattle.turns.specs.Turn.{begun_with, failed_with, advanced_with, taken_with}
use Rattle.turns.specs.declared.counts.Counts.{Counts}
use Rattle.turns.specs.declared.counts.Turned.{Turned}
use Rattle.text.specs.declared.frame.Frame.{Frame}
use Rattle.text.specs.declared.frame.Frame.TheVariants.{Header, Begin, Step, Advance, Take, Fail}

-- A thread's number, or 0 where no record has such a thread.
unfoldable pub bounded_by : Thread → ℕ
bounded_by t = if ltb t.0 threads then t.0 else 0

-- The thread that a frame names, or 0.
abbrev pub named_by : Option Frame → ℕ
named_by (Some (Header c n)) = 0
named_by (Some (Begin t c m d)) = bounded_by t
named_by (Some (Step t)) = bounded_by t
named_by (Some (Advance n)) = 0
named_by (Some (Take t)) = bounded_by t
named_by (Some (Fail t)) = bounded_by t
named_by None = 0

-- What a frame leaves once a channel was made, 4 tested first. A step is of no thread that is there: any other step is the channel's own.
unfoldable pub answered_for : Flavour → ℕ → Place → Counts → Option Frame → Result Turned Refusal
answered_for f n p c (Some (Header k m)) = Err Malformed
answered_for f n p c (Some (Begin t o m d)) = result_and (naming n t) (begun_with c p (started f o m d))
answered_for f n p c (Some (Step t)) = Err NoSuchThread
answered_for f n p c (Some (Advance k)) = advanced_with c p k
answered_for f n p c (Some (Take t)) = result_and (naming n t) (taken_with c p)
answered_for f n p c (Some (Fail t)) = result_and (naming n t) (failed_with c p)
answered_for f n p c None = Err Malformed
