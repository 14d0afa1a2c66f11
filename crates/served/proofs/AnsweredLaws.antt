-- Laws of what a frame leaves of a record's parts: put into the record it is what the public calls make of it.
use Prim.Native.Nat.{ℕ, ◌+◌, ◌<◌, ◌≤◌}
use mathlib.Core.Path.{◌≡◌, refl, sym, ap, ◌∙◌}
use mathlib.Core.Bool.{Bool, true, false, cond}
use mathlib.Core.List.{List}
use native.Mathlib.Omega.{arith}
use lib.Dec.{leb, ltb}
use lib.ListN.{length}
use lib.Seq.{set-get_or}
use borrow.Author.Tests.{ltb-true, leb-false, lt-ltb, le-leb, lt-leb}
use Rattle.std.specs.Prelude.{Option, Some, None, Result, Ok, Err, ⊤}
use Rattle.std.specs.Result.{result_and}
use Rattle.waker.specs.Context.{threads}
use Rattle.waker.specs.declared.context.Thread.{Thread}
use Rattle.channel.specs.declared.answer.Tick.{Tick}
use Rattle.bounds.specs.Limits.{later}
use Rattle.bounds.specs.declared.refusal.Refusal.{Refusal}
use Rattle.bounds.specs.declared.refusal.Refusal.TheVariants.{NoSuchThread}
use Rattle.places.specs.Begin.{started}
use Rattle.places.specs.declared.place.Place.TheVariants.{Idle}
use Rattle.turns.specs.Turn.{goes_on, begun_with, failed_with, advanced_with, taken_with}
use Rattle.turns.specs.declared.Running.{Running}
use Rattle.turns.specs.declared.counts.Turned.{Turned}
use Rattle.text.specs.Frames.{parse_of, step_thread}
use Rattle.text.specs.declared.frame.Frame.{Frame}
use Rattle.text.specs.declared.frame.Frame.TheVariants.{Header, Begin, Step, Advance, Take, Fail}
use Rattle.text.proofs.StepLaws.{step_four}
use Rattle.schedule.specs.Record.{thread_at, place_of, counts_in, refused_with, turned_by, replied}
use Rattle.schedule.specs.Form.{InForm}
use Rattle.schedule.specs.Calls.{formed, threaded, begun, begun_in_form, stepped, stepped_by, stepped_in_form, failed, failed_in_form, advanced, advanced_in_form, advanced_to, taken, taken_in_form}
use Rattle.schedule.specs.declared.record.Record.{Record}
use Rattle.schedule.specs.declared.record.Replied.{Replied}
use Rattle.schedule.specs.declared.record.ThreadRecord.{ThreadRecord}
use Rattle.schedule.proofs.InFormLaws.{count_low}
use Rattle.served.specs.Served.{made_as, kept_by, served_for}
use Rattle.served.specs.Answered.{bounded_by, named_by, answered_for}

-- The thread that a frame names is in the table.
bounded_below : (t : Thread) → bounded_by t < threads
unfolding bounded_by
bounded_below t = go (ltb t.0 threads) refl
  where
    go : (b : Bool) → ltb t.0 threads ≡ b → cond b t.0 0 < threads
    go true e = ltb-true t.0 threads e
    go false e = omega arith

pub named_below : (f : Option Frame) → named_by f < threads
named_below (Some (Header c n)) = omega arith
named_below (Some (Begin t c m d)) = bounded_below t
named_below (Some (Step t)) = bounded_below t
named_below (Some (Advance n)) = omega arith
named_below (Some (Take t)) = bounded_below t
named_below (Some (Fail t)) = bounded_below t
named_below None = omega arith

bounded_there : (t : Thread) → t.0 < threads → bounded_by t ≡ t.0
unfolding bounded_by
bounded_there t h = rw (lt-ltb t.0 threads h)

-- A frame whose step's thread is known is that step.
pub step_of : (f : Option Frame) (t : Thread) → step_thread f ≡ Some t → f ≡ Some (Step t)
step_of (Some (Step u)) t h = let same : u ≡ t = cc in rw same
step_of f t h = cc

-- A step of a thread that is there, on a record in form.
pub step_served : (r : Record) (t : Thread) → InForm r → t.0 < r.count →
    served_for (made_as r) (Some (Step t)) ≡ kept_by (stepped_by r t (goes_on (place_of r t.0) r.steps))
unfolding served_for stepped stepped_in_form
step_served r t i h = rw (i, lt-leb r.count t.0 h)

module _ (r : Record) where
  abbrev with_threads : Tick → List ThreadRecord → Record
  with_threads c l =
      record {
        array = r.array;
        zero = r.zero;
        threads = l;
        shape = r.shape;
        clock = c;
        steps = r.steps;
        count = r.count;
        flavour = r.flavour;
      }

  -- An advance: the thread that stands for none is put back as it was.
  advanced_left : (u : Result Tick Refusal) (n : Tick) → later r.clock n ≡ u →
      kept_by (advanced_to r u) ≡ kept_by (turned_by r 0 (advanced_with (counts_in r) (place_of r 0) n))
  advanced_left (Ok c) n e =
      rw e
      (sym
      (ap (λ (l : List ThreadRecord). kept_by (replied (with_threads c l) (Ok None))) (set-get_or r.threads 0 (thread_at Idle))))
  advanced_left (Err m) n e = rw e refl

  -- A thread that is not there is refused, whichever one stands for it.
  threaded_left : (t : Thread) (u : ℕ → Result Turned Refusal) → r.count ≤ threads →
      kept_by (threaded r t (turned_by r t.0 (u t.0))) ≡
      kept_by (turned_by r (bounded_by t) (result_and {T = ⊤} (cond (leb r.count t.0) (Err NoSuchThread) (Ok tt)) (u (bounded_by t))))
  threaded_left t u few = go (leb r.count t.0) refl
    where
      go : (b : Bool) → leb r.count t.0 ≡ b →
          kept_by (cond b (refused_with r NoSuchThread) (turned_by r t.0 (u t.0))) ≡
          kept_by (turned_by r (bounded_by t) (result_and {T = ⊤} (cond b (Err NoSuchThread) (Ok tt)) (u (bounded_by t))))
      go true h = refl
      go false h = rw (bounded_there t (omega (arith, leb-false r.count t.0 h)))

  -- The form is tested first.
  formed_left : (y : Replied) → InForm r → kept_by (formed r y) ≡ kept_by y
  formed_left y i = rw i

-- What a frame leaves, put into the record.
abbrev pub answered_on : Record → Option Frame → Replied
answered_on r f = turned_by r (named_by f) (answered_for r.flavour r.count (place_of r (named_by f)) (counts_in r) f)

-- No step of a thread that is there.
abbrev pub IsElsewhere : ℕ → Option Frame → Type 0
IsElsewhere n f = (t : Thread) → step_thread f ≡ Some t → n ≤ t.0

-- Any other frame, on a record in form.
pub left_served : (r : Record) (f : Option Frame) → InForm r → r.count ≤ threads → IsElsewhere r.count f →
    served_for (made_as r) f ≡ kept_by (answered_on r f)
unfolding served_for answered_for begun begun_in_form stepped stepped_in_form failed failed_in_form advanced advanced_in_form taken taken_in_form
left_served r (Some (Header c n)) i few past = refl
left_served r (Some (Begin t c m d)) i few past =
    formed_left r _ i ∙
    threaded_left r t (λ k. begun_with (counts_in r) (place_of r k) (started r.flavour c m d)) few
left_served r (Some (Step t)) i few past = formed_left r _ i ∙ rw (le-leb r.count t.0 (past t refl))
left_served r (Some (Advance n)) i few past = formed_left r _ i ∙ advanced_left r (later r.clock n) n refl
left_served r (Some (Take t)) i few past =
    formed_left r _ i ∙ threaded_left r t (λ k. taken_with (counts_in r) (place_of r k)) few
left_served r (Some (Fail t)) i few past =
    formed_left r _ i ∙ threaded_left r t (λ k. failed_with (counts_in r) (place_of r k)) few
left_served r None i few past = refl

-- The answer to a line, from what the code's calls returned, on a record in form.
module _ (r : Record) (formed : InForm r) (line : List ℕ) where
  module _ (t : Thread) (step : step_thread (parse_of line) ≡ Some t) where
    -- The line of a step has four bytes, and the next one begins past its 0a.
    pub here_past : (at : ℕ) → at + 5 ≡ at + length line + 1
    here_past at = omega (arith, step_four line t step)

    -- The step of a thread that is there, by what the thread's call goes on with.
    pub here_stepped : t.0 < r.count → (u : Result Running Refusal) → u ≡ goes_on (place_of r t.0) r.steps →
        served_for (made_as r) (parse_of line) ≡ kept_by (stepped_by r t u)
    here_stepped low u eu =
        ap (served_for (made_as r)) (step_of (parse_of line) t step)
        ∙ step_served r t formed low
        ∙ ap (λ (x : Result Running Refusal). kept_by (stepped_by r t x)) (sym eu)

  -- Any other line, by what its frame leaves.
  pub here_left : IsElsewhere r.count (parse_of line) → (f : Option Frame) → f ≡ parse_of line →
      served_for (made_as r) (parse_of line) ≡ kept_by (answered_on r f)
  here_left high f ef = rw ef (left_served r (parse_of line) formed (count_low r formed) high)
