-- The moment after a step of thread t: nothing has changed, or the step of its place was made.
use Prim.Native.Nat.{ℕ, ◌<◌}
use mathlib.Core.Path.{◌≡◌, refl, ap}
use mathlib.Core.Bool.{Bool, true, false}
use mathlib.Core.Logic.{◌≢◌}
use lib.Seq.{get_or-set_other}
use Rattle.std.specs.Prelude.{if◌then◌else◌, None, Ok, Err}
use Rattle.std.proofs.lemmas.Bool.{cond_both}
use Rattle.waker.specs.declared.context.Thread.{Thread}
use Rattle.zero.specs.Zero.{outcome_of, applied}
use Rattle.zero.specs.declared.call.ZeroCall.{ZeroCall}
use Rattle.zero.specs.ZeroOutcome.{ZeroOutcome}
use Rattle.schedule.specs.Record.{thread_at, place_of, with_thread, after_zero}
use Rattle.schedule.specs.History.{steps, act_on, Moment, remembered, next}
use Rattle.places.specs.Place.{place_after}
use Rattle.places.specs.declared.place.Place.{Place}
use Rattle.places.specs.declared.place.Place.TheVariants.{Idle, Zero}
use Rattle.schedule.specs.declared.record.Record.{Record}
use Rattle.schedule.specs.declared.record.ThreadRecord.{ThreadRecord}
use Rattle.bounds.specs.declared.refusal.Refusal.{Refusal}
use Rattle.bounds.specs.Refusal.{Reply}
use Rattle.grown.proofs.Acts.{every_reply}
use Rattle.grown.proofs.Scene.{Scene, here}
use Rattle.grown.proofs.ZeroKept.{KeptZero}
use Rattle.grown.proofs.ZeroMoves.{scene}
use Rattle.handover.specs.Meetings.{Past, brought, rule}
use Rattle.handover.specs.Statement.{Accepted}

-- With a given outcome at place k, and with the outcome of that place.
abbrev pub step_to : Moment Past → Thread → ZeroCall → ZeroOutcome → Moment Past
step_to M t k o =
    record {
      now = after_zero M.now t.0 (applied M.now.zero t o.effect, o.next);
      past = brought M.now M.past t.0 k o.effect;
    }

abbrev pub after_step : Moment Past → Thread → ZeroCall → Moment Past
after_step M t k = step_to M t k (outcome_of M.now.zero t M.now.clock k)

-- What holds of both outcomes of a test holds of its outcome.
pub either : (P : ZeroOutcome → Type 0) (b : Bool) {x y : ZeroOutcome} → (b ≡ true → P x) → (b ≡ false → P y) →
    P (if b then x else y)
either P b {x} {y} = cond_both b x y P

module _ (M : Moment Past) (t : Thread) (k : ZeroCall) (at : place_of M.now t.0 ≡ Zero k) where
  pub step_is : (Q : Moment Past → Reply → Type 0) → ((n : Refusal) → Q M (Err n)) →
      (t.0 < M.now.count → Q (after_step M t k) (Ok None)) → Q (next rule M (steps t)) (act_on M.now (steps t)).reply
  step_is Q stays goes =
      every_reply M.now
      (λ a y. a ≡ steps t → Q (record { now = y.next; past = remembered rule M a y.reply }) y.reply)
      (record {
        refuse = λ a n e. stays n;
        begin = λ u c m d p l e s g. cc;
        array = λ u c l few e g. cc;
        zero = λ u c l few e g. rw e (go u c (cc) (cc) l);
        fail = λ u c j l few e f g. cc;
        advance = λ n l g. cc;
        take = λ u a l e g. cc;
      })
      (steps t) refl
    where
      go : (u : Thread) (c : ZeroCall) → u ≡ t → c ≡ k → u.0 < M.now.count → Q (after_step M u c) (Ok None)
      go u c e f l = rw (e, f) (goes (rw e at l))

  -- An accepted step was made.
  pub step_done : (Q : Moment Past → Type 0) → (t.0 < M.now.count → Q (after_step M t k)) → Accepted M (steps t) →
      Q (next rule M (steps t))
  step_done Q h =
      step_is (λ N y. y ≡ Ok None → Q N) (λ n e. cc) (λ l e. h l)

-- Where the others stand once t stands at p,
pub elsewhere : (r : Record) (t : ℕ) (p : Place) (u : ℕ) → u ≢ t → place_of (with_thread r t p) u ≡ place_of r u
elsewhere r t p u n = ap (λ (x : ThreadRecord). x.place) (get_or-set_other r.threads t u (thread_at p) (thread_at Idle) n)

module _ (M : Moment Past) (K : KeptZero M.now) (t : Thread) (there : t.0 < M.now.count) where
  -- Where t's step is made.
  pub stage : Scene M.now.zero M.now.threads t
  stage = scene M.now K t there

  -- and where t stands after its step.
  pub stands_at : (k : ZeroCall) (o : ZeroOutcome) → place_of (step_to M t k o).now t.0 ≡ place_after Zero o.next
  stands_at k o = here _ _ t stage (place_after Zero o.next)
