-- Every step of a call keeps what holds at all places.
use Prim.Native.Nat.{◌<◌}
use mathlib.Core.Path.{◌≡◌, refl}
use mathlib.Core.Bool.{Bool, true, false}
use Rattle.waker.specs.Waker.{oldest}
use Rattle.waker.specs.Wakers.{other_side}
use Rattle.waker.specs.declared.context.Thread.{Thread}
use Rattle.std.specs.Prelude.{Option, Some, None}
use Rattle.channel.specs.Outcome.{writes, ends}
use Rattle.zero.specs.ZeroSteps.{side_of, first_step, ask_step}
use Rattle.zero.specs.Zero.{outcome_of}
use Rattle.channel.specs.declared.answer.Answer.{Answer}
use Rattle.channel.specs.declared.answer.Answer.TheVariants.{Number, Yes, No}
use Rattle.zero.specs.declared.call.Offer.{Offer}
use Rattle.zero.specs.declared.call.Limit.{Limit}
use Rattle.zero.specs.declared.call.Question.{Question}
use Rattle.zero.specs.declared.call.Question.TheVariants as ask
use Rattle.zero.specs.declared.call.ZeroCall.{ZeroCall}
use Rattle.zero.specs.declared.call.ZeroCall.TheVariants.{First, Put, PutReady, Take, TakeReady, Wait, ReadyWait, Leave, Ask}
use Rattle.zero.specs.declared.outcome.ZeroEffect.TheVariants as effect
use Rattle.channel.specs.declared.outcome.Next.TheVariants.{Ends}
use Rattle.schedule.specs.Record.{place_of}
use Rattle.schedule.specs.History.{Moment}
use Rattle.places.specs.declared.place.Place.TheVariants.{Zero}
use Rattle.handover.specs.Meetings.{Past}
use Rattle.handover.specs.Statement.{queue_at, Unpaired, Asks, Tells}
use Rattle.handover.proofs.Inv.{AtCall, Inv}
use Rattle.handover.proofs.Moments.{step_to}
use Rattle.handover.proofs.Keeping.{After, unnamed, alone, quiet}
use Rattle.handover.proofs.Joining.{nobody_step}
use Rattle.handover.proofs.Picking.{pick_step}
use Rattle.handover.proofs.Serving.{put_step_lem, put_ready_step_lem, take_step_lem, take_ready_step_lem}
use Rattle.handover.proofs.Ending.{wait_step_lem, ready_step, leave_step_lem}

module _ (M : Moment Past) (I : Inv M) (t : Thread) (there : t.0 < M.now.count) where
  first_step_lem : (o : Offer) (l : Limit) (at : place_of M.now t.0 ≡ Zero (First o l)) (x : Option Thread) →
      oldest t M.now.zero.wakers.contexts (queue_at M.now (other_side (side_of o))) ≡ x →
      After M I t there (First o l) at (first_step o l x M.now.zero.disconnected)
  first_step_lem o l at (Some v) f = pick_step M I t there o l v at f
  first_step_lem o l at None f = nobody_step M I t there o f l at

  module _ (q : Question) (at : place_of M.now t.0 ≡ Zero (Ask q)) where
    mine : AtCall M t.0 (Ask q)
    mine = rw at at (I.self t.0)

    asks : Asks M t.0 × Unpaired M t.0
    asks = ((q, mine.0), mine.1)

    answers : (a : Answer) → Tells (step_to M t (Ask q) (ends a)) t.0 a →
        After M I t there (Ask q) at (ends a)
    answers a h = quiet M I t there (Ask q) at (Ends a) (λ u σ d n W. refl) h

    yes : After M I t there (Ask q) at (ends Yes)
    yes = answers Yes asks

    no : After M I t there (Ask q) at (ends No)
    no = answers No asks

  disconnects : (at : place_of M.now t.0 ≡ Zero (Ask ask.Disconnect)) →
      After M I t there (Ask ask.Disconnect) at (writes effect.Disconnect (Ends Yes))
  disconnects at =
      alone M I t there (Ask ask.Disconnect) at (writes effect.Disconnect (Ends Yes)) (λ u. refl) (λ u σ d n W. refl)
      (unnamed M I t there (Ask ask.Disconnect) at (writes effect.Disconnect (Ends Yes)) (λ τ. refl)) (asks ask.Disconnect at)

  ask_step_lem : (q : Question) (at : place_of M.now t.0 ≡ Zero (Ask q)) (b : Bool) → After M I t there (Ask q) at (ask_step q b)
  ask_step_lem ask.Len at b = answers ask.Len at (Number 0) (mine ask.Len at)
  ask_step_lem ask.IsEmpty at b = yes ask.IsEmpty at
  ask_step_lem ask.IsFull at b = yes ask.IsFull at
  ask_step_lem ask.IsDisconnected at true = yes ask.IsDisconnected at
  ask_step_lem ask.IsDisconnected at false = no ask.IsDisconnected at
  ask_step_lem ask.Disconnect at true = no ask.Disconnect at
  ask_step_lem ask.Disconnect at false = disconnects at

  pub every_step : (k : ZeroCall) (at : place_of M.now t.0 ≡ Zero k) →
      After M I t there k at (outcome_of M.now.zero t M.now.clock k)
  every_step (First o l) at = first_step_lem o l at _ refl
  every_step (Put v m) at = put_step_lem M I t there v m at
  every_step (PutReady v) at = put_ready_step_lem M I t there v at
  every_step (Take v) at = take_step_lem M I t there v at
  every_step (TakeReady v m) at = take_ready_step_lem M I t there v m at
  every_step (Wait σ d) at = wait_step_lem M I t there σ d at _ refl
  every_step (ReadyWait σ) at = ready_step M I t there σ at
  every_step (Leave σ) at = leave_step_lem M I t there σ at _ refl
  every_step (Ask q) at = ask_step_lem q at _
