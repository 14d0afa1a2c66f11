-- What any call makes of a waiter.
use Prim.Native.Nat.{ℕ, ◌<◌, ◌≤◌}
use mathlib.Core.Path.{◌≡◌, refl, sym, ap, subst, ◌∙◌}
use mathlib.Core.Bool.{true}
use mathlib.Core.Logic.{◌≢◌}
use native.Mathlib.Omega.{arith}
use native.Mathlib.Decide.{ℕ_discrete}
use lib.Dec.{leb}
use borrow.Author.Tests.{leb-true}
use Rattle.std.specs.Prelude.{Some}
use Rattle.waker.specs.Context.{thread, try_selected}
use Rattle.waker.specs.Wakers.{other_side, selected_in}
use Rattle.waker.specs.declared.context.Thread.{Thread}
use Rattle.waker.specs.declared.context.Selected.{Selected}
use Rattle.waker.specs.declared.context.Selected.TheVariants as word
use Rattle.waker.specs.declared.wakers.Side.{Side}
use Rattle.channel.specs.Outcome.{writes, goes}
use Rattle.zero.specs.ZeroSteps.{side_of, wait_step}
use Rattle.channel.specs.declared.answer.Tick.{Tick}
use Rattle.zero.specs.declared.Zero.{Zero as Memory}
use Rattle.zero.specs.declared.call.Offer.{Offer}
use Rattle.zero.specs.declared.call.ZeroCall.TheVariants.{Wait, Leave}
use Rattle.zero.specs.declared.outcome.ZeroEffect.TheVariants as effect
use Rattle.channel.specs.declared.outcome.Next.TheVariants.{Goes}
use Rattle.zero.specs.ZeroOutcome.{ZeroOutcome}
use Rattle.schedule.specs.Record.{place_of}
use Rattle.forms.specs.FormWaits.{awaits, partner, partner_of, times_in}
use Rattle.schedule.specs.History.{Act, steps, Moment, next}
use Rattle.grown.proofs.Scene.{my_word}
use Rattle.grown.proofs.ZeroKept.{KeptZero}
use Rattle.grown.proofs.ZeroMemory.{same_list}
use Rattle.handover.specs.Meetings.{Past, word_at, rule}
use Rattle.handover.specs.Statement.{queue_at, ahead_of, Waits, Fate, waits_on_still, is_picked_first, times_out, cut_off, Untouched}
use Rattle.handover.proofs.Inv.{Inv}
use Rattle.handover.proofs.Sides.{twice, own_side, awaits_once}
use Rattle.handover.proofs.Moments.{step_to, either, step_is, stage, stands_at}
use Rattle.handover.proofs.Touch.{Cut, Word, keeps, cuts, Same, Touch, spares, picks, serves}
use Rattle.handover.proofs.Waiters.{named, queued, waits_there}
use Rattle.handover.proofs.Histories.{every_call}

module _ (M : Moment Past) (I : Inv M) where
  abbrev z : Memory
  z = M.now.zero

  abbrev K : KeptZero M.now
  K = I.kept

  module _ (t : ℕ) (σ : Side) (d : Tick) (W : Waits M.now t σ d) where
    -- What becomes of it, and of those ahead of it while it waits on.
    pub record GoesOn (N : Moment Past) (a : Act) : Type 0 where
      pub fate : Fate M N a t σ d
      pub fewer : Waits N.now t σ d → ahead_of t (queue_at N.now σ) ≤ ahead_of t (queue_at M.now σ)

    runs : awaits σ (place_of M.now t) ≡ true
    runs = rw W.place (own_side σ)

    -- Whoever finds it in a queue is of the other side.
    opposite : (o : Offer) → 0 < times_in t (queue_at M.now (other_side (side_of o))) → side_of o ≡ other_side σ
    opposite o l =
        let (c, U) = waits_there M I t (other_side (side_of o)) l W.word in
        cc (twice (side_of o))

    other : (a : Act) (N : Moment Past) → Touch M N a t → GoesOn N a
    other a N (spares S) =
        record { fate = go S.word; fewer = λ still. S.ahead σ (omega (arith, queued M I t σ d W)) }
      where
        go : Word (Cut M a N.now.zero.disconnected) (word_at M.now t) (word_at N.now t) → Fate M N a t σ d
        go (keeps e) = waits_on_still (record { place = S.place ∙ W.place; word = e ∙ W.word })
        go (cuts e f C) = cut_off C.who C.does C.place f
    other a N (picks u o l e at q w g x) =
        record { fate = is_picked_first u o l e at (opposite o q) g x; fewer = λ still. cc (x, still.word) }
    other a N (serves u ρ e p) = cc ((named M I u.0 ρ (thread t) p).word, W.word)

    module _ (there : t < M.now.count) where
      abbrev Own : ZeroOutcome → Type 0
      Own x = GoesOn (step_to M (thread t) (Wait σ d) x) (steps (thread t))

      late : d.0 ≤ M.now.clock.0 → Own (writes (effect.Abort σ) (Goes (Leave σ)))
      late l =
          record {
            fate =
                times_out refl l
                (stands_at M K (thread t) there (Wait σ d) (writes (effect.Abort σ) (Goes (Leave σ))))
                (my_word _ _ (thread t) (stage M K (thread t) there) _ _ refl
                ∙ ap (λ (w : Selected). try_selected w word.Aborted) W.word);
            fewer = λ still.
                rw (same_list z.wakers (selected_in z.wakers.contexts (thread t) word.Aborted) σ) (omega arith);
          }

      early : Own (goes (Wait σ d))
      early =
          record {
            fate =
                waits_on_still
                (record { place = stands_at M K (thread t) there (Wait σ d) (goes (Wait σ d)); word = W.word });
            fewer = λ still. omega arith;
          }

      polled : (w : Selected) → w ≡ word.Waiting → Own (wait_step σ d w M.now.clock)
      polled w e =
          rw e
          (either Own (leb d.0 M.now.clock.0) (λ g. late (leb-true d.0 M.now.clock.0 g)) (λ g. early))

    own : GoesOn (next rule M (steps (thread t))) (steps (thread t))
    own =
        step_is M (thread t) (Wait σ d) W.place (λ N y. GoesOn N (steps (thread t)))
        (λ n. record { fate = waits_on_still W; fewer = λ still. omega arith })
        (λ there. polled there (word_at M.now t) W.word)

    -- Any call.
    others : (a : Act) → a ≢ steps (thread t) → GoesOn (next rule M a) a
    others a n = other a (next rule M a) ((every_call M I a).others t σ runs n)

    pub goes_on_here : (a : Act) → GoesOn (next rule M a) a
    goes_on_here (steps u) = go (ℕ_discrete u.0 t)
      where
        go : Dec (u.0 ≡ t) → GoesOn (next rule M (steps u)) (steps u)
        go (yes e) =
            subst (λ (w : Thread). GoesOn (next rule M (steps w)) (steps w)) (ap thread (sym e)) own
        go (no n) =
            others (steps u) (λ g. n (cc))
    goes_on_here a = others a (λ g. cc)

  -- A picked waiter is touched by its own step and its partner's alone.
  pub alone : (t : ℕ) (σ : Side) → awaits σ (place_of M.now t) ≡ true → word_at M.now t ≡ word.Picked → (a : Act) →
      a ≢ steps (thread t) → ((u : Thread) → a ≡ steps u → partner_of (place_of M.now u.0) ≢ Some (partner σ (thread t))) →
      Untouched M (next rule M a) t
  alone t σ runs picked a n mate = go ((every_call M I a).others t σ runs n)
    where
      left : Same M (next rule M a) a t → word_at (next rule M a).now t ≡ word_at M.now t → Untouched M (next rule M a) t
      left S e = record { place = S.place; word = e; packet = S.packet; pairs = S.pairs; since = S.since }

      unturned : (S : Same M (next rule M a) a t) →
          Word (Cut M a (next rule M a).now.zero.disconnected) (word_at M.now t) (word_at (next rule M a).now t) →
          Untouched M (next rule M a) t
      unturned S (keeps e) = left S e
      unturned S (cuts e f C) = cc

      go : Touch M (next rule M a) a t → Untouched M (next rule M a) t
      go (spares S) = unturned S S.word
      go (picks u o l e at q w g x) = cc
      go (serves u ρ e p) =
          let s : ρ ≡ σ = awaits_once ρ σ (place_of M.now t) (named M I u.0 ρ (thread t) p).waits runs in
          absurd (mate u e (p ∙ ap (λ (τ : Side). Some (partner τ (thread t))) s))
