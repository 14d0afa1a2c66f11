-- Steps at wait, ready-wait and leave keep what holds at all places.
use Prim.Native.Nat.{ℕ, suc, ◌<◌, ◌≤◌}
use mathlib.Core.Path.{◌≡◌, refl, sym, ap, ◌∙◌}
use mathlib.Core.Bool.{true}
use mathlib.Core.Logic.{inr}
use mathlib.Core.List.{[], ◌∷◌}
use native.Mathlib.Omega.{arith}
use lib.Dec.{leb}
use borrow.Author.Tests.{leb-true}
use Rattle.std.specs.Prelude.{Some}
use Rattle.waker.specs.Context.{try_selected}
use Rattle.waker.specs.declared.context.Thread.{Thread}
use Rattle.waker.specs.declared.context.Selected.{Selected}
use Rattle.waker.specs.declared.context.Selected.TheVariants as word
use Rattle.waker.specs.declared.wakers.Side.{Side}
use Rattle.waker.specs.declared.wakers.Side.TheVariants.{Sender, Receiver}
use Rattle.channel.specs.Outcome.{writes, goes}
use Rattle.zero.specs.ZeroSteps.{wait_step, leave_step, left_for, ready_wait_step, met_by, back_to}
use Rattle.zero.specs.Zero.{kept_at_leave}
use Rattle.channel.specs.declared.answer.Tick.{Tick}
use Rattle.zero.specs.declared.Packet.{Packet}
use Rattle.zero.specs.declared.call.ZeroCall.TheVariants.{Wait, ReadyWait, Leave}
use Rattle.zero.specs.declared.outcome.ZeroEffect.TheVariants as effect
use Rattle.channel.specs.declared.outcome.Next.TheVariants.{Goes, Ends}
use Rattle.zero.specs.ZeroOutcome.{ZeroOutcome}
use Rattle.schedule.specs.Record.{place_of}
use Rattle.schedule.specs.History.{Moment}
use Rattle.places.specs.declared.place.Place.TheVariants.{Zero}
use Rattle.grown.proofs.Scene.{Scene, my_word, my_packet}
use Rattle.handover.specs.Meetings.{Past, wait_code, pair_of, word_at, packet_of}
use Rattle.handover.specs.Statement.{Tells}
use Rattle.handover.proofs.Inv.{Holding, Chosen, Waiter, CutOff, AtLeave, AtCall, Inv}
use Rattle.grown.proofs.Updates.{updated_here}
use Rattle.handover.proofs.Moments.{step_to, either, stage}
use Rattle.handover.proofs.Keeping.{After, unnamed, alone, quiet}

-- What a waiter's packet keeps when it turns to leave.
held : (M N : Moment Past) (t : ℕ) (σ : Side) → packet_of N.now t ≡ kept_at_leave σ (packet_of M.now t) →
    N.past.carried t ≡ M.past.carried t → Holding M t σ → Holding N t σ
held M N t Sender e c h = ap (λ (k : Packet). k.message) e ∙ h ∙ sym c
held M N t Receiver e c h = c ∙ h

-- So what it carried comes back.
comes_back : (M : Moment Past) (t : ℕ) (σ : Side) → Holding M t σ → back_to σ (packet_of M.now t).message ≡ M.past.carried t
comes_back M t Sender h = h
comes_back M t Receiver h = sym h

module _ (M : Moment Past) (I : Inv M) (t : Thread) (there : t.0 < M.now.count) (σ : Side) where
  H : Scene M.now.zero M.now.threads t
  H = stage M I.kept t there

  module _ (d : Tick) (at : place_of M.now t.0 ≡ Zero (Wait σ d)) where
    mine : AtCall M t.0 (Wait σ d)
    mine = rw at at (I.self t.0)

    -- It turns to leave: its deadline is over,
    abbrev late : ZeroOutcome
    late = writes (effect.Abort σ) (Goes (Leave σ))

    aborts : word_at M.now t.0 ≡ word.Waiting → d.0 ≤ M.now.clock.0 →
        After M I t there (Wait σ d) at late
    aborts w over =
        alone M I t there (Wait σ d) at late (λ u. tt) (λ u τ c n W. refl)
        (λ τ a p r. cc) (
          mine.0.0,
          rw (my_word _ _ t H M.now.zero.wakers.contexts (try_selected (word_at M.now t.0) word.Aborted) refl, w)
              (record {
                unpaired = W.unpaired;
                holding = held M (step_to M t (Wait σ d) late) t.0 σ (my_packet _ _ t H _) refl W.holding;
                late = omega (arith, mine.0.1);
              }),
        )
      where
        W : Waiter M t.0 σ
        W = rw w at mine.1

    -- or a disconnection has ended it.
    abbrev cut : ZeroOutcome
    cut = writes (effect.GiveUp σ) (Goes (Leave σ))

    gives_up : word_at M.now t.0 ≡ word.Disconnected → After M I t there (Wait σ d) at cut
    gives_up w =
        alone M I t there (Wait σ d) at cut (λ u. tt) (λ u τ c n W. refl)
        (λ τ a p r. cc) (
          mine.0.0,
          rw w
              (record {
                unpaired = C.unpaired;
                holding = held M (step_to M t (Wait σ d) cut) t.0 σ (my_packet _ _ t H _) refl C.holding;
                flag = C.flag;
              }),
        )
      where
        C : CutOff M t.0 σ
        C = rw w at mine.1

    waits_on_still : word_at M.now t.0 ≡ word.Waiting → After M I t there (Wait σ d) at (goes (Wait σ d))
    waits_on_still w =
        quiet M I t there (Wait σ d) at (Goes (Wait σ d)) (λ u τ c n W. refl)
        (mine.0, rw w (record { unpaired = W.unpaired; holding = W.holding; bound = W.bound }))
      where
        W : Waiter M t.0 σ
        W = rw w at mine.1

    wakes : word_at M.now t.0 ≡ word.Picked → After M I t there (Wait σ d) at (goes (ReadyWait σ))
    wakes w = go (rw w at mine.1)
      where
        go : (u m : ℕ) × Chosen M t.0 σ u m 0 → After M I t there (Wait σ d) at (goes (ReadyWait σ))
        go (u, m, C) =
            quiet M I t there (Wait σ d) at (Goes (ReadyWait σ)) (λ u τ c n W. refl) (
              u,
              m,
              mine.0.0,
              record {
                pair = C.pair;
                own = C.own;
                since = λ r. omega (arith, updated_here M.past.since t.0 (suc (M.past.since t.0)), C.since r);
                message = C.message;
              },
            )

    pub wait_step_lem : (w : Selected) → word_at M.now t.0 ≡ w → After M I t there (Wait σ d) at (wait_step σ d w M.now.clock)
    wait_step_lem word.Waiting w =
        either (After M I t there (Wait σ d) at) (leb d.0 M.now.clock.0) (λ b. aborts w (leb-true _ _ b)) (λ b. waits_on_still w)
    wait_step_lem word.Picked w = wakes w
    wait_step_lem word.Aborted w = absurd (rw w at mine.1)
    wait_step_lem word.Disconnected w = gives_up w

  module _ (at : place_of M.now t.0 ≡ Zero (ReadyWait σ)) where
    -- The mark is set: what passed is the message of the pair.
    met : (ρ : Side) (u m : ℕ) → M.past.code t.0 ≡ Some (wait_code ρ) → Chosen M t.0 ρ u m 1 →
        (packet_of M.now t.0).ready ≡ true → Tells M t.0 (met_by ρ (packet_of M.now t.0).message)
    met Sender u m c C r = (inr c, (u, C.pair ∙ ap (λ (x : ℕ). pair_of u x ∷ []) (C.own refl)))
    met Receiver u m c C r = (inr c, (u, C.pair ∙ ap (λ (x : ℕ). pair_of u x ∷ []) (sym (C.message r refl))))

    pub ready_step : After M I t there (ReadyWait σ) at (ready_wait_step σ (packet_of M.now t.0))
    ready_step = go (rw at at (I.self t.0))
      where
        go : AtCall M t.0 (ReadyWait σ) → After M I t there (ReadyWait σ) at (ready_wait_step σ (packet_of M.now t.0))
        go (u, m, c, C) =
            either (After M I t there (ReadyWait σ) at) (packet_of M.now t.0).ready
            (λ b.
            alone M I t there (ReadyWait σ) at (writes effect.Clear (Ends (met_by σ (packet_of M.now t.0).message)))
            (λ u. tt) (λ u τ c n W. refl) (λ τ a p r. cc (b, r)) (met σ u m c C b))
            (λ b.
            quiet M I t there (ReadyWait σ) at (Goes (ReadyWait σ)) (λ u τ c n W. refl) (
              u,
              m,
              c,
              record {
                pair = C.pair;
                own = C.own;
                since = λ r. cc (r, b);
                message = C.message;
              },
            ))

  module _ (at : place_of M.now t.0 ≡ Zero (Leave σ)) where
    at_leave : AtCall M t.0 (Leave σ)
    at_leave = rw at at (I.self t.0)

    left : (w : Selected) → AtLeave M t.0 σ w → Tells M t.0 (left_for σ w (packet_of M.now t.0).message)
    left word.Waiting L = absurd L
    left word.Picked L = absurd L
    left word.Aborted L = ((σ, at_leave.0), L.unpaired, comes_back M t.0 σ L.holding, L.late)
    left word.Disconnected L = ((σ, inr at_leave.0), L.unpaired, comes_back M t.0 σ L.holding, L.flag)

    abbrev leaving : Selected → ZeroOutcome
    leaving w = leave_step σ w (packet_of M.now t.0).message

    pub leave_step_lem : (w : Selected) → word_at M.now t.0 ≡ w → After M I t there (Leave σ) at (leaving w)
    leave_step_lem w e =
        alone M I t there (Leave σ) at (leaving w) (λ u. tt) (λ u τ c n W. refl)
        (unnamed M I t there (Leave σ) at (leaving w) (λ τ. refl)) (left w (rw e at at_leave.1))
