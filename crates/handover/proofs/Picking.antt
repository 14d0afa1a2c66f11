-- A first step that picks a waiter.
use Prim.Native.Nat.{ℕ, suc, ◌+◌, ◌<◌, ◌≤◌}
use mathlib.Core.Path.{◌≡◌, refl, ap, ◌∙◌}
use mathlib.Core.Bool.{Bool, true, false}
use mathlib.Core.Logic.{◌≢◌}
use mathlib.Core.List.{List, [], ◌∷◌}
use native.Mathlib.Omega.{arith}
use Rattle.std.specs.Prelude.{◌&&◌, if◌then◌else◌, Some}
use Rattle.waker.specs.Waker.{oldest, queue_of, without}
use Rattle.waker.specs.Wakers.{other_side}
use Rattle.waker.specs.declared.context.Thread.{Thread}
use Rattle.waker.specs.declared.context.Selected.TheVariants as word
use Rattle.std.specs.Prelude.{Some}
use Rattle.waker.specs.declared.wakers.Side.{Side}
use Rattle.waker.proofs.WakerLaws.{entries_queue_of}
use Rattle.channel.specs.Outcome.{writes}
use Rattle.zero.specs.ZeroSteps.{side_of, message_of, partner_for}
use Rattle.channel.specs.declared.answer.Tick.{Tick}
use Rattle.zero.specs.declared.call.Offer.{Offer}
use Rattle.zero.specs.declared.call.Offer.TheVariants.{Send, Receive}
use Rattle.zero.specs.declared.call.Limit.{Limit}
use Rattle.zero.specs.declared.call.ZeroCall.TheVariants.{First}
use Rattle.zero.specs.declared.outcome.ZeroEffect.TheVariants as effect
use Rattle.channel.specs.declared.outcome.Next.TheVariants.{Goes}
use Rattle.zero.specs.ZeroOutcome.{ZeroOutcome}
use Rattle.schedule.specs.Record.{place_of}
use Rattle.schedule.specs.History.{steps, Moment, updated}
use Rattle.forms.specs.FormWaits.{same_side, partner, partner_of, times_in}
use Rattle.places.specs.declared.place.Place.TheVariants.{Zero}
use Rattle.grown.proofs.Times.{Finds, found}
use Rattle.grown.proofs.Orderly.{view_on, Picks}
use Rattle.grown.proofs.Places.{stands_picked}
use Rattle.grown.proofs.ZeroMemory.{list_here}
use Rattle.grown.proofs.Scene.{Scene, Good}
use Rattle.grown.proofs.Meetings.{pick_good}
use Rattle.handover.specs.Meetings.{Past, Pair, pair_of, sender_of, word_at}
use Rattle.handover.specs.Statement.{queue_at, ahead_of, Waits}
use Rattle.handover.proofs.Inv.{Holding, Joint, Chosen, Waiter, AtCall, AtPlace, Inv}
use Rattle.grown.proofs.Updates.{updated_here, updated_else}
use Rattle.handover.proofs.Queues.{ahead_less, oldest_least}
use Rattle.handover.proofs.Sides.{twice, own_side, one_side}
use Rattle.handover.proofs.Moments.{step_to, stage, stands_at}
use Rattle.handover.proofs.Touch.{picks}
use Rattle.handover.proofs.Steady.{Load}
use Rattle.handover.proofs.Bystanders.{same, opposed_now}
use Rattle.handover.proofs.Waiters.{named, waiter, queued, waits_there, on_side_lem}
use Rattle.handover.proofs.Keeping.{After, unnamed, partnered}

-- What the picking call then has at its place.
met_at : (N : Moment Past) (t : ℕ) (v : Thread) (o : Offer) →
    Joint N t (other_side (side_of o)) v (N.past.carried (sender_of (other_side (side_of o)) t v.0)) 0 →
    message_of o ≡ N.past.carried t → Holding N v.0 (other_side (side_of o)) → AtPlace N t (Zero (partner_for o v))
met_at N t v (Send m) J e h = rw e J
met_at N t v Receive J e h = rw h J

-- Whom it names.
names : (o : Offer) (v : Thread) → partner_of (Zero (partner_for o v)) ≡ Some (partner (other_side (side_of o)) v)
names (Send m) v = refl
names Receive v = refl

module _ (M : Moment Past) (I : Inv M) (t : Thread) (there : t.0 < M.now.count) (o : Offer) (l : Limit) (v : Thread)
    (at : place_of M.now t.0 ≡ Zero (First o l))
    (f : oldest t M.now.zero.wakers.contexts (queue_at M.now (other_side (side_of o))) ≡ Some v) where
  abbrev ρ : Side
  ρ = other_side (side_of o)

  abbrev choosing : ZeroOutcome
  choosing = writes (effect.Pick ρ v) (Goes (partner_for o v))

  abbrev N : Moment Past
  N = step_to M t (First o l) choosing

  -- The message of the one that sends.
  abbrev x : ℕ
  x = M.past.carried (sender_of ρ t.0 v.0)

  abbrev queue : List Thread
  queue = queue_at M.now ρ

  F : Finds t M.now.zero.wakers.contexts queue v
  F = found t M.now.zero.wakers.contexts queue v f

  H : Scene M.now.zero M.now.threads t
  H = stage M I.kept t there

  mine : AtCall M t.0 (First o l)
  mine = rw at at (I.self t.0)

  -- The picked one was a waiter, which has left its queue, and now is picked.
  pub was : (d : Tick) × Waits M.now v.0 ρ d
  was = waits_there M I v.0 ρ F.there F.waiting

  W : Waiter M v.0 ρ
  W = waiter M I v.0 ρ was.0 was.1

  G : Good M.now.zero M.now.threads t H choosing
  G = pick_good M.now.zero M.now.threads t H o l v at f

  pub goes : place_of N.now t.0 ≡ Zero (partner_for o v)
  goes = stands_at M I.kept t there (First o l) choosing

  P : Picks (view_on N.now.zero N.now.threads) t.0 ρ v
  P = G.orderly.picks t.0 ρ v (ap partner_of goes ∙ names o v)

  pub becomes : word_at N.now v.0 ≡ word.Picked
  becomes = P.word

  pub gone : times_in v.0 (queue_at N.now ρ) ≡ 0
  gone = G.orderly.stands v.0 ρ ∙ stands_picked ρ _ _ P.word

  theirs : N.past.pairs v.0 ≡ pair_of t.0 x ∷ []
  theirs =
      updated_else _ t.0 _ v.0 F.apart ∙ updated_here M.past.pairs v.0 _
      ∙ ap (λ (l : List Pair). pair_of t.0 x ∷ l) W.unpaired

  joint : Joint N t.0 ρ v x 0
  joint =
      record {
        code = rw (twice (side_of o)) (on_side_lem M t.0 (side_of o) l mine.2);
        mine =
            updated_here (updated M.past.pairs v.0 (pair_of t.0 x ∷ M.past.pairs v.0)) t.0 _
            ∙ ap (λ (l : List Pair). pair_of v.0 x ∷ l) mine.0;
        theirs = theirs;
        sent = refl;
        since = updated_here M.past.since t.0 0;
      }

  chosen : Chosen N v.0 ρ t.0 x 0
  chosen =
      record {
        pair = theirs;
        own = λ s. ap (λ (σ : Side). M.past.carried (sender_of σ t.0 v.0)) s;
        since = λ r. cc (r, P.ready);
        message = λ r. cc (r, P.ready);
      }

  -- Every other waiter of that side has counted one more, and has one less ahead.
  less : (u : ℕ) → u ≢ t.0 → u ≢ v.0 → word_at M.now u ≡ word.Waiting → 0 < times_in u queue →
      suc (ahead_of u (queue_at N.now ρ)) ≤ ahead_of u queue
  less u n k w q =
      let e : queue_at N.now ρ ≡ without v queue =
      list_here M.now.zero.wakers ρ (queue_of (without v queue)) M.now.zero.wakers.contexts ∙ entries_queue_of (without v queue) in
      rw e (ahead_less v u queue k (oldest_least t M.now.zero.wakers.contexts u n w v queue f q) F.there)

  load : (u : ℕ) → u ≢ t.0 → u ≢ v.0 → Load M N (steps t) u
  load u n k σ d U = go (same_side ρ σ) refl
    where
      q : 0 < times_in u (queue_at M.now σ)
      q = omega (arith, queued M I u σ d U)

      now : N.past.opposed u
          ≡ (if same_side ρ σ && true then suc (M.past.opposed u) else M.past.opposed u)
      now = opposed_now M t (First o l) at u n choosing k ∙ rw (U.place, U.word)

      go : (b : Bool) → same_side ρ σ ≡ b →
          N.past.opposed u + ahead_of u (queue_at N.now σ) ≤ M.past.opposed u + ahead_of u (queue_at M.now σ)
      go true s =
          let g : ρ ≡ σ = one_side ρ σ s in
          let c : N.past.opposed u ≡ suc (M.past.opposed u) = now ∙ rw s in
          rw (← g) (omega (arith, c, less u n k U.word (rw (← g) at q)))
      go false s =
          let c : N.past.opposed u ≡ M.past.opposed u = now ∙ rw s in
          omega (arith, c, (same M t (First o l) at u n choosing k).ahead σ q)

  -- Nobody else names v: its word was Waiting.
  ours : (u : ℕ) (σ : Side) (y : Thread) → u ≢ t.0 → partner_of (place_of M.now u) ≡ Some (partner σ y) → y.0 ≢ v.0
  ours u σ y n e s = cc (rw s at (named M I u σ y e).word, F.waiting)

  pub pick_step : After M I t there (First o l) at choosing
  pick_step =
      partnered M I t there (First o l) at choosing ρ v x (λ u k. k) ours load
      (picks t o l refl at F.there F.waiting goes P.word) (unnamed M I t there (First o l) at choosing (λ τ. refl))
      (rw was.1.place (own_side ρ)) P.word (refl, refl) chosen (met_at N t.0 v o joint mine.1 W.holding)
