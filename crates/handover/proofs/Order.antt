-- A first step: it registers its call, or picks the oldest waiting entry.
use Prim.Native.Nat.{ℕ, ◌<◌, ◌≤◌}
use mathlib.Core.Path.{◌≡◌, refl, sym, ap, subst, ◌∙◌}
use mathlib.Core.Bool.{Bool}
use mathlib.Core.Logic.{◌⊎◌, inl, inr, ◌≢◌}
use mathlib.Core.List.{List}
use native.Mathlib.Omega.{arith}
use native.Mathlib.Decide.{ℕ_discrete}
use Rattle.waker.specs.Waker.{oldest}
use Rattle.waker.specs.Wakers.{other_side}
use Rattle.waker.specs.declared.context.Thread.{Thread}
use Rattle.std.specs.Prelude.{Option, Some, None}
use Rattle.waker.specs.declared.wakers.Side.{Side}
use Rattle.channel.specs.Outcome.{writes, ends}
use Rattle.zero.specs.ZeroSteps.{side_of, message_of, partner_for, alone_step, first_step}
use Rattle.zero.specs.Zero.{found_by}
use Rattle.channel.specs.declared.answer.Tick.{Tick}
use Rattle.channel.specs.declared.answer.Answer.{Answer}
use Rattle.channel.specs.declared.answer.Answer.TheVariants.{Disconnected}
use Rattle.zero.specs.declared.Zero.{Zero as Memory}
use Rattle.zero.specs.declared.call.Offer.{Offer}
use Rattle.zero.specs.declared.call.Offer.TheVariants.{Send, Receive}
use Rattle.zero.specs.declared.call.Limit.{Limit}
use Rattle.zero.specs.declared.call.Limit.TheVariants.{Try, Until}
use Rattle.zero.specs.declared.call.ZeroCall.TheVariants.{First, Wait}
use Rattle.zero.specs.declared.outcome.ZeroEffect.TheVariants as effect
use Rattle.channel.specs.declared.outcome.Next.TheVariants.{Goes}
use Rattle.zero.specs.ZeroOutcome.{ZeroOutcome}
use Rattle.schedule.specs.Record.{place_of}
use Rattle.forms.specs.FormWaits.{times_in}
use Rattle.schedule.specs.History.{steps, Moment, next}
use Rattle.places.specs.Place.{place_after}
use Rattle.places.specs.declared.place.Place.TheVariants.{Zero, Done}
use Rattle.grown.proofs.Times.{found}
use Rattle.grown.proofs.ZeroKept.{KeptZero}
use Rattle.handover.specs.Meetings.{Past, rule}
use Rattle.handover.specs.Statement.{queue_at, ahead_of, Waits, Accepted, Registered, Picks}
use Rattle.handover.proofs.Inv.{Inv}
use Rattle.handover.proofs.Queues.{same_entry, oldest_least, oldest_none}
use Rattle.handover.proofs.Sides.{twice}
use Rattle.handover.proofs.Moments.{step_to, step_is, step_done, stands_at, either}
use Rattle.handover.proofs.Waiters.{waiter, queued}
use Rattle.handover.proofs.Joining.{joined, at_wait, registered}
use Rattle.handover.proofs.Picking.{was, goes, becomes, gone}

module _ (M : Moment Past) (I : Inv M) where
  abbrev z : Memory
  z = M.now.zero

  abbrev K : KeptZero M.now
  K = I.kept

  module _ (t : Thread) (o : Offer) (σ : Side) (d : Tick) where
    -- From M to N the step, if it leads to wait, registers.
    abbrev pub Joins : Moment Past → Type 0
    Joins N = place_of N.now t.0 ≡ Zero (Wait σ d) → (σ ≡ side_of o) × Registered M N t (side_of o) d

    partner_waits : (o : Offer) (v : Thread) → Zero (partner_for o v) ≡ Zero (Wait σ d) → ⊥
    partner_waits (Send m) v e = cc
    partner_waits Receive v e = cc

    done_waits : (a : Answer) → Done a ≡ Zero (Wait σ d) → ⊥
    done_waits a e = cc

    module _ (there : t.0 < M.now.count) where
      ended : (l : Limit) (x : ZeroOutcome) → (place_after Zero x.next ≡ Zero (Wait σ d) → ⊥) → Joins (step_to M t (First o l) x)
      ended l x n e = absurd (n (sym (stands_at M K t there (First o l) x) ∙ e))

      alone : (l : Limit) → Joins (step_to M t (First o l) (alone_step o l))
      alone Try e = ended Try (alone_step o Try) (done_waits _) e
      alone (Until c) e =
          let f = at_wait M I t there o c in (
            cc,
            subst (λ (x : Tick). Registered M (joined M I t there o c) t (side_of o) x) (cc) (registered M I t there o c),
          )

      first : (l : Limit) (f : Option Thread) (b : Bool) → Joins (step_to M t (First o l) (first_step o l f b))
      first l (Some v) b = ended l (first_step o l (Some v) b) (partner_waits o v)
      first l None b =
          either (λ x. Joins (step_to M t (First o l) x)) b (λ g. ended l (ends (Disconnected (message_of o))) (done_waits _))
          (λ g. alone l)

    pub registers : (l : Limit) → place_of M.now t.0 ≡ Zero (First o l) → Joins (next rule M (steps t))
    registers l at =
        step_is M t (First o l) at (λ N y. Joins N)
        (λ n e.
        cc)
        (λ there. first there l (found_by z t (First o l)) z.disconnected)

  -- Who is picked.
  module _ (u : Thread) (o : Offer) (l : Limit) (at : place_of M.now u.0 ≡ Zero (First o l)) (t : ℕ) (d : Tick)
      (W : Waits M.now t (other_side (side_of o)) d) where
    abbrev ρ : Side
    ρ = other_side (side_of o)

    abbrev q : List Thread
    q = queue_at M.now ρ

    apart : t ≢ u.0
    apart e = cc

    here : 0 < times_in t q
    here = omega (arith, queued M I t ρ d W)

    picked : (there : u.0 < M.now.count) (v : Thread) → oldest u z.wakers.contexts q ≡ Some v →
        Picks M (step_to M u (First o l) (writes (effect.Pick (other_side (side_of o)) v) (Goes (partner_for o v)))) t u ρ o
    picked there v f =
        record {
          whom = v;
          entry = let (c, U) = was M I u there o l v at f in queued M I v.0 ρ c U;
          near = go (ℕ_discrete v.0 t) (ℕ_discrete (ahead_of v.0 q) (ahead_of t q));
          goes = goes M I u there o l v at f;
          word = becomes M I u there o l v at f;
          gone = gone M I u there o l v at f;
          due = λ e. same (omega (arith, least, (waiter M I t ρ d W).bound));
        }
      where
        inside : 0 < times_in v.0 q
        inside = (found u z.wakers.contexts q v f).there

        least : ahead_of v.0 q ≤ ahead_of t q
        least = oldest_least u z.wakers.contexts t apart W.word v q f here

        same : ahead_of v.0 q ≡ ahead_of t q → v.0 ≡ t
        same = same_entry v.0 t q inside here

        go : Dec (v.0 ≡ t) → Dec (ahead_of v.0 q ≡ ahead_of t q) → (v.0 ≡ t) ⊎ (ahead_of v.0 q < ahead_of t q)
        go (yes e) g = inl e
        go (no e) (yes g) = inl (same g)
        go (no e) (no g) = inr (omega (arith, least))

    picks_on : Accepted M (steps u) → Picks M (next rule M (steps u)) t u ρ o
    picks_on = step_done M u (First o l) at (λ N. Picks M N t u ρ o) (λ there. go there _ refl)
      where
        go : u.0 < M.now.count → (f : Option Thread) → oldest u z.wakers.contexts q ≡ f →
            Picks M (step_to M u (First o l) (first_step o l f z.disconnected)) t u ρ o
        go there (Some v) f = picked there v f
        go there None f = absurd (oldest_none u z.wakers.contexts t apart W.word q f here)

  pub picks : (t : ℕ) (σ : Side) (d : Tick) → Waits M.now t σ d → (u : Thread) (o : Offer) (l : Limit) →
      place_of M.now u.0 ≡ Zero (First o l) → side_of o ≡ other_side σ → Accepted M (steps u) →
      Picks M (next rule M (steps u)) t u σ o
  picks t σ d W u o l at s a =
      let e : other_side (side_of o) ≡ σ = ap other_side s ∙ twice σ in
      subst (λ (τ : Side). Picks M (next rule M (steps u)) t u τ o) e
      (picks_on u o l at t d (subst (λ (τ : Side). Waits M.now t τ d) (sym e) W) a)
