-- What has to be shown of a step of thread t, by whom its effect touches, for what holds at all places to hold on.
use Prim.Native.Nat.{ℕ, ◌<◌}
use mathlib.Core.Path.{◌≡◌, refl, sym, ap, ◌∙◌}
use mathlib.Core.Bool.{true, false}
use mathlib.Core.Logic.{◌≢◌}
use native.Mathlib.Omega.{arith}
use native.Mathlib.Decide.{ℕ_discrete}
use Rattle.waker.specs.Context.{thread}
use Rattle.waker.specs.declared.context.Thread.{Thread}
use Rattle.waker.specs.declared.context.Selected.TheVariants as word
use Rattle.waker.specs.declared.wakers.Side.{Side}
use Rattle.std.specs.Prelude.{None, Some}
use Rattle.channel.specs.declared.answer.Tick.{Tick}
use Rattle.zero.specs.declared.call.ZeroCall.{ZeroCall}
use Rattle.zero.specs.declared.call.ZeroCall.TheVariants.{Wait}
use Rattle.channel.specs.declared.outcome.Next.{Next}
use Rattle.zero.specs.ZeroOutcome.{ZeroOutcome}
use Rattle.schedule.specs.Record.{place_of}
use Rattle.schedule.specs.History.{steps, Moment}
use Rattle.forms.specs.FormWaits.{awaits, partner, partner_of}
use Rattle.places.specs.Place.{place_after}
use Rattle.places.specs.declared.place.Place.TheVariants.{Zero}
use Rattle.handover.specs.Meetings.{Past, opposes, word_at, packet_of}
use Rattle.handover.specs.Statement.{Waits}
use Rattle.handover.proofs.Inv.{Chosen, AtPlace, Inv}
use Rattle.handover.proofs.Moments.{step_to, elsewhere, stands_at}
use Rattle.handover.proofs.Touch.{Touch, spares, Kept}
use Rattle.handover.proofs.Steady.{Mate, same_mate, Load, steady}
use Rattle.handover.proofs.Waiters.{named, queued, SameCall, picked_at}
use Rattle.handover.proofs.Bystanders.{Spares, same, opposed_now}

module _ (M : Moment Past) (I : Inv M) (t : Thread) (there : t.0 < M.now.count) (k : ZeroCall)
    (at : place_of M.now t.0 ≡ Zero k) where
  abbrev pub After : ZeroOutcome → Type 0
  After o = Kept M (step_to M t k o) (steps t)

  -- The step at k is no first step that counts for a waiter.
  abbrev pub Flat : Type 0
  Flat = (u : ℕ) (σ : Side) (d : Tick) → u ≢ t.0 → Waits M.now u σ d → opposes k (Zero (Wait σ d)) word.Waiting ≡ false

  module _ (o : ZeroOutcome) where
    abbrev N : Moment Past
    N = step_to M t k o

    -- Of t itself, and of every other.
    together : AtPlace N t.0 (place_after Zero o.next) → ((u : ℕ) → u ≢ t.0 → AtPlace N u (place_of N.now u)) →
        ((u : ℕ) → u ≢ t.0 → Touch M N (steps t) u) → After o
    together own others touched =
        record {
          self = λ u. go u (ℕ_discrete u t.0);
          others = λ u σ w n. touched u (λ e. n (ap (λ (x : ℕ). steps (thread x)) (sym e)));
        }
      where
        go : (u : ℕ) → Dec (u ≡ t.0) → AtPlace N u (place_of N.now u)
        go u (yes e) = rw e (rw (stands_at M I.kept t there k o) own)
        go u (no n) = others u n

    -- A step that does not count for u leaves its load.
    pub unopposed : (u : ℕ) → u ≢ t.0 → Spares k o.effect u → Flat → Load M N (steps t) u
    unopposed u apart spared flat σ d W =
        let f : N.past.opposed u ≡ M.past.opposed u =
        opposed_now M t k at u apart o spared ∙ rw (W.place, W.word) (rw (flat u σ d apart W)) in
        omega (arith, f, (same M t k at u apart o spared).ahead σ (omega (arith, queued M I u σ d W)))

    -- A call that names t, which is picked and its mark not set, finds of it what it had.
    abbrev Calm : Type 0
    Calm = (σ : Side) → awaits σ (place_of M.now t.0) ≡ true → word_at M.now t.0 ≡ word.Picked →
        (packet_of M.now t.0).ready ≡ false → Mate M N (steps t) t.0

    -- So a thread that the effect does not touch, nor its partner, has at its place what it had.
    stays : Calm → ((u : ℕ) (σ : Side) (v : Thread) → u ≢ t.0 → partner_of (place_of M.now u) ≡ Some (partner σ v) →
        Spares k o.effect v.0) → (u : ℕ) → u ≢ t.0 → Spares k o.effect u → Load M N (steps t) u →
        AtPlace N u (place_of N.now u)
    stays calm theirs u apart spared load =
        steady M N (steps t) u (same M t k at u apart o spared) load (λ σ v e. mate σ v e (ℕ_discrete v.0 t.0)) (I.self u)
      where
        mate : (σ : Side) (v : Thread) → partner_of (place_of M.now u) ≡ Some (partner σ v) → Dec (v.0 ≡ t.0) → Mate M N (steps t) v.0
        mate σ v e (yes g) =
            let P = named M I u σ v e in
            rw g (calm σ (rw g at P.waits) (rw g at P.word) (rw g at P.ready))
        mate σ v e (no n) = same_mate M N (steps t) (same M t k at v.0 n o (theirs u σ v apart e))

    -- Nobody names t where it doesn't await.
    pub unnamed : ((σ : Side) → awaits σ (Zero k) ≡ false) → Calm
    unnamed free σ a w r = cc (free σ)

    -- An effect that touches only t.
    pub alone : ((u : ℕ) → Spares k o.effect u) → Flat → Calm → AtPlace N t.0 (place_after Zero o.next) → After o
    alone spared flat calm own =
        together own
        (λ u n. stays calm (λ x σ v m e. spared v.0) u n (spared u) (unopposed u n (spared u) flat))
        (λ u n. spares (same M t k at u n o (spared u)))

    -- An effect that touches also v, whom nobody else names: v is picked then.
    module _ (ρ : Side) (v : Thread) (m : ℕ) (spared : (u : ℕ) → u ≢ v.0 → Spares k o.effect u)
        (ours : (u : ℕ) (σ : Side) (x : Thread) → u ≢ t.0 → partner_of (place_of M.now u) ≡ Some (partner σ x) → x.0 ≢ v.0)
        (load : (u : ℕ) → u ≢ t.0 → u ≢ v.0 → Load M N (steps t) u) (touched : Touch M N (steps t) v.0) where
      pub partnered : Calm → awaits ρ (place_of M.now v.0) ≡ true → word_at N.now v.0 ≡ word.Picked →
          SameCall M N v.0 → Chosen N v.0 ρ t.0 m 0 →
          AtPlace N t.0 (place_after Zero o.next) → After o
      partnered calm waits picked alike C own =
          together own (λ u n. go u n (ℕ_discrete u v.0)) (λ u n. touches u n (ℕ_discrete u v.0))
        where
          go : (u : ℕ) → u ≢ t.0 → Dec (u ≡ v.0) → AtPlace N u (place_of N.now u)
          go u n (yes e) =
              rw (elsewhere M.now t.0 (place_after Zero o.next) u n)
              (rw e (picked_at M N v.0 ρ t.0 m C picked alike (place_of M.now v.0) waits (I.self v.0)))
          go u n (no f) = stays calm (λ y σ x away e. spared x.0 (ours y σ x away e)) u n (spared u f) (load u n f)

          touches : (u : ℕ) → u ≢ t.0 → Dec (u ≡ v.0) → Touch M N (steps t) u
          touches u n (yes e) = rw e touched
          touches u n (no f) = spares (same M t k at u n o (spared u f))

  -- Nothing is written.
  pub quiet : (n : Next ZeroCall) → Flat → AtPlace (step_to M t k (record { next = n; effect = None })) t.0 (place_after Zero n) →
      After (record { next = n; effect = None })
  quiet n flat own =
      alone (record { next = n; effect = None }) (λ u. tt) flat (λ σ a w r. record { packet = refl; carried = refl; pairs = refl }) own
