-- A pick's two calls: the further steps of the one that picked, and the last own steps of the one that was picked.
use Prim.Native.Nat.{ℕ, suc, ◌<◌}
use mathlib.Core.Path.{◌≡◌, refl, ap, subst, ◌∙◌}
use mathlib.Core.Bool.{true, false}
use mathlib.Core.List.{List, [], ◌∷◌}
use native.Mathlib.Omega.{arith}
use Rattle.std.specs.Prelude.{Some}
use Rattle.std.proofs.lemmas.Option.{same_Some}
use Rattle.waker.specs.declared.context.Thread.{Thread}
use Rattle.waker.specs.declared.context.Selected.{Selected}
use Rattle.waker.specs.declared.context.Selected.TheVariants as word
use Rattle.waker.specs.declared.wakers.Side.{Side}
use Rattle.waker.specs.declared.wakers.Side.TheVariants.{Sender, Receiver}
use Rattle.channel.specs.Outcome.{writes, goes}
use Rattle.zero.specs.ZeroSteps.{met_by, wait_step}
use Rattle.zero.specs.Zero.{packet_at, with_packet, outcome_of}
use Rattle.channel.specs.declared.answer.Tick.{Tick}
use Rattle.channel.specs.declared.answer.Answer.TheVariants.{Received}
use Rattle.zero.specs.declared.Packet.{Packet}
use Rattle.zero.specs.declared.Zero.{Zero as Memory}
use Rattle.zero.specs.declared.call.ZeroCall.{ZeroCall}
use Rattle.zero.specs.declared.call.ZeroCall.TheVariants.{Put, PutReady, Take, TakeReady, Wait, ReadyWait}
use Rattle.zero.specs.declared.outcome.ZeroEffect.TheVariants as effect
use Rattle.channel.specs.declared.outcome.Next.TheVariants.{Ends as Ended}
use Rattle.schedule.specs.Record.{place_of}
use Rattle.forms.specs.declared.waits.Partner.{Partner}
use Rattle.forms.specs.FormWaits.{is_picked, awaits, zero_partner, partner, partner_of}
use Rattle.schedule.specs.History.{steps, Moment, next, updated}
use Rattle.places.specs.Place.{place_after}
use Rattle.places.specs.declared.place.Place.{Place}
use Rattle.places.specs.declared.place.Place.TheVariants.{Zero, Done}
use Rattle.grown.proofs.ZeroKept.{KeptZero}
use Rattle.handover.specs.Meetings.{Past, Pair, pair_of, word_at, packet_of, rule}
use Rattle.handover.specs.Statement.{Accepted, Met, Further, first, second, Ends, goes_on_here, answers}
use Rattle.handover.proofs.Inv.{Joint, Chosen, AtWait, AtCall, AtPlace, Inv}
use Rattle.handover.proofs.Sides.{Awaits, at_wait, at_ready, awaiting}
use Rattle.grown.proofs.Updates.{updated_here}
use Rattle.handover.proofs.Waiters.{given}
use Rattle.handover.proofs.Moments.{step_to, after_step, step_done, stands_at, either}

-- One partner, named twice.
named : (P : Side → Thread → Type 0) {ρ σ : Side} {w v : Thread} → Some (partner ρ w) ≡ Some (partner σ v) → P ρ w → P σ v
named P e = subst (λ (x : Partner). P x.side x.thread) (same_Some _ _ e)

same_message : {a b m x : ℕ} {l : List Pair} → l ≡ pair_of a m ∷ [] → l ≡ pair_of b x ∷ [] → x ≡ m
same_message {a} {b} {m} {x} e f = let g : pair_of b x ≡ pair_of a m = cc in ap (λ (p : Pair). p.message) g

met_alike : (σ : Side) (m x : ℕ) → (σ ≡ Receiver → m ≡ x) → met_by σ m ≡ met_by σ x
met_alike Sender m x h = refl
met_alike Receiver m x h = ap Received (h refl)

module _ (M : Moment Past) (I : Inv M) where
  abbrev z : Memory
  z = M.now.zero

  abbrev K : KeptZero M.now
  K = I.kept

  -- The pair of a call that names its partner.
  joint : (u : ℕ) (p : Place) (σ : Side) (v : Thread) → AtPlace M u p → partner_of p ≡ Some (partner σ v) → (m n : ℕ) × Joint M u σ v m n
  joint u (Zero (Put w m)) σ v a e = (m, 0, named (λ σ v. Joint M u σ v m 0) e a)
  joint u (Zero (PutReady w)) σ v a e = (_, 1, named (λ σ v. Joint M u σ v (packet_of M.now w.0).message 1) e a)
  joint u (Zero (Take w)) σ v a e = (_, 0, named (λ σ v. Joint M u σ v (packet_of M.now w.0).message 0) e a)
  joint u (Zero (TakeReady w m)) σ v a e = (m, 1, named (λ σ v. Joint M u σ v m 1) e a)
  joint u _ σ v a e = cc

  pub met : (u : ℕ) (σ : Side) (v : Thread) → partner_of (place_of M.now u) ≡ Some (partner σ v) → (m : ℕ) × Met M u σ v m
  met u σ v e =
      let (m, n, J) = joint u (place_of M.now u) σ v (I.self u) e in
      let P = K.orderly.picks u σ v e in (
        m,
        record { hers = J.mine; his = J.theirs; sent = J.sent; waits = P.waits; word = P.word; unmarked = P.ready },
      )

  module _ (u : Thread) (m : ℕ) (there : u.0 < M.now.count) where
    abbrev Makes : ZeroCall → Side → Thread → Type 0
    Makes k σ v = Further M (after_step M u k) u.0 σ v m

    counted : {n : ℕ} → M.past.since u.0 ≡ n → updated M.past.since u.0 (suc (M.past.since u.0)) u.0 ≡ suc n
    counted e = updated_here M.past.since u.0 _ ∙ ap suc e

    leads : (k : ZeroCall) → place_of (after_step M u k).now u.0 ≡ place_after Zero (outcome_of z u M.now.clock k).next
    leads k = stands_at M K u there k (outcome_of z u M.now.clock k)

    -- The mark of the partner that u names is set.
    marked : (σ : Side) (v : Thread) (k : Packet) → partner_of (place_of M.now u.0) ≡ Some (partner σ v) →
        (packet_at (with_packet z v k) v).ready ≡ k.ready
    marked σ v k e = ap (λ (p : Packet). p.ready) (given M I u.0 σ v e k)

    further_at : (k : ZeroCall) (σ : Side) (v : Thread) → place_of M.now u.0 ≡ Zero k → AtCall M u.0 k →
        zero_partner k ≡ Some (partner σ v) → Met M u.0 σ v m → Makes k σ v
    further_at (Put w x) σ v at a e H =
        named (Makes (Put w x)) e (first a.since (counted a.since) (ap partner_of (leads (Put w x))))
    further_at (PutReady w) σ v at a e H =
        named (Makes (PutReady w)) e
        (second a.since (marked Receiver w _ (ap partner_of at))
        (updated_here M.past.since w.0 0) (leads (PutReady w)))
    further_at (Take w) σ v at a e H =
        named (Makes (Take w)) e (first a.since (counted a.since) (ap partner_of (leads (Take w))))
    further_at (TakeReady w x) σ v at a e H =
        named (Makes (TakeReady w x)) e
        (second a.since (marked Sender w _ (ap partner_of at))
        (updated_here M.past.since w.0 0)
        (leads (TakeReady w x) ∙ ap (λ (n : ℕ). Done (Received n)) (same_message H.hers a.mine)))
    further_at _ σ v at a e H = cc

  pub further : (u : Thread) (σ : Side) (v : Thread) (m : ℕ) → partner_of (place_of M.now u.0) ≡ Some (partner σ v) →
      Met M u.0 σ v m → Accepted M (steps u) → Further M (next rule M (steps u)) u.0 σ v m
  further u σ v m e H = go (place_of M.now u.0) refl (I.self u.0) e
    where
      go : (p : Place) → place_of M.now u.0 ≡ p → AtPlace M u.0 p → partner_of p ≡ Some (partner σ v) → Accepted M (steps u) →
          Further M (next rule M (steps u)) u.0 σ v m
      go (Zero k) at a e =
          step_done M u k at (λ N. Further M N u.0 σ v m) (λ there. further_at u m there k σ v at a e H)
      go _ at a e = cc

  -- A waiter with its mark set.
  module _ (t : Thread) (σ : Side) (ready : (packet_of M.now t.0).ready ≡ true) where
    -- It was picked once, and ends so.
    abbrev MetBy : Moment Past → Type 0
    MetBy N = (u m : ℕ) × (M.past.pairs t.0 ≡ pair_of u m ∷ []) × Ends M N t.0 σ m

    unmarked : (d : Tick) (w : Selected) → place_of M.now t.0 ≡ Zero (Wait σ d) → word_at M.now t.0 ≡ w →
        is_picked w ≡ false → (packet_of M.now t.0).ready ≡ false
    unmarked d w at i f = (rw at at (K.orderly.uses t.0)) (ap is_picked i ∙ f)

    module _ (there : t.0 < M.now.count) where
      waited : (d : Tick) (w : Selected) → place_of M.now t.0 ≡ Zero (Wait σ d) → word_at M.now t.0 ≡ w →
          AtWait M t.0 σ w → MetBy (step_to M t (Wait σ d) (wait_step σ d w M.now.clock))
      waited d word.Waiting at i a = cc (unmarked d word.Waiting at i refl)
      waited d word.Picked at i (u, m, C) = (
        u,
        m,
        C.pair,
        goes_on_here (omega (arith, C.since ready)) (counted t m there (omega (arith, C.since ready)))
            (stands_at M K t there (Wait σ d) (goes (ReadyWait σ))),
      )
      waited d word.Aborted at i a = absurd a
      waited d word.Disconnected at i a = cc (unmarked d word.Disconnected at i refl)

      readied : (u m : ℕ) → Chosen M t.0 σ u m 1 → MetBy (after_step M t (ReadyWait σ))
      readied u m C = (
        u,
        m,
        C.pair,
        either (λ x. Ends M (step_to M t (ReadyWait σ) x) t.0 σ m) (packet_of M.now t.0).ready
            (λ i.
            answers (C.since ready)
            (stands_at M K t there (ReadyWait σ) (writes effect.Clear (Ended (met_by σ (packet_of M.now t.0).message)))
            ∙ ap Done (met_alike σ _ m (C.message ready))))
            (λ i. cc (ready, i)),
      )

    pub ends : awaits σ (place_of M.now t.0) ≡ true → Accepted M (steps t) → MetBy (next rule M (steps t))
    ends a = go (awaiting σ (place_of M.now t.0) a)
      where
        go : Awaits σ (place_of M.now t.0) → Accepted M (steps t) → MetBy (next rule M (steps t))
        go (at_wait d e) =
            step_done M t (Wait σ d) e MetBy (λ there. waited there d _ e refl (rw e at (I.self t.0)).1)
        go (at_ready e) =
            let (u, m, c, C) : AtCall M t.0 (ReadyWait σ) = rw e at (I.self t.0) in
            step_done M t (ReadyWait σ) e MetBy (λ there. readied there u m C)
