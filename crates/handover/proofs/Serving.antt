-- Steps by which a call serves the partner that it names keep what holds at all places.
use Prim.Native.Nat.{ℕ, suc, ◌<◌}
use mathlib.Core.Path.{◌≡◌, refl, ap, ◌∙◌}
use mathlib.Core.Bool.{true, false}
use mathlib.Core.Logic.{◌≢◌}
use mathlib.Core.List.{[], ◌∷◌}
use native.Mathlib.Omega.{arith}
use Rattle.std.specs.Prelude.{Some}
use Rattle.waker.specs.declared.context.Thread.{Thread}
use Rattle.waker.specs.declared.wakers.Side.{Side}
use Rattle.waker.specs.declared.wakers.Side.TheVariants.{Sender, Receiver}
use Rattle.channel.specs.Outcome.{writes}
use Rattle.zero.specs.ZeroSteps.{put_step, put_ready_step, take_step, take_ready_step}
use Rattle.zero.specs.Zero.{packet, packet_at, with_packet, with_message}
use Rattle.channel.specs.declared.answer.Answer.{Answer}
use Rattle.channel.specs.declared.answer.Answer.TheVariants.{Sent, Received}
use Rattle.zero.specs.declared.Packet.{Packet}
use Rattle.zero.specs.declared.call.ZeroCall.{ZeroCall}
use Rattle.zero.specs.declared.call.ZeroCall.TheVariants.{Put, PutReady, Take, TakeReady}
use Rattle.zero.specs.declared.outcome.ZeroEffect.TheVariants as effect
use Rattle.channel.specs.declared.outcome.Next.TheVariants.{Goes, Ends}
use Rattle.zero.specs.ZeroOutcome.{ZeroOutcome}
use Rattle.schedule.specs.Record.{place_of}
use Rattle.schedule.specs.History.{Moment}
use Rattle.forms.specs.FormWaits.{partner, partner_of}
use Rattle.places.specs.Place.{place_after}
use Rattle.places.specs.declared.place.Place.TheVariants.{Zero, Done}
use Rattle.schedule.specs.declared.record.Record.{Record}
use Rattle.grown.proofs.Orderly.{view_on, Picks}
use Rattle.grown.proofs.Places.{naming}
use Rattle.handover.specs.Meetings.{Past, pair_of, plain, word_at, packet_of}
use Rattle.handover.proofs.Inv.{Joint, Chosen, AtPlace, Inv}
use Rattle.grown.proofs.Updates.{updated_here}
use Rattle.handover.proofs.Bystanders.{Spares}
use Rattle.handover.proofs.Moments.{step_to}
use Rattle.handover.proofs.Touch.{serves}
use Rattle.handover.proofs.Waiters.{named, given, SameCall}
use Rattle.handover.proofs.Keeping.{After, Flat, unopposed, unnamed, partnered}

module _ (M : Moment Past) (I : Inv M) (t : Thread) (there : t.0 < M.now.count) (k : ZeroCall)
    (at : place_of M.now t.0 ≡ Zero k) (ρ : Side) (v : Thread) (names : partner_of (Zero k) ≡ Some (partner ρ v))
    (flat : Flat M I t there k at) (m n : ℕ) (J : Joint M t.0 ρ v m n) where
  P : Picks (view_on M.now.zero M.now.threads) t.0 ρ v
  P = named M I t.0 ρ v (rw at names)

  -- The partner's new packet.
  new : (p : Packet) → packet_at (with_packet M.now.zero v p) v ≡ p
  new = given M I t.0 ρ v (rw at names)

  -- Nothing but v is touched, whom only t names, and v goes on as a picked one.
  serve : (o : ZeroOutcome) → ((u : ℕ) → u ≢ v.0 → Spares k o.effect u) →
      word_at (step_to M t k o).now v.0 ≡ word_at M.now v.0 →
      SameCall M (step_to M t k o) v.0 → Chosen (step_to M t k o) v.0 ρ t.0 m 0 →
      AtPlace (step_to M t k o) t.0 (place_after Zero o.next) → After M I t there k at o
  serve o spared word alike C own =
      partnered M I t there k at o ρ v m spared
      (λ u σ x apart e s. apart (I.kept.orderly.sole u t.0 σ ρ x v e (rw at names) s))
      (λ u apart f. unopposed M I t there k at o u apart (spared u f) flat)
      (serves t ρ refl (rw at names)) (unnamed M I t there k at o (naming (Zero k) ρ v names).awaited) P.waits
      (word ∙ P.word) alike C own

  -- Its message, where it is the one that sends.
  theirs : ρ ≡ Sender → m ≡ M.past.carried v.0
  theirs s = rw s at J.sent

  -- The first further step: a message is put or taken, and the mark not set.
  unmarked : (x : ℕ) → (packet_at (with_message M.now.zero v x) v).ready ≡ false
  unmarked x = ap (λ (p : Packet). p.ready) (new (packet x (packet_of M.now v.0).ready)) ∙ P.ready

  still : (N : Record) → (packet_of N v.0).ready ≡ false →
      Chosen (record { now = N; past = plain M.now M.past t.0 k }) v.0 ρ t.0 m 0
  still N e =
      record {
        pair = J.theirs;
        own = theirs;
        since = λ r. cc (r, e);
        message = λ r. cc (r, e);
      }

  joint : (N : Record) → Joint (record { now = N; past = plain M.now M.past t.0 k }) t.0 ρ v m (suc n)
  joint N =
      record {
        code = J.code;
        mine = J.mine;
        theirs = J.theirs;
        sent = J.sent;
        since = updated_here M.past.since t.0 (suc (M.past.since t.0)) ∙ ap suc J.since;
      }

  abbrev putting : ZeroOutcome
  putting = writes (effect.PutMessage v m) (Goes (PutReady v))

  puts : (Joint (step_to M t k putting) t.0 ρ v (packet_of (step_to M t k putting).now v.0).message (suc n) →
      AtPlace (step_to M t k putting) t.0 (Zero (PutReady v))) → After M I t there k at putting
  puts own =
      serve putting (λ u f. f) refl (refl, refl) (still (step_to M t k putting).now (unmarked m))
      (own (rw (new (packet m (packet_of M.now v.0).ready)) (joint (step_to M t k putting).now)))

  abbrev taking : ZeroOutcome
  taking = writes (effect.TakeMessage v) (Goes (TakeReady v m))

  takes : (Joint (step_to M t k taking) t.0 ρ v m (suc n) → AtPlace (step_to M t k taking) t.0 (Zero (TakeReady v m))) →
      After M I t there k at taking
  takes own =
      serve taking (λ u f. f) refl (refl, refl) (still (step_to M t k taking).now (unmarked 0))
      (own (joint (step_to M t k taking).now))

  -- The second: its mark is set.
  readies : (a : Answer) → (ρ ≡ Receiver → (packet_of M.now v.0).message ≡ m) →
      AtPlace (step_to M t k (writes (effect.SetReady v) (Ends a))) t.0 (Done a) →
      After M I t there k at (writes (effect.SetReady v) (Ends a))
  readies a passed own =
      serve (writes (effect.SetReady v) (Ends a)) (λ u f. f) refl (refl, refl)
      (record {
        pair = J.theirs;
        own = theirs;
        since = λ r. omega (arith, updated_here M.past.since v.0 0);
        message = λ r s. ap (λ (p : Packet). p.message) (new (packet (packet_of M.now v.0).message true)) ∙ passed s;
      })
      own

module _ (M : Moment Past) (I : Inv M) (t : Thread) (there : t.0 < M.now.count) (v : Thread) where
  abbrev message : ℕ
  message = (packet_of M.now v.0).message

  pub put_step_lem : (m : ℕ) (at : place_of M.now t.0 ≡ Zero (Put v m)) → After M I t there (Put v m) at (put_step v m)
  put_step_lem m at =
      puts M I t there (Put v m) at Receiver v refl (λ u σ d n W. refl) m 0 (rw at at (I.self t.0)) (λ j. j)

  pub put_ready_step_lem : (at : place_of M.now t.0 ≡ Zero (PutReady v)) → After M I t there (PutReady v) at (put_ready_step v)
  put_ready_step_lem at =
      readies M I t there (PutReady v) at Receiver v refl (λ u σ d n W. refl) message 1 J Sent (λ s. refl)
      (J.code, (v.0, J.mine ∙ ap (λ (x : ℕ). pair_of v.0 x ∷ []) J.sent))
    where
      J : Joint M t.0 Receiver v message 1
      J = rw at at (I.self t.0)

  pub take_step_lem : (at : place_of M.now t.0 ≡ Zero (Take v)) → After M I t there (Take v) at (take_step v message)
  take_step_lem at =
      takes M I t there (Take v) at Sender v refl (λ u σ d n W. refl) message 0 (rw at at (I.self t.0)) (λ j. j)

  pub take_ready_step_lem : (m : ℕ) (at : place_of M.now t.0 ≡ Zero (TakeReady v m)) →
      After M I t there (TakeReady v m) at (take_ready_step v m)
  take_ready_step_lem m at =
      readies M I t there (TakeReady v m) at Sender v refl (λ u σ d n W. refl) m 1 J (Received m)
      (λ s. cc) (J.code, (v.0, J.mine))
    where
      J : Joint M t.0 Sender v m 1
      J = rw at at (I.self t.0)
