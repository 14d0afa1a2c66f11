-- Every public call keeps what histories keep.
use Prim.Native.Nat.{ℕ, ◌<◌, ◌≤◌}
use mathlib.Core.Path.{◌≡◌, refl, subst}
use mathlib.Core.Logic.{◌≢◌}
use mathlib.Core.List.{List}
use native.Mathlib.Omega.{arith}
use native.Mathlib.Decide.{ℕ_discrete, dec_lt}
use lib.ListN.{get_or, set, length, length-set, get_or-eq_default}
use lib.Seq.{get_or-set_same, get_or-set_other}
use Rattle.std.specs.Prelude.{Some, option_map, Ok}
use Rattle.std.proofs.lemmas.Option.{same_Some}
use Rattle.channel.specs.Outcome.{goes}
use Rattle.array.specs.ArrayOutcome.{ArrayOutcome}
use Rattle.array.specs.Array.{outcome_of, applied}
use Rattle.array.specs.Weak.{fails_to}
use Rattle.channel.specs.declared.answer.Tick.{Tick}
use Rattle.channel.specs.declared.position.Shape.{Shape}
use Rattle.array.specs.declared.Array.{Array as Memory}
use Rattle.array.specs.declared.call.ArrayCall.{ArrayCall}
use Rattle.array.proofs.WeakLaws.{every_failure}
use Rattle.bounds.specs.declared.flavour.Flavour.TheVariants as flavour
use Rattle.schedule.specs.Record.{thread_at, place_of, with_thread, after_array}
use Rattle.places.specs.Begin.{code_of, array_call, started}
use Rattle.places.specs.Place.{place_after}
use Rattle.places.proofs.StartLaws.{Begins, begins}
use Rattle.schedule.specs.History.{Moment, updated}
use Rattle.places.specs.declared.begin.Code.{Code}
use Rattle.places.specs.declared.begin.Code.TheVariants.{TrySend, TryReceive, Send, Receive, Len, IsEmpty, IsFull, IsDisconnected, Disconnect}
use Rattle.places.specs.declared.place.Place.{Place}
use Rattle.places.specs.declared.place.Place.TheVariants.{Idle, Array}
use Rattle.schedule.specs.declared.record.ThreadRecord.{ThreadRecord}
use Rattle.schedule.specs.declared.record.Record.{Record}
use Rattle.grown.proofs.Acts.{Cases, Onward}
use Rattle.grown.proofs.ArrayKept.{KeptArray}
use Rattle.grown.proofs.ArrayMoves.{fits, array_moves}
use Rattle.claims.specs.Claims.{Claims, Call, Past, count, made_by, stepped_past, begun_call, rule}
use Rattle.grown.proofs.Updates.{updated_here, updated_else}
use Rattle.claims.proofs.Owners.{adds_begun, same_claims, owners_after}
use Rattle.claims.proofs.Knows.{Stands}
use Rattle.claims.proofs.Good.{Good, to}
use Rattle.claims.proofs.QuestionSteps.{every_good}
use Rattle.claims.proofs.Stable.{stable}
use Rattle.claims.proofs.Inv.{StandsAt, Inv}

-- Where thread u stands once t has come to p; a thread that is not there is idle.
placed : (P : Place → Type 0) (l : List ThreadRecord) (t u : ℕ) (p : Place) → P Idle → (u ≡ t → P p) →
    (u ≢ t → P (get_or l u (thread_at Idle)).place) → P (get_or (set l t (thread_at p)) u (thread_at Idle)).place
placed P l t u p idle new old = go (ℕ_discrete u t) (dec_lt t (length l))
  where
    go : Dec (u ≡ t) → Dec (t < length l) → P (get_or (set l t (thread_at p)) u (thread_at Idle)).place
    go (no n) k = rw (get_or-set_other l t u (thread_at p) (thread_at Idle) n) (old n)
    go (yes e) (yes k) = rw (e, get_or-set_same l t (thread_at p) (thread_at Idle) k) (new e)
    go (yes e) (no k) =
        let out : length (set l t (thread_at p)) ≤ t = omega (arith, length-set l t (thread_at p)) in
        rw (e, get_or-eq_default (set l t (thread_at p)) (thread_at Idle) {n = t} out) idle

-- At its first place a call knows its code and its message, and has made no claim.
module _ (S : Shape) (s : Memory) (c : Claims) (m : ℕ) (l : List ℕ) (p : Place) where
  abbrev First : Code → Place → Type 0
  First k q = Stands S s c (begun_call (Ok k) m l) q

  same : (k : Code) (q : ArrayCall) → First k (Array q) → Some (Array q) ≡ Some p → First k p
  same k q h e = subst (First k) (same_Some (Array q) p e) h

  first_knows : (k : Code) → option_map Array (array_call k m) ≡ Some p → First k p
  first_knows TrySend e = same TrySend _ (refl, ((refl, refl), refl)) e
  first_knows TryReceive e = same TryReceive _ (refl, ((refl, refl), refl)) e
  first_knows Send e = cc
  first_knows Receive e = cc
  first_knows Len e = same Len _ (refl, ((refl, refl), tt)) e
  first_knows IsEmpty e = same IsEmpty _ (refl, ((refl, refl), tt)) e
  first_knows IsFull e = same IsFull _ (refl, ((refl, refl), tt)) e
  first_knows IsDisconnected e = same IsDisconnected _ (refl, (refl, refl)) e
  first_knows Disconnect e = same Disconnect _ (refl, (refl, refl)) e

module _ (capacity : ℕ) (M : Moment Past) (I : Inv capacity M) where
  abbrev r : Record
  r = M.now

  abbrev h : Past
  h = M.past

  -- The moments after thread t has begun a call, and after a step of its call that does what an outcome says.
  abbrev after_begin : ℕ → Call → Place → Moment Past
  after_begin t a p =
      record { now = with_thread r t p; past = record { claims = h.claims; calls = updated h.calls t a } }

  abbrev after_step : ℕ → ArrayOutcome → Moment Past
  after_step t o =
      record {
        now = after_array r t (applied r.array o.effect, o.next);
        past = stepped_past r h t (made_by r h.claims (h.calls t) o.effect);
      }

  begun : (t x m : ℕ) (l : List ℕ) (d : Tick) (p : Place) → t < r.count → place_of r t ≡ Idle →
      started r.flavour x m d ≡ Some p → Inv capacity (after_begin t (begun_call (code_of x) m l) p)
  begun t x m l d p few idle e =
      record {
        kept = (array_moves r I.kept).begin t x m d p few idle e;
        sized = I.sized;
        core = I.core;
        owners =
            owners_after h.claims h.claims h.calls t first I.owners
            (adds_begun h.claims (h.calls t) first (refl, refl)) (after_begin t first p).past.calls (λ σ u. refl);
        stands = λ u.
            placed (StandsAt (after_begin t first p) u) r.threads t u p tt
            (λ z.
            rw (z, updated_here h.calls t first, b.named)
            (first_knows r.shape r.array h.claims m l p b.code b.first))
            (λ n. rw (updated_else h.calls t first u n) (I.stands u));
      }
    where
      first : Call
      first = begun_call (code_of x) m l

      b : Begins flavour.Array x m d p
      b = begins flavour.Array x m d p (rw I.kept.flavour at e)

  stepped : (t : ℕ) (k : ArrayCall) (o : ArrayOutcome) → place_of r t ≡ Array k → Good r h t o →
      KeptArray (after_step t o).now → Inv capacity (after_step t o)
  stepped t k o e good kept =
      record {
        kept = kept;
        sized = I.sized;
        core = good.change.core;
        owners =
            owners_after h.claims x.0 h.calls t x.1 I.owners good.change.adds
            (after_step t o).past.calls (λ σ u. same_claims (place_of r u) (count x.0) _ σ);
        stands = λ u.
            placed (StandsAt (after_step t o) u) r.threads t u (place_after Array o.next) tt
            (λ z. rw (z, e, updated_here h.calls t x.1) good.stands)
            (λ n.
            rw (updated_else h.calls t x.1 u n)
            (stable r.shape (fits r I.kept) r.array (applied r.array o.effect) h.claims x.0 (h.calls u)
            (good.change.rely u n) I.core good.change.adds.one (λ σ i. I.owners.counted σ u i)
            (place_of r u) (I.stands u)));
      }
    where
      x : Claims × Call
      x = made_by r h.claims (h.calls t) o.effect

  -- What a call knows where it stands makes its step good, and a failure of its exchange.
  knows : (t : ℕ) (k : ArrayCall) → place_of r t ≡ Array k → StandsAt M t (Array k)
  knows t k e = rw e at (I.stands t)

  steps_good : (t : ℕ) (k : ArrayCall) → place_of r t ≡ Array k → Good r h t (outcome_of r.shape r.array k)
  steps_good t k e =
      every_good r h t (fits r I.kept) I.core I.owners k (knows t k e).0 (knows t k e).1

  fails_good : (t : ℕ) (k j : ArrayCall) → fails_to k ≡ Some j → StandsAt M t (Array k) → Good r h t (goes j)
  fails_good t =
      every_failure (λ k j. StandsAt M t (Array k) → Good r h t (goes j)) (λ m w a. to r h t I.core _ (a.0, a.1.0))
      (λ w a. to r h t I.core _ (a.0, a.1.0))

  pub moves : Cases r (Onward rule (Inv capacity) M)
  moves =
      record {
        refuse = λ a n. I;
        begin = λ t x m d p. begun t.0 x m _ d p;
        array = λ t k few limit e.
            rw e
            (stepped t.0 k _ e (steps_good t.0 k e) ((array_moves r I.kept).array t.0 k few limit e));
        zero = λ t k few limit e. absurd (rw e at (I.stands t.0));
        fail = λ t k j few limit e f.
            stepped t.0 k (goes j) e (fails_good t.0 k j f (knows t.0 k e))
            ((array_moves r I.kept).fail t.0 k j few limit e f);
        advance = λ n l.
            record {
              kept = (array_moves r I.kept).advance n.0 l;
              sized = I.sized;
              core = I.core;
              owners = I.owners;
              stands = I.stands;
            };
        take = λ t a few e.
            record {
              kept = (array_moves r I.kept).take t.0 a few e;
              sized = I.sized;
              core = I.core;
              owners = I.owners;
              stands = λ u. placed (StandsAt M u) r.threads t.0 u Idle tt (λ z. tt) (λ n. I.stands u);
            };
      }
