-- What stands at a thread's place goes on standing there when another thread makes a step.
use Prim.Native.Nat.{ℕ, ◌+◌, ◌<◌, ◌≤◌}
use mathlib.Core.Path.{◌≡◌, sym, ◌∙◌}
use mathlib.Core.Logic.{◌⊎◌, inl, inr, ◌≢◌}
use mathlib.Core.List.{List, [], ◌∷◌}
use native.Mathlib.Omega.{arith}
use Rattle.std.specs.List.{Any}
use Rattle.channel.specs.PositionBounds.{Fits}
use Rattle.channel.specs.declared.answer.Answer.{Answer}
use Rattle.channel.specs.declared.answer.Answer.TheVariants.{Sent, Received}
use Rattle.channel.specs.declared.position.Position.{Position}
use Rattle.channel.specs.declared.position.Shape.{Shape}
use Rattle.array.specs.declared.Array.{Array as Memory}
use Rattle.array.specs.declared.call.SendPlace.{SendPlace}
use Rattle.array.specs.declared.call.SendPlace.TheVariants as send
use Rattle.array.specs.declared.call.ReceivePlace.{ReceivePlace}
use Rattle.array.specs.declared.call.ReceivePlace.TheVariants as receive
use Rattle.array.specs.declared.call.LenPlace.{LenPlace}
use Rattle.array.specs.declared.call.LenPlace.TheVariants as len
use Rattle.array.specs.declared.call.IsEmptyPlace.{IsEmptyPlace}
use Rattle.array.specs.declared.call.IsEmptyPlace.TheVariants as is_empty
use Rattle.array.specs.declared.call.IsFullPlace.{IsFullPlace}
use Rattle.array.specs.declared.call.IsFullPlace.TheVariants as is_full
use Rattle.array.specs.declared.call.ArrayCall.{ArrayCall}
use Rattle.array.specs.declared.call.ArrayCall.TheVariants.{Send, Receive, Len, IsEmpty, IsFull}
use Rattle.places.specs.declared.place.Place.{Place}
use Rattle.places.specs.declared.place.Place.TheVariants.{Array, Done}
use Rattle.claims.specs.Claims.{Claims, Call, count, with_count, with_moment}
use Rattle.claims.specs.Statement.{ClaimedFor}
use Rattle.claims.proofs.Sides.{Side, sending, receiving, made, claims_of}
use Rattle.claims.proofs.Moments.{now, before}
use Rattle.claims.proofs.Core.{Core}
use Rattle.claims.proofs.Owners.{AtMostOne, up}
use Rattle.claims.proofs.Rely.{Rely, Own}
use Rattle.claims.proofs.Knows.{Saw, Ready, Stored, SawTail, SawBoth, MaybeEmpty, MaybeFull, SendKnows, ReceiveKnows, LenKnows, IsEmptyKnows, IsFullKnows, Knows, Stands}

module _ (S : Shape) (F : Fits S) (s s' : Memory) (c c' : Claims) (a : Call) (R : Rely S s s' c c' a) (C : Core S s c)
    (one : (σ : Side) → AtMostOne c c' σ) (counted : (σ : Side) (n : ℕ) → claims_of σ a ≡ n ∷ [] → n < made σ c) where
  more : (σ : Side) → made σ c ≤ made σ c'
  more σ = up c c' σ (one σ)

  abbrev a' : Call
  a' = with_count (count c') a

  abbrev l : List ℕ
  l = a.counts

  abbrev l' : List ℕ
  l' = a'.counts

  saw : (σ : Side) {w : Position} → Saw S c σ w → Saw S c' σ w
  saw σ x = record { n = x.n; is = x.is; old = omega (arith, x.old, more σ) }

  ready : (σ : Side) {w : Position} → Ready S s c σ w → Ready S s' c' σ w
  ready σ x =
      record {
        n = x.n;
        is = x.is;
        old = omega (arith, x.old, more σ);
        ready = λ (e : x.n ≡ made σ c').
            let q : x.n ≡ made σ c = omega (arith, x.old, more σ) in
            R.still σ x.n q (x.ready q);
      }

  abbrev own : (σ : Side) {w : Position} (x : Own S s (claims_of σ a) σ w) → Own S s' (claims_of σ a) σ w
  own σ x =
      record { n = x.n; is = x.is; made = x.made; ready = (R.own σ x.n x.made x.ready).0 ∙ x.ready }

  most : (σ : Side) → made σ c ≤ c.sends
  most sending = omega arith
  most receiving = C.low

  stored : (σ : Side) {w : Position} (x : Own S s (claims_of σ a) σ w) → Stored S s c x.n → Stored S s' c' x.n
  stored σ x e =
      (R.own σ x.n x.made x.ready).1 ∙ e
      ∙ sym (R.message x.n (omega (arith, counted σ x.n x.made, most σ)))

  message : (n : ℕ) → a.send_claims ≡ n ∷ [] → c'.message n ≡ c.message n
  message n e = R.message n (counted sending n e)

  saw_tail : {w : Position} → SawTail S c w → SawTail S c' w
  saw_tail x = record { n = x.n; is = x.is; old = omega (arith, x.old, more sending) }

  saw_both : {w v : Position} → SawBoth S c l w v → SawBoth S c' l' w v
  saw_both x =
      record {
        n = x.n;
        k = x.k;
        tail = x.tail;
        head = x.head;
        old = omega (arith, x.old, more sending);
        between = λ (e : x.n ≡ c'.sends).
            let b = x.between (omega (arith, x.old, more sending)) in
            (b.0, b.1, before _ b.2);
      }

  maybe_empty : {v : Position} → MaybeEmpty S c l v → MaybeEmpty S c' l' v
  maybe_empty x =
      record { k = x.k; is = x.is; old = omega (arith, x.old, more receiving); held = go x.held (one sending) }
    where
      go : (c.sends ≡ x.k) ⊎ Any (λ n. n ≢ 0) l → AtMostOne c c' sending →
          (c'.sends ≡ x.k) ⊎ Any (λ n. n ≢ 0) l'
      go (inl e) (inl g) = inl (g ∙ e)
      go (inl e) (inr g) = inr (now _ (λ z. omega (arith, C.low)))
      go (inr b) g = inr (before _ b)

  maybe_full : {w : Position} → MaybeFull S c l w → MaybeFull S c' l' w
  maybe_full x =
      record { n = x.n; is = x.is; old = omega (arith, x.old, more sending); held = go x.held (one receiving) }
    where
      go : (c.receives + S.capacity ≡ x.n) ⊎ Any (λ n. n ≢ S.capacity) l → AtMostOne c c' receiving →
          (c'.receives + S.capacity ≡ x.n) ⊎ Any (λ n. n ≢ S.capacity) l'
      go (inl e) (inl g) = inl (omega arith)
      go (inl e) (inr g) = inr (now _ (λ z. omega (arith, F.some, C.high, x.old)))
      go (inr b) g = inr (before _ b)

  send_kept : (p : SendPlace) → SendKnows S s c a p → SendKnows S s' c' a' p
  send_kept (send.LoadTail m) x = x
  send_kept (send.LoadStamp m w) x = (x.0, saw sending x.1)
  send_kept (send.ClaimTail m w) x = (x.0, ready sending x.1)
  send_kept (send.LoadHead m w) x = (x.0, saw sending x.1)
  send_kept (send.StoreMessage m w) x = (own sending x.0, x.1, message x.0.n x.0.made ∙ x.2, x.3)
  send_kept (send.StoreStamp w) x =
      (own sending x.0, x.1, message x.0.n x.0.made ∙ x.2, stored sending x.0 x.3)

  receive_kept : (p : ReceivePlace) → ReceiveKnows S s c a p → ReceiveKnows S s' c' a' p
  receive_kept receive.LoadHead x = x
  receive_kept (receive.LoadStamp w) x = (x.0, saw receiving x.1)
  receive_kept (receive.ClaimHead w) x = (x.0, ready receiving x.1)
  receive_kept (receive.LoadTail w) x = (x.0, saw receiving x.1)
  receive_kept (receive.TakeMessage w) x =
      (own receiving x.0, x.1, R.took x.0.n x.0.made ∙ x.2, stored receiving x.0 x.3)
  receive_kept (receive.StoreStamp w m) x = (own receiving x.0, x.1, R.took x.0.n x.0.made ∙ x.2)

  len_kept : (p : LenPlace) → LenKnows S s c a p → LenKnows S s' c' a' p
  len_kept len.LoadTail x = tt
  len_kept (len.LoadHead w) x = saw_tail x
  len_kept (len.LoadTailAgain w v) x = saw_both x

  is_empty_kept : (p : IsEmptyPlace) → IsEmptyKnows S s c a p → IsEmptyKnows S s' c' a' p
  is_empty_kept is_empty.LoadHead x = tt
  is_empty_kept (is_empty.LoadTail v) x = maybe_empty x

  is_full_kept : (p : IsFullPlace) → IsFullKnows S s c a p → IsFullKnows S s' c' a' p
  is_full_kept is_full.LoadTail x = tt
  is_full_kept (is_full.LoadHead w) x = maybe_full x

  kept : (p : ArrayCall) → Knows S s c a p → Knows S s' c' a' p
  kept (Send p) x = send_kept p x
  kept (Receive p) x = receive_kept p x
  kept (Len p) x = (x.0, len_kept p x.1)
  kept (IsEmpty p) x = (x.0, is_empty_kept p x.1)
  kept (IsFull p) x = (x.0, is_full_kept p x.1)
  kept _ x = x

  claimed : (x : Answer) → ClaimedFor c a x → ClaimedFor c' a x
  claimed Sent g = (g.0, g.1, g.2, message g.0 g.1 ∙ g.3)
  claimed (Received m) g = (g.0, g.1, g.2, R.took g.0 g.2 ∙ g.3)
  claimed _ g = g

  -- A running call has one more moment; an answer stays as it is.
  pub stable : (p : Place) → Stands S s c a p → Stands S s' c' (with_moment p (count c') a) p
  stable (Array p) x = (x.0, kept p x.1)
  stable (Done y) x = (x.0, claimed y x.1)
  stable _ x = x
