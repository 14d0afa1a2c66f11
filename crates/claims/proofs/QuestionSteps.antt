-- Every step of `len`, `is_empty`, `is_full`, `is_disconnected` and disconnect is good, and so every step is.
use Prim.Native.Nat.{ℕ, ◌+◌}
use mathlib.Core.Path.{◌≡◌, refl, sym, ap, ◌∙◌, subst}
use mathlib.Core.Bool.{Bool, true, false}
use mathlib.Core.Logic.{◌⊎◌, inl, inr, ◌≢◌}
use mathlib.Core.List.{◌∷◌}
use native.Mathlib.Omega.{arith}
use native.Mathlib.Decide.{ℕ_discrete}
use lib.Dec.{eqb}
use borrow.Author.Tests.{eqb-true, eqb-false}
use Rattle.std.specs.Prelude.{Option, Some}
use Rattle.std.specs.List.{Any}
use Rattle.channel.specs.Answer.{said}
use Rattle.channel.specs.Position.{is_marked, unmarked}
use Rattle.channel.specs.PositionBounds.{Fits}
use Rattle.channel.specs.Outcome.{ends}
use Rattle.array.specs.ArraySteps.{len_step, is_empty_step, is_full_step, is_disconnected_step, disconnect_step}
use Rattle.array.specs.Array.{cells_at, outcome_of}
use Rattle.channel.specs.declared.answer.Answer.TheVariants.{Yes, No}
use Rattle.channel.specs.declared.position.Shape.{Shape}
use Rattle.array.specs.declared.Array.{Array as Memory}
use Rattle.array.specs.declared.call.LenPlace.{LenPlace}
use Rattle.array.specs.declared.call.LenPlace.TheVariants as len
use Rattle.array.specs.declared.call.IsEmptyPlace.{IsEmptyPlace}
use Rattle.array.specs.declared.call.IsEmptyPlace.TheVariants as is_empty
use Rattle.array.specs.declared.call.IsFullPlace.{IsFullPlace}
use Rattle.array.specs.declared.call.IsFullPlace.TheVariants as is_full
use Rattle.array.specs.declared.call.ArrayCall.{ArrayCall}
use Rattle.array.specs.declared.call.ArrayCall.TheVariants.{Send, Receive, Len, IsEmpty, IsFull, IsDisconnected, Disconnect}
use Rattle.places.specs.declared.begin.Code.{Code}
use Rattle.places.specs.declared.begin.Code.TheVariants as code
use Rattle.schedule.specs.declared.record.Record.{Record}
use Rattle.claims.specs.Claims.{Claims, Call, Past, count}
use Rattle.claims.specs.Statement.{YesTo, NoTo, Unclaimed}
use Rattle.claims.proofs.Words.{word, word_lap}
use Rattle.claims.proofs.Tails.{marked, tail_unmarked, tail_plain, tail_one, tail_is, a_lap_on}
use Rattle.claims.proofs.Lengths.{length_is}
use Rattle.claims.proofs.Moments.{now, before}
use Rattle.claims.proofs.Owners.{Owners}
use Rattle.claims.proofs.Knows.{LenKnows, IsEmptyKnows, IsFullKnows, Knows, kind_of}
use Rattle.claims.proofs.Good.{CoreNow, Good, either, to, over}
use Rattle.claims.proofs.Writing.{mark_tail}
use Rattle.claims.proofs.TransferSteps.{send_good, receive_good}

module _ (r : Record) (h : Past) (t : ℕ) (F : Fits r.shape) (C : CoreNow r h t)
    (O : Owners h.claims h.calls) where
  abbrev S : Shape
  S = r.shape

  abbrev s : Memory
  s = r.array

  abbrev c : Claims
  c = h.claims

  abbrev b : Call
  b = h.calls t

  -- Yes or no by a test, to the question of code k.
  says : (k : Option Code) → b.code ≡ k → Unclaimed b → (x : Bool) → (x ≡ true → YesTo S.capacity (count c ∷ b.counts) k) →
      (x ≡ false → NoTo S.capacity (count c ∷ b.counts) k) → Good r h t (ends (said x))
  says k e u true y n = over r h t C Yes (rw e (y refl), u)
  says k e u false y n = over r h t C No (rw e (n refl), u)

  len_good : b.code ≡ Some code.Len → (p : LenPlace) → Unclaimed b → LenKnows S s c b p → Good r h t (len_step S (cells_at s 0) p)
  len_good k len.LoadTail u a = to r h t C _ (k, (u, record { n = c.sends; is = C.tail; old = omega arith }))
  len_good k (len.LoadHead w) u a =
      to r h t C _ (
        k,
        (
          u,
          record {
            n = a.n;
            k = c.receives;
            tail = a.is;
            head = C.head;
            old = a.old;
            between = λ (e : a.n ≡ c.sends). (omega (arith, C.low), omega (arith, C.high), now _ (omega arith));
          },
        ),
      )
  len_good k (len.LoadTailAgain w v) u a =
      either r h t (eqb s.tail.0 w.0)
      (λ e.
      let g : s.tail.0 ≡ w.0 = eqb-true _ _ e in
      let q = a.between (tail_one S F a.tail (rw g at C.tail)) in
      let P : ℕ → Type 0 = λ m. Any (λ x. x ≡ m) b.counts in
      over r h t C _ (before _ (subst P (sym (length_is S F w v a.n a.k a.tail a.head q.0 q.1)) q.2), u))
      (λ e. to r h t C _ (k, (u, tt)))

  is_empty_good : b.code ≡ Some code.IsEmpty → (p : IsEmptyPlace) → Unclaimed b → IsEmptyKnows S s c b p →
      Good r h t (is_empty_step S (cells_at s 0) p)
  is_empty_good k is_empty.LoadHead u a =
      to r h t C _ (k, (u, record { k = c.receives; is = C.head; old = omega arith; held = go (ℕ_discrete _ _) }))
    where
      go : Dec (c.sends ≡ c.receives) → (c.sends ≡ c.receives) ⊎ Any (λ x. x ≢ 0) (count c ∷ b.counts)
      go (yes e) = inl e
      go (no e) = inr (now _ (λ z. e (omega (arith, C.low))))
  is_empty_good k (is_empty.LoadTail v) u a =
      says (Some code.IsEmpty) k u (eqb (unmarked S s.tail).0 v.0)
      (λ e. let q = tail_is S F C.tail (eqb-true _ _ e) a.is in now _ (omega (arith, a.old)))
      (λ e. before _ (go a.held (eqb-false _ _ e)))
    where
      go : (c.sends ≡ a.k) ⊎ Any (λ x. x ≢ 0) b.counts → ((unmarked S s.tail).0 ≢ v.0) →
          Any (λ x. x ≢ 0) b.counts
      go (inl e) n = absurd (n (tail_unmarked S F C.tail ∙ ap (word S) e ∙ sym a.is))
      go (inr x) n = x

  is_full_good : b.code ≡ Some code.IsFull → (p : IsFullPlace) → Unclaimed b → IsFullKnows S s c b p →
      Good r h t (is_full_step S (cells_at s 0) p)
  is_full_good k is_full.LoadTail u a =
      to r h t C _ (k, (u, record { n = c.sends; is = C.tail; old = omega arith; held = go (ℕ_discrete _ _) }))
    where
      go : Dec (c.receives + S.capacity ≡ c.sends) →
          (c.receives + S.capacity ≡ c.sends) ⊎ Any (λ x. x ≢ S.capacity) (count c ∷ b.counts)
      go (yes e) = inl e
      go (no e) = inr (now _ (λ z. e (omega (arith, C.low))))
  is_full_good k (is_full.LoadHead w) u a =
      says (Some code.IsFull) k u (eqb (s.head.0 + S.lap) (unmarked S w).0)
      (λ e.
      let q = a_lap_on S F c.receives a.n C.head (tail_unmarked S F a.is) (eqb-true _ _ e) in
      now _ (omega (arith, C.high, a.old)))
      (λ e. before _ (go a.held (eqb-false _ _ e)))
    where
      go : (c.receives + S.capacity ≡ a.n) ⊎ Any (λ x. x ≢ S.capacity) b.counts →
          (s.head.0 + S.lap ≢ (unmarked S w).0) → Any (λ x. x ≢ S.capacity) b.counts
      go (inl e) n =
          let q = ap (word S) e in
          absurd (n (omega (arith, C.head, word_lap S F c.receives, tail_unmarked S F a.is)))
      go (inr x) n = x

  is_disconnected_good : b.code ≡ Some code.IsDisconnected → Unclaimed b → Good r h t (is_disconnected_step S s.tail)
  is_disconnected_good k u = says (Some code.IsDisconnected) k u (is_marked S s.tail) (λ e. tt) (λ e. tt)

  disconnect_good : b.code ≡ Some code.Disconnect → Unclaimed b → Good r h t (disconnect_step S s.tail)
  disconnect_good k u =
      either r h t (is_marked S s.tail) (λ e. over r h t C No (rw k tt, u))
      (λ e.
      record {
        change = mark_tail r h t F C O _ (marked (ap (λ (x : ℕ). x + S.mark) (tail_plain S F C.tail e)));
        stands = (rw k tt, u);
      })

  pub every_good : (p : ArrayCall) → b.code ≡ Some (kind_of p) → Knows S s c b p → Good r h t (outcome_of S s p)
  every_good (Send p) k a = send_good r h t F C O k p a
  every_good (Receive p) k a = receive_good r h t F C O k p a
  every_good (Len p) k a = len_good k p a.0 a.1
  every_good (IsEmpty p) k a = is_empty_good k p a.0 a.1
  every_good (IsFull p) k a = is_full_good k p a.0 a.1
  every_good IsDisconnected k a = is_disconnected_good k a
  every_good Disconnect k a = disconnect_good k a
