-- Every step of a send and of a receive is good.
use Prim.Native.Nat.{ℕ, ◌+◌}
use mathlib.Core.Path.{◌≡◌, refl, sym, ap, ◌∙◌}
use native.Mathlib.Omega.{arith}
use lib.Dec.{eqb}
use borrow.Author.Tests.{eqb-true}
use Rattle.std.specs.Prelude.{Some}
use Rattle.channel.specs.Position.{at, index_of, is_marked, unmarked}
use Rattle.channel.specs.PositionBounds.{Fits}
use Rattle.array.specs.ArraySteps.{send_step, receive_step}
use Rattle.array.specs.Array.{send_slot, receive_slot, cells_at, with_stamp}
use Rattle.channel.specs.declared.position.Position.{Position}
use Rattle.channel.specs.declared.position.Shape.{Shape}
use Rattle.array.specs.declared.Array.{Array as Memory}
use Rattle.array.specs.declared.call.SendPlace.{SendPlace}
use Rattle.array.specs.declared.call.SendPlace.TheVariants as send
use Rattle.array.specs.declared.call.ReceivePlace.{ReceivePlace}
use Rattle.array.specs.declared.call.ReceivePlace.TheVariants as receive
use Rattle.places.specs.declared.begin.Code.TheVariants as code
use Rattle.schedule.specs.declared.record.Record.{Record}
use Rattle.claims.specs.Claims.{Claims, Call, Past}
use Rattle.claims.proofs.Words.{slot_for, index_of_lem, word_lap, slot_lap}
use Rattle.claims.proofs.Tails.{tail_plain, tail_is, a_lap_on}
use Rattle.claims.proofs.Sides.{stamp_in, Side, sending, receiving, past}
use Rattle.claims.proofs.Moments.{now}
use Rattle.claims.proofs.Core.{Slot, open_for, holds, here, is_open, is_held}
use Rattle.claims.proofs.Owners.{Owners}
use Rattle.claims.proofs.Rely.{Own}
use Rattle.claims.proofs.Knows.{Saw, Ready, Stored, SendKnows, ReceiveKnows}
use Rattle.claims.proofs.Good.{CoreNow, Good, either, to, over}
use Rattle.claims.proofs.Claiming.{send_claimed, receive_claimed}
use Rattle.claims.proofs.Writing.{counted, message_now, store_message, store_stamp, take_message, took_now}

module _ (r : Record) (h : Past) (t : ℕ) (F : Fits r.shape) (C : CoreNow r h t)
    (O : Owners h.claims h.calls) where
  abbrev S : Shape
  S = r.shape

  abbrev s : Memory
  s = r.array

  abbrev c : Claims
  c = h.claims

  abbrev b : Call
  b = h.calls t

  -- A stamp loaded from the slot of a saved word.
  seen : (σ : Side) (w : Position) (a : Saw S c σ w) → stamp_in s (index_of S w) ≡ w.0 + past σ → Ready S s c σ w
  seen σ w a e =
      record {
        n = a.n;
        is = a.is;
        old = a.old;
        ready = λ z.
            ap (λ i. stamp_in s i) (sym (index_of_lem S F w a.n a.is)) ∙ e ∙ ap (λ (x : ℕ). x + past σ) a.is;
      }

  -- What a sender's last stamp makes of its slot: it holds the message.
  filled : (w : Position) (a : Own S s b.send_claims sending w) → Stored S s c a.n →
      stamp_in (with_stamp s (index_of S w) (at (w.0 + 1))) (slot_for S a.n) ≡ w.0 + 1 →
      Slot S (with_stamp s (index_of S w) (at (w.0 + 1))) c (slot_for S a.n)
  filled w a e g =
      let o = is_open S F s c a.n a.ready (here S F s c a.n C) in
      holds a.n refl (g ∙ ap (λ (x : ℕ). x + 1) a.is) (counted r h t F C O a) (omega (arith, C.high)) (λ q. e)

  -- And a receiver's: it is open, a lap on.
  emptied : (w : Position) (a : Own S s b.receive_claims receiving w) →
      stamp_in (with_stamp s (index_of S w) (at (w.0 + S.lap))) (slot_for S a.n) ≡ w.0 + S.lap →
      Slot S (with_stamp s (index_of S w) (at (w.0 + S.lap))) c (slot_for S a.n)
  emptied w a g =
      let o = is_held S F s c a.n a.ready (here S F s c a.n C) in
      open_for (a.n + S.capacity) (slot_lap S F a.n) (omega (arith, g, a.is, word_lap S F a.n))
      (omega (arith, C.low)) (omega (arith, counted r h t F C O a))

  pub send_good : b.code ≡ Some code.TrySend → (p : SendPlace) → SendKnows S s c b p →
      Good r h t (send_step S (cells_at s (send_slot S p)) p)
  send_good k (send.LoadTail m) a =
      either r h t (is_marked S s.tail) (λ e. over r h t C _ (tt, a))
      (λ e. to r h t C _ (k, (a, record { n = c.sends; is = tail_plain S F C.tail e; old = omega arith })))
  send_good k (send.LoadStamp m w) a =
      either r h t (eqb _ w.0)
      (λ e. to r h t C _ (k, (a.0, seen sending w a.1 (omega (arith, eqb-true (stamp_in s (index_of S w)) w.0 e)))))
      (λ e. either r h t (eqb _ (w.0 + 1)) (λ e. to r h t C _ (k, a)) (λ e. to r h t C _ (k, a.0)))
  send_good k (send.ClaimTail m w) a =
      either r h t (eqb s.tail.0 w.0) (λ e. send_claimed r h t F C w a.1 (eqb-true _ _ e) k m a.0)
      (λ e. to r h t C _ (k, a.0))
  send_good k (send.LoadHead m w) a =
      either r h t (eqb (s.head.0 + S.lap) w.0)
      (λ e.
      let q = a_lap_on S F c.receives a.1.n C.head a.1.is (eqb-true _ _ e) in
      over r h t C _ (now _ (omega (arith, C.high, a.1.old)), a.0)) (λ e. to r h t C _ (k, a.0))
  send_good k (send.StoreMessage m w) a =
      record {
        change = store_message r h t F C O a.0 m;
        stands = (
          k,
          (
            record { n = a.0.n; is = a.0.is; made = a.0.made; ready = a.0.ready },
            a.1,
            a.2,
            message_now r h t F C O a.0 m c.took ∙ a.3 ∙ sym a.2,
          ),
        );
      }
  send_good k (send.StoreStamp w) a =
      record {
        change = store_stamp r h t F C O a.0 (at (w.0 + 1)) (filled w a.0 a.3);
        stands = (tt, (a.0.n, a.0.made, a.1, a.2));
      }

  pub receive_good : b.code ≡ Some code.TryReceive → (p : ReceivePlace) → ReceiveKnows S s c b p →
      Good r h t (receive_step S (cells_at s (receive_slot S p)) p)
  receive_good k receive.LoadHead a = to r h t C _ (k, (a, record { n = c.receives; is = C.head; old = omega arith }))
  receive_good k (receive.LoadStamp w) a =
      either r h t (eqb _ (w.0 + 1)) (λ e. to r h t C _ (k, (a.0, seen receiving w a.1 (eqb-true _ _ e))))
      (λ e. either r h t (eqb _ w.0) (λ e. to r h t C _ (k, a)) (λ e. to r h t C _ (k, a.0)))
  receive_good k (receive.ClaimHead w) a =
      either r h t (eqb s.head.0 w.0) (λ e. receive_claimed r h t F C w a.1 (eqb-true _ _ e) k a.0.0)
      (λ e. to r h t C _ (k, a.0))
  receive_good k (receive.LoadTail w) a =
      either r h t (eqb (unmarked S s.tail).0 w.0)
      (λ e.
      let q = tail_is S F C.tail (eqb-true _ _ e) a.1.is in
      either r h t (is_marked S s.tail) (λ f. over r h t C _ (tt, a.0))
      (λ f. over r h t C _ (now _ (omega (arith, a.1.old)), a.0.0))) (λ e. to r h t C _ (k, a.0))
  receive_good k (receive.TakeMessage w) a =
      record {
        change = take_message r h t F C O a.0 a.2 a.3;
        stands = (
          k,
          (
            record { n = a.0.n; is = a.0.is; made = a.0.made; ready = a.0.ready },
            a.1,
            took_now r h t F C O a.0 a.2 a.3,
          ),
        );
      }
  receive_good k (receive.StoreStamp w m) a =
      record {
        change = store_stamp r h t F C O a.0 (at (w.0 + S.lap)) (emptied w a.0);
        stands = (tt, (a.0.n, a.1, a.0.made, a.2));
      }
