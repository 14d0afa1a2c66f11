-- The steps that claim: what a claim changes, and what it knows.
use Prim.Native.Nat.{ℕ, ◌+◌, ◌<◌, ◌≤◌}
use mathlib.Core.Path.{◌≡◌, refl, sym, ap, ◌∙◌}
use mathlib.Core.Logic.{inl, inr}
use mathlib.Core.List.{List, [], ◌∷◌}
use native.Mathlib.Omega.{arith}
use native.Mathlib.Decide.{ℕ_discrete}
use Rattle.channel.specs.Position.{successor}
use Rattle.channel.specs.PositionBounds.{Fits}
use Rattle.std.specs.Prelude.{Some}
use Rattle.channel.specs.Outcome.{writes}
use Rattle.array.specs.Array.{with_head, with_tail}
use Rattle.channel.specs.declared.position.Position.{Position}
use Rattle.channel.specs.declared.position.Shape.{Shape}
use Rattle.array.specs.declared.Array.{Array as Memory}
use Rattle.array.specs.declared.call.SendPlace.TheVariants as send
use Rattle.array.specs.declared.call.ReceivePlace.TheVariants as receive
use Rattle.array.specs.declared.call.ArrayCall.TheVariants.{Send, Receive}
use Rattle.array.specs.declared.outcome.ArrayEffect.TheVariants.{ClaimSend, ClaimReceive}
use Rattle.channel.specs.declared.outcome.Next.TheVariants.{Goes}
use Rattle.places.specs.declared.begin.Code.TheVariants as code
use Rattle.schedule.specs.declared.record.Record.{Record}
use Rattle.claims.specs.Claims.{Claims, Call, Past, claimed_send, claimed_receive}
use Rattle.claims.specs.Statement.{Unclaimed}
use Rattle.grown.proofs.Updates.{updated_here, updated_else}
use Rattle.claims.proofs.Words.{slot_for, word, word_inj, word_next, word_odd, slot_lap}
use Rattle.claims.proofs.Tails.{plain, tail_one}
use Rattle.claims.proofs.Sides.{stamp_in, Side, sending, receiving, claims_of, ReadyFor}
use Rattle.claims.proofs.Owners.{AtMostOne, HadOrNext}
use Rattle.claims.proofs.Core.{Slot, open_for, holds, InOrder, here, is_open, is_held}
use Rattle.claims.proofs.Knows.{Ready, Stored, Returns}
use Rattle.claims.proofs.Good.{CoreNow, Change, Good}

module _ (r : Record) (h : Past) (t : ℕ) (F : Fits r.shape) (C : CoreNow r h t) where
  abbrev S : Shape
  S = r.shape

  abbrev s : Memory
  s = r.array

  abbrev c : Claims
  c = h.claims

  abbrev b : Call
  b = h.calls t

  -- A send claim: the slot of the next one is open for it.
  module _ (w : Position) (a : Ready S s c sending w) (now : s.tail.0 ≡ w.0) where
    send_next : a.n ≡ c.sends
    send_next = sym (tail_one S F C.tail (plain (now ∙ a.is)))

    send_word : w.0 ≡ word S c.sends
    send_word = a.is ∙ ap (word S) send_next

    send_ready : ReadyFor S s sending c.sends
    send_ready = rw send_next at (a.ready send_next)

    abbrev sent : Claims
    sent = (claimed_send r c b).0

    -- A slot that holds a message is not the one claimed, so it is less than a capacity behind.
    send_slot_lem : (i : ℕ) → Slot S s c i → Slot S (with_tail s (successor S w)) sent i
    send_slot_lem i (open_for k b g lo hi) = open_for k b g lo hi
    send_slot_lem i (holds k b g lo hi f) =
        holds k b g (omega arith) (go (ℕ_discrete c.sends (k + S.capacity)))
        (λ q. f q ∙ sym (updated_else c.message c.sends _ k (omega arith)))
      where
        go : Dec (c.sends ≡ k + S.capacity) → c.sends + 1 ≤ k + S.capacity
        go (no z) = omega arith
        go (yes z) =
            let q : slot_for S c.sends ≡ slot_for S k = ap (slot_for S) z ∙ slot_lap S F k in
            absurd (word_odd S F k c.sends (sym q)
            (omega (arith, send_ready, ap (λ j. stamp_in s j) (q ∙ b) ∙ g)))

    send_order : (n : ℕ) → InOrder c n → InOrder sent n
    send_order n (inl e) = inl e
    send_order n (inr e) =
        let same : sent.message n ≡ c.message n = updated_else c.message c.sends _ n (omega arith) in
        inr (omega arith, e.1 ∙ ap (λ (x : ℕ). x ∷ []) (sym same))

    claim_send : Change r h t (Some (ClaimSend (successor S w)))
    claim_send =
        record {
          core =
              record {
                tail = plain (word_next S F w c.sends send_word);
                head = C.head;
                low = omega (arith, C.low);
                high = omega (arith, is_open S F s c c.sends send_ready (here S F s c c.sends C));
                stamps = C.stamps;
                messages = C.messages;
                slot = λ i l. send_slot_lem i (C.slot i l);
                order = λ n. send_order n (C.order n);
                untaken = C.untaken;
              };
          rely = λ u z.
              record {
                still = λ σ n e g. g;
                own = λ σ n e g. (refl, refl);
                took = λ n e. refl;
                message = λ n e. updated_else c.message c.sends _ n (omega arith);
              };
          adds = record { one = one; mine = mine };
        }
      where
        one : (σ : Side) → AtMostOne c sent σ
        one sending = inr (refl, refl)
        one receiving = inl refl

        mine : (σ : Side) (n : ℕ) → claims_of σ (claimed_send r c b).1 ≡ n ∷ [] → HadOrNext c sent b σ n
        mine sending n e = let q : c.sends ≡ n = cc in inr (sym q, omega arith)
        mine receiving n e = inl e

    pub send_claimed : b.code ≡ Some code.TrySend → (m : ℕ) → Returns b m →
        Good r h t (writes (ClaimSend (successor S w)) (Goes (Send (send.StoreMessage m w))))
    send_claimed k m e =
        record {
          change = claim_send;
          stands = (
            k,
            (
              record { n = c.sends; is = send_word; made = ap (λ (l : List ℕ). c.sends ∷ l) e.0.0; ready = send_ready },
              e.0.1,
              updated_here c.message c.sends b.carried,
              e.1,
            ),
          );
        }

  -- A receive claim: the slot of the next one holds its message.
  module _ (w : Position) (a : Ready S s c receiving w) (now : s.head.0 ≡ w.0) where
    receive_next : a.n ≡ c.receives
    receive_next = word_inj S F a.n c.receives (sym a.is ∙ sym now ∙ C.head)

    receive_word : w.0 ≡ word S c.receives
    receive_word = a.is ∙ ap (word S) receive_next

    receive_ready : ReadyFor S s receiving c.receives
    receive_ready = rw receive_next at (a.ready receive_next)

    abbrev received : Claims
    received = (claimed_receive r c b).0

    -- A slot that is open is not the one claimed, so it is open for a later claim.
    receive_slot_lem : (i : ℕ) → Slot S s c i → Slot S (with_head s (successor S w)) received i
    receive_slot_lem i (open_for k b g lo hi) = open_for k b g (go (ℕ_discrete c.receives k)) (omega arith)
      where
        go : Dec (c.receives ≡ k) → c.receives + 1 ≤ k
        go (no z) = omega arith
        go (yes z) =
            absurd (word_odd S F c.receives k (ap (slot_for S) z)
            (omega (arith, receive_ready, ap (λ j. stamp_in s j) (ap (slot_for S) z ∙ b) ∙ g)))
    receive_slot_lem i (holds k b g lo hi f) = holds k b g lo hi (λ q. f (omega arith))

    some_sent : c.receives < c.sends
    some_sent = (is_held S F s c c.receives receive_ready (here S F s c c.receives C)).0

    next_stored : Stored S s c c.receives
    next_stored = (is_held S F s c c.receives receive_ready (here S F s c c.receives C)).2 (omega arith)

    claim_receive : Change r h t (Some (ClaimReceive (successor S w)))
    claim_receive =
        record {
          core =
              record {
                tail = C.tail;
                head = word_next S F w c.receives receive_word;
                low = omega (arith, some_sent);
                high = omega (arith, C.high);
                stamps = C.stamps;
                messages = C.messages;
                slot = λ i l. receive_slot_lem i (C.slot i l);
                order = C.order;
                untaken = λ n l. C.untaken n (omega arith);
              };
          rely = λ u z.
              record {
                still = λ σ n e g. g;
                own = λ σ n e g. (refl, refl);
                took = λ n e. refl;
                message = λ n e. refl;
              };
          adds = record { one = one; mine = mine };
        }
      where
        one : (σ : Side) → AtMostOne c received σ
        one sending = inl refl
        one receiving = inr (refl, refl)

        mine : (σ : Side) (n : ℕ) → claims_of σ (claimed_receive r c b).1 ≡ n ∷ [] → HadOrNext c received b σ n
        mine sending n e = inl e
        mine receiving n e = let q : c.receives ≡ n = cc in inr (sym q, omega arith)

    pub receive_claimed : b.code ≡ Some code.TryReceive → Unclaimed b →
        Good r h t (writes (ClaimReceive (successor S w)) (Goes (Receive (receive.TakeMessage w))))
    receive_claimed k e =
        record {
          change = claim_receive;
          stands = (
            k,
            (
              record {
                n = c.receives;
                is = receive_word;
                made = ap (λ (l : List ℕ). c.receives ∷ l) e.1;
                ready = receive_ready;
              },
              e.0,
              C.untaken c.receives (omega arith),
              next_stored,
            ),
          );
        }
