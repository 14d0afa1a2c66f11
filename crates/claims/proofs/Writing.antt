-- What a thread changes in the slot of its own claim, and by marking the tail.
use Prim.Native.Nat.{ℕ, ◌+◌, ◌<◌, ◌≤◌}
use mathlib.Core.Path.{◌≡◌, refl, sym, ap, ◌∙◌}
use mathlib.Core.Logic.{inl, inr, ◌≢◌}
use mathlib.Core.List.{List, [], ◌∷◌}
use native.Mathlib.Omega.{arith}
use native.Mathlib.Decide.{ℕ_discrete}
use lib.ListN.{get_or, length-set}
use lib.Seq.{get_or-set_same, get_or-set_other}
use Rattle.std.specs.Prelude.{Some}
use Rattle.channel.specs.Position.{at, index_of}
use Rattle.channel.specs.PositionBounds.{Fits}
use Rattle.array.specs.Array.{with_tail, with_message, with_stamp}
use Rattle.channel.specs.declared.position.Position.{Position}
use Rattle.channel.specs.declared.position.Shape.{Shape}
use Rattle.array.specs.declared.Array.{Array as Memory}
use Rattle.array.specs.declared.outcome.ArrayEffect.TheVariants.{StoreMessage, TakeMessage, StoreStamp, MarkTail}
use Rattle.schedule.specs.History.{updated}
use Rattle.schedule.specs.declared.record.Record.{Record}
use Rattle.claims.specs.Claims.{Claims, Past, newest}
use Rattle.grown.proofs.Updates.{updated_here, updated_else}
use Rattle.claims.proofs.Words.{slot_for, slot_below, word, index_of_lem}
use Rattle.claims.proofs.Tails.{Tail}
use Rattle.claims.proofs.Sides.{stamp_in, message_in, Side, receiving, made, claims_of, OneClaim, one_claim}
use Rattle.claims.proofs.Core.{Slot, open_for, holds, InOrder, Core}
use Rattle.claims.proofs.Owners.{Owners, with_took, adds_none}
use Rattle.claims.proofs.Rely.{Rely, Own, rely_same, rely_own}
use Rattle.claims.proofs.Knows.{Stored}
use Rattle.claims.proofs.Good.{CoreNow, Change}

module _ (r : Record) (h : Past) (t : ℕ) (F : Fits r.shape) (C : CoreNow r h t)
    (O : Owners h.claims h.calls) where
  abbrev S : Shape
  S = r.shape

  abbrev s : Memory
  s = r.array

  abbrev c : Claims
  c = h.claims

  module _ {σ : Side} {w : Position} (a : Own S s (claims_of σ (h.calls t)) σ w) where
    pub counted : a.n < made σ c
    counted = O.counted σ t a.n a.made

    index : index_of S w ≡ slot_for S a.n
    index = index_of_lem S F w a.n a.is

    inside : index_of S w < S.capacity
    inside = omega (arith, index, slot_below S F a.n)

    -- Another message in it, and perhaps another account of what was taken.
    module _ (m : ℕ) (f : ℕ → List ℕ) where
      -- No message lies there that is still to be claimed: a sender's slot holds none, a receiver's is its own.
      claimed : (k j : ℕ) → slot_for S k ≡ j → stamp_in s j ≡ word S k + 1 → j ≡ index_of S w → k < c.receives
      claimed k j b g x =
          let e : j ≡ slot_for S a.n = x ∙ index in
          go (one_claim S F receiving σ k a.n (stamp_in s j) (b ∙ e) g (ap (λ i. stamp_in s i) e ∙ a.ready))
        where
          go : OneClaim receiving σ k a.n → k < c.receives
          go o =
              let q : made receiving c ≡ made σ c = ap (λ (x : Side). made x c) o.side in
              omega (arith, o.number, counted)

      message_slot : (j : ℕ) → Slot S s c j → Slot S (with_message s (index_of S w) m) (with_took c f) j
      message_slot j (open_for k b g lo hi) = open_for k b g lo hi
      message_slot j (holds k b g lo hi e) =
          holds k b g lo hi
          (λ q. get_or-set_other s.messages (index_of S w) j m 0 (λ x. omega (arith, claimed k j b g x)) ∙ e q)

      message_core : ((n : ℕ) → InOrder (with_took c f) n) → ((n : ℕ) → c.receives ≤ n → f n ≡ []) →
          Core S (with_message s (index_of S w) m) (with_took c f)
      message_core order untaken =
          record {
            tail = C.tail;
            head = C.head;
            low = C.low;
            high = C.high;
            stamps = C.stamps;
            messages = omega (arith, length-set s.messages (index_of S w) m, C.messages);
            slot = λ j l. message_slot j (C.slot j l);
            order = order;
            untaken = untaken;
          }

      message_rely : (u : ℕ) → u ≢ t → ((n : ℕ) → (h.calls u).receive_claims ≡ n ∷ [] → f n ≡ c.took n) →
          Rely S s (with_message s (index_of S w) m) c (with_took c f) (h.calls u)
      message_rely u z kept =
          rely_own S F s (with_message s (index_of S w) m) c f h.calls O t a
          (λ j k. (refl, get_or-set_other s.messages (index_of S w) j m 0 (λ x. k (x ∙ index)))) u z kept

      pub message_now : message_in (with_message s (index_of S w) m) (slot_for S a.n) ≡ m
      message_now =
          ap (λ i. message_in (with_message s (index_of S w) m) i) (sym index)
          ∙ get_or-set_same s.messages (index_of S w) m 0 (omega (arith, inside, C.messages))

    pub store_message : (m : ℕ) → Change r h t (Some (StoreMessage (index_of S w) m))
    store_message m =
        record {
          core = message_core m c.took C.order C.untaken;
          rely = λ u z. message_rely m c.took u z (λ n e. refl);
          adds = adds_none c c.took (h.calls t);
        }

    -- Another stamp in it, which opens it or fills it.
    pub store_stamp : (v : Position) → (stamp_in (with_stamp s (index_of S w) v) (slot_for S a.n) ≡ v.0 →
        Slot S (with_stamp s (index_of S w) v) c (slot_for S a.n)) → Change r h t (Some (StoreStamp (index_of S w) v))
    store_stamp v new =
        record {
          core =
              record {
                tail = C.tail;
                head = C.head;
                low = C.low;
                high = C.high;
                stamps = omega (arith, length-set s.stamps (index_of S w) v, C.stamps);
                messages = C.messages;
                slot = λ j l. slot j (ℕ_discrete j (index_of S w)) (C.slot j l);
                order = C.order;
                untaken = C.untaken;
              };
          rely = λ u z.
              rely_own S F s (with_stamp s (index_of S w) v) c c.took h.calls O t a
              (λ j k. (elsewhere j (λ x. k (x ∙ index)), refl)) u z (λ n e. refl);
          adds = adds_none c c.took (h.calls t);
        }
      where
        elsewhere : (j : ℕ) → j ≢ index_of S w → stamp_in (with_stamp s (index_of S w) v) j ≡ stamp_in s j
        elsewhere j k = ap (λ (x : Position). x.0) (get_or-set_other s.stamps (index_of S w) j v (at 0) k)

        there : stamp_in (with_stamp s (index_of S w) v) (slot_for S a.n) ≡ v.0
        there =
            ap (λ i. stamp_in (with_stamp s (index_of S w) v) i) (sym index)
            ∙ ap (λ (x : Position). x.0)
            (get_or-set_same s.stamps (index_of S w) v (at 0) (omega (arith, inside, C.stamps)))

        slot : (j : ℕ) → Dec (j ≡ index_of S w) → Slot S s c j → Slot S (with_stamp s (index_of S w) v) c j
        slot j (yes x) old = rw (x ∙ index) (new there)
        slot j (no x) (open_for k b g lo hi) = open_for k b (elsewhere j x ∙ g) lo hi
        slot j (no x) (holds k b g lo hi f) = holds k b (elsewhere j x ∙ g) lo hi f

  -- A receiver takes the message from its slot.
  module _ {w : Position} (a : Own S s (h.calls t).receive_claims receiving w) (none : c.took a.n ≡ [])
      (e : Stored S s c a.n) where
    abbrev taken : ℕ
    taken = message_in s (index_of S w)

    abbrev claim : ℕ
    claim = newest (h.calls t)

    abbrev took : ℕ → List ℕ
    took = updated c.took claim (taken ∷ c.took claim)

    claim_is : claim ≡ a.n
    claim_is = ap (λ (l : List ℕ). get_or l 0 0) a.made

    taken_is : taken ≡ c.message a.n
    taken_is = ap (λ i. message_in s i) (index a) ∙ e

    pub took_now : took a.n ≡ taken ∷ []
    took_now =
        ap took (sym claim_is) ∙ updated_here c.took claim _
        ∙ ap (λ (l : List ℕ). taken ∷ l) (ap c.took claim_is ∙ none)

    took_other : (n : ℕ) → n ≢ a.n → took n ≡ c.took n
    took_other n k = updated_else c.took claim _ n (λ q. k (q ∙ claim_is))

    take_order : (n : ℕ) → Dec (n ≡ a.n) → InOrder c n → InOrder (with_took c took) n
    take_order n (yes q) o =
        inr (
          omega (arith, C.low, counted a),
          ap took q ∙ took_now ∙ ap (λ (x : ℕ). x ∷ []) (taken_is ∙ ap c.message (sym q)),
        )
    take_order n (no q) (inl o) = inl (took_other n q ∙ o)
    take_order n (no q) (inr o) = inr (o.0, took_other n q ∙ o.1)

    pub take_message : Change r h t (Some (TakeMessage (index_of S w)))
    take_message =
        record {
          core =
              message_core a 0 took (λ n. take_order n (ℕ_discrete n a.n) (C.order n))
              (λ n l. took_other n (λ q. omega (arith, counted a)) ∙ C.untaken n l);
          rely = λ u z.
              message_rely a 0 took u z
              (λ n f. took_other n (λ q. z (O.apart receiving u t a.n (rw q at f) a.made)));
          adds = adds_none c took (h.calls t);
        }

  pub mark_tail : (v : Position) → Tail S v c.sends → Change r h t (Some (MarkTail v))
  mark_tail v e =
      record {
        core =
            record {
              tail = e;
              head = C.head;
              low = C.low;
              high = C.high;
              stamps = C.stamps;
              messages = C.messages;
              slot = λ j l. slot j (C.slot j l);
              order = C.order;
              untaken = C.untaken;
            };
        rely = λ u z. rely_same S s c v (h.calls u);
        adds = adds_none c c.took (h.calls t);
      }
    where
      slot : (j : ℕ) → Slot S s c j → Slot S (with_tail s v) c j
      slot j (open_for k b g lo hi) = open_for k b g lo hi
      slot j (holds k b g lo hi f) = holds k b g lo hi f
