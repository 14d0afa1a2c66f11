-- What holds of an array and its claims at every moment: words, slots and what was taken.
use Prim.Native.Nat.{ℕ, ◌+◌, ◌<◌, ◌≤◌}
use mathlib.Core.Path.{◌≡◌, sym, ap, ◌∙◌}
use mathlib.Core.Logic.{◌⊎◌}
use mathlib.Core.List.{[], ◌∷◌}
use native.Mathlib.Omega.{arith}
use lib.ListN.{length}
use Rattle.channel.specs.PositionBounds.{Fits}
use Rattle.channel.specs.declared.position.Shape.{Shape}
use Rattle.array.specs.declared.Array.{Array as Memory}
use Rattle.claims.specs.Claims.{Claims}
use Rattle.claims.proofs.Words.{slot_for, slot_below, word, word_inj, word_odd}
use Rattle.claims.proofs.Tails.{Tail}
use Rattle.claims.proofs.Sides.{stamp_in, message_in, sending, receiving, ReadyFor}

-- A slot waits for send claim m, or has what send claim m stored, until receive claim m.
pub data Slot (S : Shape) (s : Memory) (c : Claims) (i : ℕ) : Type 0 where
  open_for : (m : ℕ) → slot_for S m ≡ i → stamp_in s i ≡ word S m + 0 → c.receives ≤ m → m < c.receives + S.capacity →
      Slot S s c i
  holds : (m : ℕ) → slot_for S m ≡ i → stamp_in s i ≡ word S m + 1 → m < c.sends → c.sends ≤ m + S.capacity →
      (c.receives ≤ m → message_in s i ≡ c.message m) → Slot S s c i

-- Receive claim n has taken nothing yet, or one message, that of send claim n.
abbrev pub InOrder : Claims → ℕ → Type 0
InOrder c n = (c.took n ≡ []) ⊎ ((n < c.sends) × (c.took n ≡ c.message n ∷ []))

pub record Core (S : Shape) (s : Memory) (c : Claims) : Type 0 where
  pub tail : Tail S s.tail c.sends
  pub head : s.head.0 ≡ word S c.receives
  -- Receive claims follow send claims, at most a capacity behind.
  pub low : c.receives ≤ c.sends
  pub high : c.sends ≤ c.receives + S.capacity
  -- All slots are there.
  pub stamps : S.capacity ≤ length s.stamps
  pub messages : S.capacity ≤ length s.messages
  pub slot : (i : ℕ) → i < S.capacity → Slot S s c i
  pub order : (n : ℕ) → InOrder c n
  pub untaken : (n : ℕ) → c.receives ≤ n → c.took n ≡ []

module _ (S : Shape) (F : Fits S) (s : Memory) (c : Claims) where
  pub here : (n : ℕ) → Core S s c → Slot S s c (slot_for S n)
  here n C = C.slot (slot_for S n) (slot_below S F n)

  -- What a slot is that is ready for a send claim, and for a receive claim.
  pub is_open : (n : ℕ) → ReadyFor S s sending n → Slot S s c (slot_for S n) →
      (c.receives ≤ n) × (n < c.receives + S.capacity)
  is_open n r (open_for m b e lo hi) = let q : m ≡ n = word_inj S F m n (omega arith) in omega arith
  is_open n r (holds m b e lo hi f) = absurd (word_odd S F m n b (omega arith))

  pub is_held : (n : ℕ) → ReadyFor S s receiving n → Slot S s c (slot_for S n) →
      (n < c.sends) × (c.sends ≤ n + S.capacity) × (c.receives ≤ n → message_in s (slot_for S n) ≡ c.message n)
  is_held n r (open_for m b e lo hi) = absurd (word_odd S F n m (sym b) (omega arith))
  is_held n r (holds m b e lo hi f) =
      let q : m ≡ n = word_inj S F m n (omega arith) in
      (omega arith, omega arith, λ h. f (omega arith) ∙ ap c.message q)
