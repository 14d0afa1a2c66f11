-- `len`: what the indexes of tail and head come to is the number of claims between them.
use Prim.Native.Nat.{ℕ, ◌+◌, ◌*◌, ◌-◌, ◌/◌, ◌≤◌}
use mathlib.Core.Path.{◌≡◌, refl, ap}
use mathlib.Core.Bool.{Bool, true, false}
use mathlib.Core.Logic.{◌⊎◌, inl, inr}
use native.Mathlib.Omega.{arith}
use native.Mathlib.Nat.{mul-le-mul_right}
use native.Mathlib.Decide.{dec_le}
use lib.Dec.{ltb, eqb}
use borrow.Author.Tests.{ltb-true, ltb-false, eqb-true, eqb-false}
use Rattle.std.specs.Prelude.{if◌then◌else◌}
use Rattle.channel.specs.PositionBounds.{Fits}
use Rattle.channel.specs.Position.{length_of}
use Rattle.channel.specs.declared.position.Position.{Position}
use Rattle.channel.specs.declared.position.Shape.{Shape}
use Rattle.claims.proofs.Words.{slot_for, slot_below, lap_split, word, word_inj, index_of_lem}
use Rattle.claims.proofs.Tails.{Tail, tail_unmarked, tail_index}

module _ (S : Shape) (F : Fits S) where
  -- The lap of n, and its first claim.
  abbrev lap : ℕ → ℕ
  lap n = n / S.capacity

  abbrev first : ℕ → ℕ
  first n = lap n * S.capacity

  abbrev Laps : ℕ → ℕ → Type 0
  Laps n k = (first n ≡ first k) ⊎ (first n ≡ first k + S.capacity)

  -- Two claims at most a capacity apart are of one lap or of two that follow.
  laps : (n k : ℕ) → k ≤ n → n ≤ k + S.capacity → Laps n k
  laps n k lo hi = go (dec_le (lap n) (lap k)) (dec_le (lap k) (lap n)) (dec_le (lap n) (lap k + 1))
    where
      times : {x y : ℕ} → x ≤ y → x * S.capacity ≤ y * S.capacity
      times = mul-le-mul_right S.capacity

      go : Dec (lap n ≤ lap k) → Dec (lap k ≤ lap n) → Dec (lap n ≤ lap k + 1) → Laps n k
      go a b (no g) =
          let z : lap k + 2 ≤ lap n = omega arith in
          absurd (omega (arith, times z, lap_split S F n, lap_split S F k, slot_below S F n, slot_below S F k))
      go (no h) b (yes g) = let z : lap n ≡ lap k + 1 = omega arith in inr (rw z (omega arith))
      go (yes h) (yes f) (yes g) = let z : lap n ≡ lap k = omega arith in inl (rw z)
      go (yes h) (no f) (yes g) =
          let z : lap n + 1 ≤ lap k = omega arith in
          absurd (omega (arith, times z, lap_split S F n, lap_split S F k, slot_below S F n, slot_below S F k))

  pub length_is : (w v : Position) (n k : ℕ) → Tail S w n → v.0 ≡ word S k → k ≤ n → n ≤ k + S.capacity →
      length_of S w v ≡ n - k
  unfolding length_of
  length_is w v n k a e lo hi =
      rw (tail_index S F a, index_of_lem S F v k e, tail_unmarked S F a, e)
      (go (laps n k lo hi) (ltb (slot_for S k) (slot_for S n)) (ltb (slot_for S n) (slot_for S k)) (eqb (word S n) (word S k))
      refl refl refl)
    where
      go : Laps n k → (x y z : Bool) → ltb (slot_for S k) (slot_for S n) ≡ x → ltb (slot_for S n) (slot_for S k) ≡ y →
          eqb (word S n) (word S k) ≡ z →
          (if x then slot_for S n - slot_for S k else if y then S.capacity - slot_for S k + slot_for S n
          else if z then 0 else S.capacity) ≡ n - k
      go (inl q) true y z f g h = omega (arith, ltb-true, lap_split S F n, lap_split S F k)
      go (inr q) true y z f g h = omega (arith, ltb-true, lap_split S F n, lap_split S F k)
      go (inl q) false true z f g h = omega (arith, ltb-true, ltb-false, lap_split S F n, lap_split S F k)
      go (inr q) false true z f g h = omega (arith, ltb-true, ltb-false, lap_split S F n, lap_split S F k, slot_below S F k)
      go q false false true f g h = let i = word_inj S F n k (eqb-true (word S n) (word S k) h) in omega arith
      go (inl q) false false false f g h =
          let i : n ≡ k = omega (arith, ltb-false, lap_split S F n, lap_split S F k) in
          absurd (eqb-false (word S n) (word S k) h (ap (word S) i))
      go (inr q) false false false f g h = omega (arith, ltb-false, lap_split S F n, lap_split S F k)
