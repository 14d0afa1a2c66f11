-- Tails, which may have the mark, and what the tests of tail and head say of claims.
use Prim.Native.Nat.{ℕ, ◌+◌}
use mathlib.Core.Path.{◌≡◌, sym, ◌∙◌}
use mathlib.Core.Bool.{false}
use native.Mathlib.Omega.{arith}
use Rattle.channel.specs.Position.{index_of, is_marked, unmarked}
use Rattle.channel.specs.PositionBounds.{Fits}
use Rattle.channel.specs.declared.position.Position.{Position}
use Rattle.channel.specs.declared.position.Shape.{Shape}
use Rattle.claims.proofs.Words.{slot_for, word, word_inj, word_lap, index_of_lem, index_marked, not_marked, is_marked_lem}

-- w is the word of n, perhaps with the mark.
pub data Tail (S : Shape) (w : Position) (n : ℕ) : Type 0 where
  plain : w.0 ≡ word S n → Tail S w n
  marked : w.0 ≡ word S n + S.mark → Tail S w n

module _ (S : Shape) (F : Fits S) where
  pub tail_unmarked : {w : Position} {n : ℕ} → Tail S w n → (unmarked S w).0 ≡ word S n
  unfolding unmarked
  tail_unmarked {w} {n} (plain e) = rw (not_marked S F w n e) e
  tail_unmarked {w} {n} (marked e) = rw (is_marked_lem S F w n e) (omega arith)

  -- A tail that shows no mark has none.
  pub tail_plain : {w : Position} {n : ℕ} → Tail S w n → is_marked S w ≡ false → w.0 ≡ word S n
  tail_plain (plain e) f = e
  tail_plain {w} {n} (marked e) f = cc (is_marked_lem S F w n e, f)

  pub tail_index : {w : Position} {n : ℕ} → Tail S w n → index_of S w ≡ slot_for S n
  tail_index {w} {n} (plain e) = index_of_lem S F w n e
  tail_index {w} {n} (marked e) = index_marked S F w n e

  pub tail_one : {w : Position} {n m : ℕ} → Tail S w n → Tail S w m → n ≡ m
  tail_one {w} {n} {m} a b = word_inj S F n m (sym (tail_unmarked a) ∙ tail_unmarked b)

  -- Tail without its mark is the word of k.
  pub tail_is : {w : Position} {n k x : ℕ} → Tail S w n → (unmarked S w).0 ≡ x → x ≡ word S k → n ≡ k
  tail_is {w} {n} {k} a e f = word_inj S F n k (sym (tail_unmarked a) ∙ e ∙ f)

  -- A word and another a lap on are a capacity of claims apart.
  pub a_lap_on : {v w : ℕ} (k n : ℕ) → v ≡ word S k → w ≡ word S n → v + S.lap ≡ w → k + S.capacity ≡ n
  a_lap_on k n e f g = word_inj S F (k + S.capacity) n (omega (arith, word_lap S F k))
