-- Laws of tests joined: both pass, and every number below a bound passes.
use Prim.Native.Nat.{ℕ, zero, suc, ◌+◌, ◌<◌, ◌≤◌}
use mathlib.Core.Path.{◌≡◌, refl}
use mathlib.Core.Bool.{Bool, true, false, ◌&&◌, cond}
use Rattle.std.specs.List.{list_all, range_with_len}
use native.Mathlib.Omega.{arith}
use lib.Dec.{ltb}
use borrow.Author.Tests.{ltb-true, ltb-false}
use Rattle.std.specs.Cmp.Derive.{both_true}
use Rattle.bounds.specs.Tests.{all_below}

-- Both pass: the first does, and the second does.
pub and_left : (a b : Bool) → (a && b) ≡ true → a ≡ true
and_left true b e = refl
and_left false b e = e

pub and_right : (a b : Bool) → (a && b) ≡ true → b ≡ true
and_right true b e = e
and_right false b e = cc

-- What follows on both ways follows.
pub either_way : {P : Type 0} (b x y : Bool) → cond b x y ≡ true → (x ≡ true → P) → (y ≡ true → P) → P
either_way true x y h p q = p h
either_way false x y h p q = q h

-- Every number from a on, n of them, passes.
all_from : (a n : ℕ) (p : ℕ → Bool) → ((i : ℕ) → a ≤ i → i < a + n → p i ≡ true) → list_all p (range_with_len a n) ≡ true
all_from a zero p h = refl
all_from a (suc n) p h =
    both_true (h a (omega arith) (omega arith)) (all_from (a + 1) n p (λ i l u. h i (omega arith) (omega arith)))

each_of : (a n : ℕ) (p : ℕ → Bool) → list_all p (range_with_len a n) ≡ true → (i : ℕ) → a ≤ i → i < a + n → p i ≡ true
each_of a zero p h i l u = absurd (omega arith)
each_of a (suc n) p h i l u = go (ltb a i) refl (each_of (a + 1) n p (and_right (p a) _ h) i)
  where
    go : (b : Bool) → ltb a i ≡ b → (a + 1 ≤ i → i < a + 1 + n → p i ≡ true) → p i ≡ true
    go true q higher = higher (omega (arith, ltb-true a i q)) (omega arith)
    go false q higher = let e : i ≡ a = omega (arith, ltb-false a i q) in rw e (and_left (p a) _ h)

-- Every i below n passes.
pub all_below_lem : (n : ℕ) (p : ℕ → Bool) → ((i : ℕ) → i < n → p i ≡ true) → all_below n p ≡ true
unfolding all_below
all_below_lem n p h = all_from 0 n p (λ i l u. h i (omega arith))

pub all_at : (n : ℕ) (p : ℕ → Bool) → all_below n p ≡ true → (i : ℕ) → i < n → p i ≡ true
unfolding all_below
all_at n p h i l = each_of 0 n p h i (omega arith) (omega arith)
