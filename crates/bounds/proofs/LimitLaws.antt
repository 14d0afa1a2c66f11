-- What the bounds tell: of an allowed making, its capacity and its thread count.
use Prim.Native.Nat.{ℕ, ◌≤◌}
use mathlib.Core.Path.{◌≡◌, refl}
use mathlib.Core.Bool.{Bool, true, false, cond}
use borrow.Author.Tests.{leb-true}
use lib.Dec.{leb}
use Rattle.std.specs.Prelude.{Result, Ok, Err, ⊤}
use Rattle.waker.specs.Context.{threads}
use Rattle.channel.specs.Position.{slots}
use Rattle.bounds.specs.Limits.{capacity_fits, fewest, count_fits, making}
use Rattle.bounds.specs.declared.flavour.Flavour.{Flavour}
use Rattle.bounds.specs.declared.flavour.Flavour.TheVariants.{Array}
use Rattle.bounds.specs.declared.refusal.Refusal.{Refusal}
use Rattle.bounds.specs.declared.refusal.Refusal.TheVariants.{Capacity, ThreadCount}
use Rattle.bounds.proofs.TestLaws.{and_left, and_right}

pub record Allows (f : Flavour) (c n : ℕ) : Type 0 where
  pub capacity : capacity_fits f c ≡ true
  pub count : count_fits f n ≡ true

pub allows : (f : Flavour) (c n : ℕ) → making f c n ≡ Ok tt → Allows f c n
allows f c n e = go (capacity_fits f c) (count_fits f n) refl refl e
  where
    made : Result ⊤ Refusal
    made = Ok tt

    go : (a b : Bool) → capacity_fits f c ≡ a → count_fits f n ≡ b →
        cond a (cond b made (Err ThreadCount)) (Err Capacity) ≡ made → Allows f c n
    go true true p q h = record { capacity = p; count = q }
    go true false p q h = cc
    go false b p q h = cc

-- An array's capacity is 1 to 64, and there are at most 8 threads.
pub capacity_some : (c : ℕ) → capacity_fits Array c ≡ true → 1 ≤ c
capacity_some c h = leb-true _ _ (and_left _ (leb c slots) h)

pub capacity_most : (c : ℕ) → capacity_fits Array c ≡ true → c ≤ slots
capacity_most c h = leb-true _ _ (and_right (leb 1 c) _ h)

pub count_most : (f : Flavour) (n : ℕ) → count_fits f n ≡ true → n ≤ threads
count_most f n h = leb-true _ _ (and_right (leb (fewest f) n) _ h)
