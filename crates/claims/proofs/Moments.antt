-- Counts of a call: what is so at its latest moment, or was so at one before.
use Prim.Native.Nat.{ℕ, suc}
use mathlib.Core.Path.{refl}
use mathlib.Core.List.{List, ◌∷◌}
use native.Mathlib.Omega.{arith}
use Rattle.std.specs.List.{Any}

module _ {P : ℕ → Type 0} {n : ℕ} (l : List ℕ) where
  pub now : P n → Any P (n ∷ l)
  now p = (0, n, omega arith, refl, p)

  pub before : Any P l → Any P (n ∷ l)
  before x = (suc x.0, x.1, omega (arith, x.2), x.3, x.4)
