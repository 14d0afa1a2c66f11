-- What begins: the first place of a call that the number names, and that may be given the deadline.
use Prim.Native.Nat.{ℕ}
use mathlib.Core.Path.{◌≡◌, refl}
use mathlib.Core.Bool.{Bool, true, false, cond}
use Rattle.std.specs.Prelude.{Some, None, Result, Ok, Err}
use Rattle.channel.specs.declared.answer.Tick.{Tick}
use Rattle.bounds.specs.declared.flavour.Flavour.{Flavour}
use Rattle.places.specs.Begin.{code_of, takes, first_place, started, started_as}
use Rattle.places.specs.declared.place.Place.{Place}
use Rattle.places.specs.declared.begin.Code.{Code}
use Rattle.places.specs.declared.begin.UnknownCode.{UnknownCode}

module _ (f : Flavour) (n m : ℕ) (d : Tick) (p : Place) where
  pub record Begins : Type 0 where
    pub code : Code
    pub named : code_of n ≡ Ok code
    pub taken : takes code d ≡ true
    pub first : first_place f code m d ≡ Some p

  pub begins : started f n m d ≡ Some p → Begins
  begins = at_code (code_of n) refl
    where
      at_takes : (c : Code) (b : Bool) → code_of n ≡ Ok c → takes c d ≡ b → cond b (first_place f c m d) None ≡ Some p → Begins
      at_takes c true e t g = record { code = c; named = e; taken = t; first = g }
      at_takes c false e t g = cc

      at_code : (r : Result Code UnknownCode) → code_of n ≡ r → started_as f r m d ≡ Some p → Begins
      at_code (Ok c) e g = at_takes c (takes c d) e refl g
      at_code (Err u) e g = cc
