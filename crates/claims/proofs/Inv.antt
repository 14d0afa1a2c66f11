-- What every history keeps of an array and its past.
use Prim.Native.Nat.{ℕ}
use mathlib.Core.Path.{◌≡◌}
use Rattle.schedule.specs.Record.{place_of}
use Rattle.schedule.specs.History.{Moment}
use Rattle.places.specs.declared.place.Place.{Place}
use Rattle.grown.proofs.ArrayKept.{KeptArray}
use Rattle.claims.specs.Claims.{Past}
use Rattle.claims.proofs.Core.{Core}
use Rattle.claims.proofs.Owners.{Owners}
use Rattle.claims.proofs.Knows.{Stands}

-- What stands at thread t's place p.
abbrev pub StandsAt : Moment Past → ℕ → Place → Type 0
StandsAt M t p =
    Stands M.now.shape M.now.array M.past.claims (M.past.calls t) p

pub record Inv (capacity : ℕ) (M : Moment Past) : Type 0 where
  pub kept : KeptArray M.now
  pub sized : M.now.shape.capacity ≡ capacity
  pub core : Core M.now.shape M.now.array M.past.claims
  pub owners : Owners M.past.claims M.past.calls
  pub stands : (t : ℕ) → StandsAt M t (place_of M.now t)
