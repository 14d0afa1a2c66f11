-- The replay's answer as one number.
use Rattle.std.specs.Prelude.{ℕ, ◌≡◌, List, Option, Some, None}
use Rattle.playback.specs.Output.{Replayed}

-- The length of the output, or the largest number for a buffer that is too short.
abbrev pub length_of : Option ℕ → ℕ
length_of (Some n) = n
length_of None = 18_446_744_073_709_551_615

-- What the replay promises, by that number.
pub record Linked (text before : List ℕ) (r : ℕ) (after : List ℕ) : Type 0 where
  pub written : Option ℕ
  pub replayed : Replayed text before written after
  pub answer : r ≡ length_of written
