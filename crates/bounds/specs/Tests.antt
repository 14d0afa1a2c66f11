-- A test of every number below a bound.
use Rattle.std.specs.Prelude.{ℕ, Bool}
use Rattle.std.specs.List.{list_all, range_with_len}

-- Every i below n passes.
unfoldable pub all_below : ℕ → (ℕ → Bool) → Bool
all_below n p = list_all p (range_with_len 0 n)
