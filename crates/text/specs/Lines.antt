-- The lines of a text. Byte 0x0a ends a line.
use Rattle.std.specs.Prelude.{ℕ, List, [], ◌∷◌, ◌==◌, if◌then◌else◌}
use Rattle.std.specs.List.{before_first}

-- A byte at the head of the first line; where there is no line, one of its own.
unfoldable pub at_head : ℕ → List (List ℕ) → List (List ℕ)
at_head b [] = (b ∷ []) ∷ []
at_head b (l ∷ ls) = (b ∷ l) ∷ ls

-- A line ends before byte 0a or where the text does. Empty text has no line, nor has what follows a final 0a.
unfoldable pub lines_of : List ℕ → List (List ℕ)
lines_of [] = []
lines_of (b ∷ t) = if b == 0x0a then [] ∷ lines_of t else at_head b (lines_of t)

-- The bytes before the first 0a, or all.
abbrev pub line_of : List ℕ → List ℕ
line_of t = before_first (λ b. b == 0x0a) t
