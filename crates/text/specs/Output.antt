-- The output lines, and how they stand in a buffer.
use Rattle.std.specs.Prelude.{ℕ, ◌+◌, ◌≡◌, List, [], ◌∷◌, ◌++◌, length, take, drop}
use Rattle.text.specs.Hex.{byte_text, word_text}

-- Byte 0a ends a line.
abbrev pub end_text : List ℕ
end_text = 0x0a ∷ []

-- The line of a code: 00, or the refusal in hexadecimal.
abbrev pub code_line : ℕ → List ℕ
code_line c = byte_text c ++ end_text

-- The line of an accepted take: 00, kind (2 digits) and value (8).
abbrev pub took_line : ℕ → ℕ → List ℕ
took_line k v = byte_text 0 ++ byte_text k ++ word_text v ++ end_text

-- l with x written over what it has from at on.
unfoldable pub pasted : ℕ → List ℕ → List ℕ → List ℕ
pasted at x l = take at l ++ x ++ drop (at + length x) l

-- Before became after, by x written from at to r; nothing else changed.
pub record Put (at : ℕ) (x : List ℕ) (r : ℕ) (before after : List ℕ) : Type 0 where
  pub whole : after ≡ pasted at x before
  pub past : r ≡ at + length x
