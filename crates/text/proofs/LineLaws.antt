-- Laws of the lines of a text.
use Rattle.std.proofs.Common.{◌≡◌, ℕ, suc, ◌+◌, ◌≤◌, ◌<◌, List, [], ◌∷◌, ◌==◌, length, get_or, drop, ap, ◌∙◌, arith, drop_of_length-le, drop-cons, drop-drop, get_or-take, length-take-le}
use Rattle.std.specs.List.{position_or_len}
use Rattle.std.proofs.lemmas.List.Sums.{prefix_len-le-length}
use Rattle.text.specs.Lines.{at_head, lines_of, line_of}

-- Where the line of a text ends.
abbrev pub end_of : List ℕ → ℕ
end_of t = position_or_len (λ b. b == 0x0a) t

end_within : (t : List ℕ) → end_of t ≤ length t
end_within t = prefix_len-le-length _ t

pub length_line_is : (t : List ℕ) → length (line_of t) ≡ end_of t
length_line_is t = length-take-le (end_of t) t (end_within t)

-- A line lies within what is left.
pub length_line : (t : List ℕ) → length (line_of t) ≤ length t
length_line t = omega (arith, length_line_is t, end_within t)

-- The bytes of a line are those that its text begins with.
pub line_byte : (t : List ℕ) (i : ℕ) → i < length (line_of t) → get_or (line_of t) i 0 ≡ get_or t i 0
line_byte t i h = get_or-take (end_of t) t i 0 (omega (arith, length_line_is t))

-- A text that has a byte has a first line, and then the lines of the rest, which stands past the line and its 0a.
pub lines_first : (b : ℕ) (t : List ℕ) → lines_of (b ∷ t) ≡ line_of (b ∷ t) ∷ lines_of (drop (end_of (b ∷ t) + 1) (b ∷ t))
unfolding lines_of at_head
lines_first b [] = grind arith
lines_first b (a ∷ t) = grind (arith, lines_first a t)

-- The lines from a place on: the line there, and the lines from past it.
pub lines_at : (s : List ℕ) (at : ℕ) → at < length s →
    lines_of (drop at s) ≡ line_of (drop at s) ∷ lines_of (drop (at + length (line_of (drop at s)) + 1) s)
lines_at s at h =
    let n : at + (end_of (drop at s) + 1) ≡ at + length (line_of (drop at s)) + 1 = omega (arith, length_line_is (drop at s)) in
    go (drop at s) (get_or s at 0) (drop (suc at) s) (drop-cons s at 0 h)
    ∙ ap (λ (l : List ℕ). line_of (drop at s) ∷ lines_of l) (drop-drop _ at s ∙ ap (λ (k : ℕ). drop k s) n)
  where
    go : (l : List ℕ) (b : ℕ) (t : List ℕ) → l ≡ b ∷ t → lines_of l ≡ line_of l ∷ lines_of (drop (end_of l + 1) l)
    go l b t e = rw e (lines_first b t)

-- No line is left at the end of the text, nor past it.
pub lines_none : (s : List ℕ) (at : ℕ) → length s ≤ at → lines_of (drop at s) ≡ []
unfolding lines_of
lines_none s at h = rw (drop_of_length-le s h)
