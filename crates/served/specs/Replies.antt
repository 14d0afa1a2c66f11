-- The output lines of lines, from what is held.
use Rattle.std.specs.Prelude.{ℕ, ◌+◌, ◌*◌, ◌≤◌, List, [], ◌∷◌, ◌++◌, length}
use Rattle.text.specs.Frames.{parse_of}
use Rattle.served.specs.Served.{served_for, reply_line}
use Rattle.served.specs.declared.held.Held.{Held}

-- One output line a line, in order.
unfoldable pub replies_to : Held → List (List ℕ) → List ℕ
replies_to h [] = []
replies_to h (l ∷ ls) = reply_line (served_for h (parse_of l)).reply ++ replies_to (served_for h (parse_of l)).held ls

-- Room for the replies to a text's lines from a place on, behind what the lines before it got: three bytes a byte suffice.
-- A last line without 0a leaves the place one past the text.
pub record Room (text : List ℕ) (from : ℕ) (out : List ℕ) (start : ℕ) : Type 0 where
  pub within : from ≤ length text + 1
  pub behind : start ≤ from * 3
  pub enough : length text * 3 + 3 ≤ length out
