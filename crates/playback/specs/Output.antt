-- The output of a schedule text, as a function from bytes to bytes.
use Rattle.std.specs.Prelude.{ℕ, ◌+◌, ◌*◌, ◌≡◌, List, ◌++◌, ltb, length, drop, if◌then◌else◌, Option, Some, None, Err}
use Rattle.bounds.specs.declared.refusal.Refusal.TheVariants.{TooLong}
use Rattle.text.specs.Lines.{lines_of}
use Rattle.served.specs.Served.{nothing_made, reply_line}
use Rattle.served.specs.Replies.{replies_to}

-- 13: text above 60,000 bytes: this one output line, no other.
unfoldable pub output_of : List ℕ → List ℕ
output_of text =
    if ltb 60_000 (length text) then reply_line (Err TooLong) else replies_to nothing_made (lines_of text)

-- The length that always suffices.
unfoldable pub room_for : List ℕ → ℕ
room_for text = if ltb 60_000 (length text) then 3 else length text * 3 + 3

-- A shorter buffer is answered None and left as it was; another gets the output, whose length is answered, and keeps what lies past it.
pub record Replayed (text before : List ℕ) (r : Option ℕ) (after : List ℕ) : Type 0 where
  pub answer : r ≡ (if ltb (length before) (room_for text) then None else Some (length (output_of text)))
  pub buffer :
      after ≡ (if ltb (length before) (room_for text) then before else output_of text ++ drop (length (output_of text)) before)
