-- The line of a frame. 0x30 to 0x35 are the characters 0 to 5.
use Rattle.std.specs.Prelude.{ℕ, ◌<◌, ◌^◌, ◌≡◌, List, ◌∷◌, ◌++◌, Some}
use Rattle.text.specs.Hex.{byte_text, word_text}
use Rattle.text.specs.Frames.{parse_of}
use Rattle.text.specs.declared.frame.Frame.{Frame}
use Rattle.text.specs.declared.frame.Frame.TheVariants.{Header, Begin, Step, Advance, Take, Fail}

-- The rules' forms, written.
abbrev pub text_of : Frame → List ℕ
text_of (Header c n) = 0x30 ∷ 0x30 ∷ (byte_text c ++ byte_text n)
text_of (Begin t o m d) = 0x30 ∷ 0x31 ∷ (byte_text t.0 ++ byte_text o ++ word_text m ++ word_text d.0)
text_of (Step t) = 0x30 ∷ 0x32 ∷ byte_text t.0
text_of (Advance n) = 0x30 ∷ 0x33 ∷ word_text n.0
text_of (Take t) = 0x30 ∷ 0x34 ∷ byte_text t.0
text_of (Fail t) = 0x30 ∷ 0x35 ∷ byte_text t.0

-- The fields fit their digits.
abbrev pub Spelled : Frame → Type 0
Spelled (Header c n) = (c < 2 ^ 8) × (n < 2 ^ 8)
Spelled (Begin t o m d) = (t.0 < 2 ^ 8) × (o < 2 ^ 8) × (m < 2 ^ 32) × (d.0 < 2 ^ 32)
Spelled (Step t) = t.0 < 2 ^ 8
Spelled (Advance n) = n.0 < 2 ^ 32
Spelled (Take t) = t.0 < 2 ^ 8
Spelled (Fail t) = t.0 < 2 ^ 8

-- What is written is read back: each frame whose fields fit is spelled by its line.
abbrev pub ReadWritten : Type 0
ReadWritten = (f : Frame) → Spelled f → parse_of (text_of f) ≡ Some f

-- What is read was written so: a line that spells a frame is the one line of that frame, whose fields fit.
abbrev pub WrittenRead : Type 0
WrittenRead = (l : List ℕ) (f : Frame) → parse_of l ≡ Some f → Spelled f × (l ≡ text_of f)
