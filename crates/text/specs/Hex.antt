-- Numbers in lowercase hexadecimal: 0x30 is the character 0, 0x39 is 9, 0x61 is a and 0x66 is f.
use Rattle.std.specs.Prelude.{ℕ, ◌+◌, ◌-◌, ◌*◌, ◌/◌, ◌%◌, List, [], ◌∷◌, ◌++◌, nat_lt, nat_le, if◌then◌else◌, Option, Some, None, option_and_then}

-- 0 to 9 and a to f stand for 0 to 15, and no other byte is a digit.
unfoldable pub digit_of : ℕ → Option ℕ
digit_of b =
    if nat_lt b 0x30 then None
    else if nat_le b 0x39 then Some (b - 0x30)
    else if nat_lt b 0x61 then None
    else if nat_le b 0x66 then Some (b - 0x61 + 10)
    else None

-- The number that digits spell after those that spell v.
unfoldable pub hex_of : ℕ → List ℕ → Option ℕ
hex_of v [] = Some v
hex_of v (b ∷ t) = option_and_then (λ d. hex_of (v * 16 + d) t) (digit_of b)

-- The digit of v modulo 16.
abbrev pub hex_digit : ℕ → ℕ
hex_digit v = if nat_lt (v % 16) 10 then 0x30 + v % 16 else 0x61 + (v % 16 - 10)

-- The last two digits of v.
abbrev pub byte_text : ℕ → List ℕ
byte_text v = hex_digit (v / 16) ∷ hex_digit v ∷ []

-- The last eight digits of v.
abbrev pub word_text : ℕ → List ℕ
word_text v = byte_text (v / 0x100_0000) ++ byte_text (v / 0x1_0000) ++ byte_text (v / 0x100) ++ byte_text v
