-- The line of a record.
use Rattle.std.specs.Prelude.{ℕ, zero, suc, ◌/◌, ◌%◌, List, [], ◌++◌}
use Rattle.schedule.specs.declared.record.Record.{Record}
use Rattle.text.specs.Hex.{word_text}
use Rattle.text.specs.Output.{end_text}
use Rattle.saved.specs.Fields.{field_count, field_of}

-- The last sixteen digits of v.
abbrev pub long_text : ℕ → List ℕ
long_text v = word_text (v / 0x1_0000_0000) ++ word_text (v % 0x1_0000_0000)

-- How long it is: 204 fields of sixteen digits, and 0a.
abbrev pub line_length : ℕ
line_length = 3_265

-- The first n fields, in order.
unfoldable pub fields_text : Record → ℕ → List ℕ
fields_text r zero = []
fields_text r (suc n) = fields_text r n ++ long_text (field_of r n)

unfoldable pub record_line : Record → List ℕ
record_line r = fields_text r field_count ++ end_text
