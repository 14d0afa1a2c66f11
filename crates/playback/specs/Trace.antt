-- What the trace shows of a frame: its output line, and the record after it, as a line.
use Rattle.std.specs.Prelude.{ℕ, List, ◌++◌, Result, Ok, Err}
use Rattle.schedule.specs.declared.record.Record.{Record}
use Rattle.saved.specs.Line.{record_line}
use Rattle.served.specs.Served.{reply_line}
use Rattle.served.specs.declared.held.Served.{Served}

-- `SHOWN` of the code: a take's line and a record's line.
abbrev pub shown_room : ℕ
shown_room = 3_278

-- Before a channel was made, the record that stands for none.
abbrev pub record_of : Result Record Record → Record
record_of (Ok r) = r
record_of (Err r) = r

abbrev pub shown_for : Served → List ℕ
shown_for s = reply_line s.reply ++ record_line (record_of s.held.channel)
