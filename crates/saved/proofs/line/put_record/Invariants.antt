-- The first i fields stand from `at` to `end`.
use Rattle.text.specs.Output.{Put}
use Rattle.saved.specs.Line.{fields_text}
use Rattle.saved.proofs.line.put_record.Given as goal

abbrev pub invariant-loop-i : goal.invariant-loop-i
invariant-loop-i l = Put l.at (fields_text l.given l.i) l.end l.initial.out l.out
