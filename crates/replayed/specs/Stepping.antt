-- The step that a line asks for, where a record of so many threads has its thread.
use Rattle.std.specs.Prelude.{ℕ, Option, Some, None, List, drop, ltb, if◌then◌else◌}
use Rattle.waker.specs.declared.context.Thread.{Thread}
use Rattle.text.specs.Lines.{line_of}
use Rattle.text.specs.Frames.{parse_of, step_thread}

abbrev pub step_there : ℕ → Option Thread → Option Thread
step_there n (Some t) = if ltb t.0 n then Some t else None
step_there n None = None

-- The same of the line that begins at a place.
abbrev pub step_in : List ℕ → ℕ → ℕ → Option Thread
step_in text at n = step_there n (step_thread (parse_of (line_of (drop at text))))
