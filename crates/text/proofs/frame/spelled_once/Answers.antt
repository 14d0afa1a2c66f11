-- The text of a frame is its one line, by the laws of texts.
use Rattle.text.proofs.TextLaws.{read_written, written_read}
use Rattle.text.proofs.frame.spelled_once.Goals as goal

pub returns-clause-read_written : goal.returns-clause-read_written
returns-clause-read_written c = read_written

pub returns-clause-written_read : goal.returns-clause-written_read
returns-clause-written_read c = written_read
