-- `put_shown` meets its contract: the reply's line and the record's line, one after the other.
use Rattle.playback.proofs.TraceLaws.{shown_whole}
use Rattle.playback.proofs.trace.put_shown.Goals as goal

pub returns : goal.returns
returns c =
    shown_whole c.requires c.args.served c.put-end.ensures (rw c.record_of.ensures at c.put_record.ensures)
