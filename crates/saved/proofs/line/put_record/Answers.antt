-- `put_record` writes the whole line.
use Rattle.std.proofs.Common.{arith}
use Rattle.saved.proofs.LineLaws.{none_put, next_put, all_put}
use Rattle.saved.proofs.line.put_record.Goals as goal

pub loop-i-init : goal.loop-i-init
loop-i-init c = none_put _ _

pub loop-i-preserved : goal.loop-i-preserved
loop-i-preserved c =
    next_put _ _ c.loop-i.invariant c.requires c.loop-i-test.true c.field.ensures c.put_long-end.ensures

pub returns : goal.returns
returns c =
    all_put _ _ c.loop-i.invariant c.requires (omega (arith, c.loop-i-test.false)) c.put_end.ensures
