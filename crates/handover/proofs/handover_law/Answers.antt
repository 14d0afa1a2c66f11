-- `handover::handover_law` promises who meets whom: the law holds at every moment that `Inv` holds at, and every history keeps `Inv`.
use Rattle.handover.specs.Meetings.{moment_after}
use Rattle.handover.proofs.Histories.{inv_after}
use Rattle.handover.proofs.Law.{holds}
use Rattle.handover.proofs.handover_law.Goals as goal

pub returns : goal.returns
returns c n r e l = holds (moment_after r l) (inv_after n r e l)
