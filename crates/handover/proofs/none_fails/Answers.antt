-- `handover::none_fails` promises that fail is refused: every history keeps a rendezvous' threads off an array's places.
use Rattle.handover.proofs.Exchanges.{none_fails}
use Rattle.handover.proofs.none_fails.Goals as goal

pub returns : goal.returns
returns c = none_fails
