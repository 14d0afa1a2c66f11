-- `claims::claim_law` promises the claim law, which `proofs/Law.antt` proves.
use Rattle.claims.proofs.Law.{claim_law}
use Rattle.claims.proofs.claim_law.Goals as goal

pub returns : goal.returns
returns c = claim_law
