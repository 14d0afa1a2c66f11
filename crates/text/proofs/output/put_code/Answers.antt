-- `put_code` meets its contract: a byte and the end.
use native.Mathlib.Omega.{arith}
use Rattle.text.proofs.PasteLaws.{put_put}
use Rattle.text.proofs.output.put_code.Goals as goal

pub returns : goal.returns
returns c =
    let p = c.put_byte-end.ensures in
    put_put (omega (arith, p.past)) p c.put_end.ensures
