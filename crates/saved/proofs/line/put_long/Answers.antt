-- `put_long` meets its contract: two words, one after the other.
use native.Mathlib.Omega.{arith}
use Rattle.text.proofs.PasteLaws.{put_put}
use Rattle.saved.proofs.line.put_long.Goals as goal

pub returns : goal.returns
returns c =
    let p = c.put_word-end.ensures in
    put_put (omega (arith, p.past)) p c.put_word.ensures
