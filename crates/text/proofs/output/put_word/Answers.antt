-- `put_word` meets its contract: four bytes, one after the other.
use Rattle.text.proofs.PasteLaws.{put_four}
use Rattle.text.proofs.output.put_word.Goals as goal

pub returns : goal.returns
returns c =
    put_four c.requires c.put_byte-second.ensures c.put_byte-third.ensures
    c.put_byte-fourth.ensures c.put_byte.ensures
