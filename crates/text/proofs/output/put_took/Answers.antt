-- `put_took` meets its contract: two bytes, a word and the end.
use Rattle.text.proofs.PasteLaws.{put_four}
use Rattle.text.proofs.output.put_took.Goals as goal

pub returns : goal.returns
returns c =
    put_four c.requires c.put_byte-second.ensures c.put_byte-third.ensures
    c.put_word-end.ensures c.put_end.ensures
