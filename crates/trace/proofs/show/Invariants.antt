-- What is held has grown, so it can serve; the buffer keeps its length. The measure is what is left of the text.
use Rattle.std.proofs.Common.{◌≡◌, ◌-◌, length}
use Rattle.playback.specs.Trace.{shown_room}
use Rattle.served.proofs.ServedLaws.{GrownHeld}
use Rattle.trace.proofs.show.Given as goal

abbrev pub invariant-loop-at : goal.invariant-loop-at
invariant-loop-at g l = GrownHeld l.held × (length l.out ≡ shown_room)

abbrev pub decreases-loop-at : goal.decreases-loop-at
decreases-loop-at g l = length l.text - l.at
