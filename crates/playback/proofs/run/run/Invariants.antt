-- `run` writes the output of the whole text. The loop's invariant, Running with nothing made: what is written up to end, and
-- then the replies to the lines from at on, are the whole output; end is at most 3 * at. A channel's replay answers the rest.
-- The measure is what is left of the text and one byte more, since at passes a last line without 0a by one.
use Prim.Native.Nat.{◌+◌, ◌-◌}
use lib.ListN.{length}
use Rattle.served.specs.Served.{nothing_made}
use Rattle.served.proofs.RunLaws.{Running}
use Rattle.playback.proofs.run.run.Given as goal

abbrev pub invariant-loop-at : goal.invariant-loop-at
invariant-loop-at l = Running l.text l.initial.out nothing_made 0 0 nothing_made l.at l.end l.out

abbrev pub decreases-loop-at : goal.decreases-loop-at
decreases-loop-at l = length l.text + 1 - l.at
