-- `value` is what the digits read so far spell, below 16 to their number.
use Rattle.std.proofs.Common.{◌≡◌, ◌<◌, ◌^◌, drop}
use Rattle.text.specs.Hex.{hex_of}
use Rattle.text.proofs.hex.hex.Given as goal

abbrev pub invariant-loop-b : goal.invariant-loop-b
invariant-loop-b l = record { room : l.value < 16 ^ l.b-index; spelled : hex_of l.value (drop l.b-index l.digits) ≡ hex_of 0 l.digits }
