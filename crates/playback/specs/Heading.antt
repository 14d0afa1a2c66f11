-- What a line leads to before a channel was made.
use Rattle.std.specs.Prelude.{ℕ, eqb, if◌then◌else◌, Option, Some, None, Result, Ok, Err}
use Rattle.std.specs.Result.{result_and}
use Rattle.bounds.specs.Limits.{making}
use Rattle.bounds.specs.declared.flavour.Flavour.TheVariants as flavour
use Rattle.bounds.specs.declared.refusal.Refusal.{Refusal}
use Rattle.bounds.specs.declared.refusal.Refusal.TheVariants.{Malformed, NoChannel}
use Rattle.text.specs.declared.frame.Frame.{Frame}
use Rattle.text.specs.declared.frame.Frame.TheVariants.{Header, Begin, Step, Advance, Take, Fail}
use Rattle.playback.specs.declared.run.Heading.{Heading}
use Rattle.playback.specs.declared.run.Heading.TheVariants.{Array, Zero}

-- 2 and 3 refuse a making. Capacity 0 makes a rendezvous.
unfoldable pub making_to : ℕ → ℕ → Result Heading Refusal
making_to c n =
    if eqb c 0 then result_and (making flavour.Zero 0 n) (Ok (Zero n))
    else result_and (making flavour.Array c n) (Ok (Array c n))

-- 11: a malformed line; 12: a frame other than a header.
abbrev pub heading_of : Option Frame → Result Heading Refusal
heading_of None = Err Malformed
heading_of (Some (Header c n)) = making_to c n
heading_of (Some (Begin t c m d)) = Err NoChannel
heading_of (Some (Step t)) = Err NoChannel
heading_of (Some (Advance n)) = Err NoChannel
heading_of (Some (Take t)) = Err NoChannel
heading_of (Some (Fail t)) = Err NoChannel
