-- Where a thread stands after a step.
use Rattle.channel.specs.declared.outcome.Next.{Next}
use Rattle.channel.specs.declared.outcome.Next.TheVariants.{Goes, Ends}
use Rattle.places.specs.declared.place.Place.{Place}
use Rattle.places.specs.declared.place.Place.TheVariants.{Done}

-- Further on in its call, as that channel's calls stand, or with its answer.
abbrev pub place_after : {C : Type 0} → (C → Place) → Next C → Place
place_after at (Goes k) = at k
place_after at (Ends a) = Done a
