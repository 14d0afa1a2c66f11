-- The claims law over any schedule: for every capacity, number of threads and history from a fresh array.
use Rattle.std.specs.Prelude.{ℕ, ◌+◌, ◌<◌, ◌≤◌, ◌≡◌, ◌≢◌, Option, Some, List, [], ◌∷◌}
use Rattle.std.specs.List.{Any}
use Rattle.channel.specs.declared.answer.Answer.{Answer}
use Rattle.channel.specs.declared.answer.Answer.TheVariants.{Sent, Received, Full, Empty, Disconnected, Timeout, Number, Yes, No}
use Rattle.schedule.specs.Record.{place_of, accepted_as}
use Rattle.schedule.specs.Making.{made_array}
use Rattle.schedule.specs.History.{Act, Moment}
use Rattle.places.specs.declared.begin.Code.{Code}
use Rattle.places.specs.declared.begin.Code.TheVariants.{IsEmpty, IsFull}
use Rattle.places.specs.declared.place.Place.TheVariants.{Done}
use Rattle.schedule.specs.declared.record.Record.{Record}
use Rattle.claims.specs.Claims.{Claims, Call, Past, moment_after}

-- What each answer says of the counts at the moments of its call: that one of them was so. Of what is answered yes or no, only
-- `is_empty` and `is_full` ask about them.
module _ (capacity : ℕ) (counts : List ℕ) where
  abbrev pub YesTo : Option Code → Type 0
  YesTo (Some IsEmpty) = Any (λ n. n ≡ 0) counts
  YesTo (Some IsFull) = Any (λ n. n ≡ capacity) counts
  YesTo _ = Unit

  abbrev pub NoTo : Option Code → Type 0
  NoTo (Some IsEmpty) = Any (λ n. n ≢ 0) counts
  NoTo (Some IsFull) = Any (λ n. n ≢ capacity) counts
  NoTo _ = Unit

  abbrev pub TrueOf : Option Code → Answer → Type 0
  TrueOf k Sent = Unit
  TrueOf k (Received m) = Unit
  TrueOf k (Full m) = Any (λ n. n ≡ capacity) counts
  TrueOf k Empty = Any (λ n. n ≡ 0) counts
  TrueOf k (Disconnected m) = Unit
  TrueOf k (Timeout m) = Unit
  TrueOf k (Number i) = Any (λ n. n ≡ i) counts
  TrueOf k Yes = YesTo k
  TrueOf k No = NoTo k

-- The call has made no claim.
abbrev pub Unclaimed : Call → Type 0
Unclaimed a = (a.send_claims ≡ []) × (a.receive_claims ≡ [])

-- What each answer says of the claims of its call, and of the message that it carried.
module _ (c : Claims) (a : Call) where
  abbrev pub ClaimedFor : Answer → Type 0
  ClaimedFor Sent = (n : ℕ) × (a.send_claims ≡ n ∷ []) × (a.receive_claims ≡ []) × (c.message n ≡ a.carried)
  ClaimedFor (Received m) = (n : ℕ) × (a.send_claims ≡ []) × (a.receive_claims ≡ n ∷ []) × (c.took n ≡ m ∷ [])
  ClaimedFor (Full m) = Unclaimed a × (m ≡ a.carried)
  ClaimedFor Empty = Unclaimed a
  ClaimedFor (Disconnected m) = Unclaimed a × (m ≡ a.carried)
  ClaimedFor (Timeout m) = ⊥
  ClaimedFor (Number n) = Unclaimed a
  ClaimedFor Yes = Unclaimed a
  ClaimedFor No = Unclaimed a

-- At every moment.
pub record Holds (capacity : ℕ) (M : Moment Past) : Type 0 where
  -- The n-th receive claim, once it takes a message, takes that of the n-th send claim, and takes no other.
  pub in_order : (n m : ℕ) (more : List ℕ) → M.past.claims.took n ≡ m ∷ more →
      (n < M.past.claims.sends) × (m ≡ M.past.claims.message n) × (more ≡ [])
  -- Where no two send claims have the same message, no two receive claims take the same.
  pub apart : ((i j : ℕ) → i < M.past.claims.sends → j < M.past.claims.sends →
      M.past.claims.message i ≡ M.past.claims.message j → i ≡ j) →
      (i j m : ℕ) → M.past.claims.took i ≡ m ∷ [] → M.past.claims.took j ≡ m ∷ [] → i ≡ j
  -- There are never more receive claims than send claims, nor send claims beyond the capacity.
  pub balance : (M.past.claims.receives ≤ M.past.claims.sends)
      × (M.past.claims.sends ≤ M.past.claims.receives + capacity)
  -- A call has made the claims that its answer tells of: one send claim, of its own message, if it has sent; one receive claim,
  -- which took what it received, if it has received; else none, and its message comes back.
  pub claimed : (t : ℕ) (x : Answer) → place_of M.now t ≡ Done x →
      ClaimedFor M.past.claims (M.past.calls t) x
  -- Each answer was true at some moment of its call.
  pub answers : (t : ℕ) (x : Answer) → place_of M.now t ≡ Done x →
      TrueOf capacity (M.past.calls t).counts (M.past.calls t).code x

-- Whatever is called on a fresh array, refused calls among it.
abbrev pub ClaimLaw : Type 0
ClaimLaw = (capacity n : ℕ) (r : Record) → made_array capacity n ≡ accepted_as r → (l : List Act) → Holds capacity (moment_after r l)
