-- Who meets whom, sentence by sentence: for every number of threads and history from a fresh rendezvous.
use Rattle.std.specs.Prelude.{ℕ, suc, ◌+◌, ◌<◌, ◌≤◌, ◌≡◌, true, false, ◌⊎◌, ◌≢◌, Some, None, Ok, List, [], ◌∷◌, ◌++◌, length, eqb, if◌then◌else◌}
use Rattle.waker.specs.Context.{thread}
use Rattle.waker.specs.Wakers.{other_side, listed}
use Rattle.waker.specs.declared.context.Thread.{Thread}
use Rattle.waker.specs.declared.context.Selected.TheVariants as word
use Rattle.waker.specs.declared.wakers.Side.{Side}
use Rattle.waker.specs.declared.wakers.Side.TheVariants.{Sender, Receiver}
use Rattle.zero.specs.Zero.{packet_for}
use Rattle.zero.specs.ZeroSteps.{side_of, partner_for, met_by}
use Rattle.channel.specs.declared.answer.Tick.{Tick}
use Rattle.channel.specs.declared.answer.Answer.{Answer}
use Rattle.channel.specs.declared.answer.Answer.TheVariants as answer
use Rattle.zero.specs.declared.call.Offer.{Offer}
use Rattle.zero.specs.declared.call.Limit.{Limit}
use Rattle.zero.specs.declared.call.Question.{Question}
use Rattle.zero.specs.declared.call.Question.TheVariants.{Len, Disconnect}
use Rattle.zero.specs.declared.call.ZeroCall.{ZeroCall}
use Rattle.zero.specs.declared.call.ZeroCall.TheVariants.{First, Wait, ReadyWait, Leave, Ask}
use Rattle.schedule.specs.Record.{place_of, accepted_as, refused_with}
use Rattle.schedule.specs.Making.{made_zero}
use Rattle.forms.specs.FormWaits.{awaits, zero_partner, partner, partner_of, times_in}
use Rattle.schedule.specs.Calls.{failed}
use Rattle.schedule.specs.History.{Act, steps, act_on, after, Moment, next}
use Rattle.places.specs.declared.place.Place.TheVariants.{Zero, Done}
use Rattle.schedule.specs.declared.record.Record.{Record}
use Rattle.bounds.specs.declared.refusal.Refusal.{Refusal}
use Rattle.handover.specs.Meetings.{Past, try_code, wait_code, ask_code, pair_of, sender_of, word_at, packet_of, rule, moment_after}

-- A side's queue, oldest entry first, and how many entries stand before t in it.
abbrev pub queue_at : Record → Side → List Thread
queue_at r σ = listed r.zero.wakers σ

unfoldable pub ahead_of : ℕ → List Thread → ℕ
ahead_of t [] = 0
ahead_of t (e ∷ l) = if eqb e.0 t then 0 else suc (ahead_of t l)

-- Thread t's call waits on a side until d, with its word Waiting.
pub record Waits (r : Record) (t : ℕ) (σ : Side) (d : Tick) : Type 0 where
  pub place : place_of r t ≡ Zero (Wait σ d)
  pub word : word_at r t ≡ word.Waiting

-- A call is carried out at a moment.
abbrev pub Accepted : Moment Past → Act → Type 0
Accepted M a = (act_on M.now a).reply ≡ Ok None

-- From M to N thread t has registered: it waits at the end of its side's queue, all others of which are ahead of it.
pub record Registered (M N : Moment Past) (t : Thread) (σ : Side) (d : Tick) : Type 0 where
  pub waits : Waits N.now t.0 σ d
  pub last : queue_at N.now σ ≡ queue_at M.now σ ++ (t ∷ [])
  pub entries : N.past.entries t.0 ≡ length (queue_at M.now σ)
  pub unopposed : N.past.opposed t.0 ≡ 0

-- From M to N thread u's first step has picked t or an entry ahead of it; t itself, if as many such calls as it had entries ahead
-- have gone before.
pub record Picks (M N : Moment Past) (t : ℕ) (u : Thread) (σ : Side) (o : Offer) : Type 0 where
  pub whom : Thread
  pub entry : times_in whom.0 (queue_at M.now σ) ≡ 1
  pub near : (whom.0 ≡ t) ⊎ (ahead_of whom.0 (queue_at M.now σ) < ahead_of t (queue_at M.now σ))
  pub goes : place_of N.now u.0 ≡ Zero (partner_for o whom)
  pub word : word_at N.now whom.0 ≡ word.Picked
  pub gone : times_in whom.0 (queue_at N.now σ) ≡ 0
  pub due : M.past.opposed t ≡ M.past.entries t → whom.0 ≡ t

-- What a call makes of a waiter.
pub data Fate (M N : Moment Past) (a : Act) (t : ℕ) (σ : Side) (d : Tick) : Type 0 where
  waits_on_still : Waits N.now t σ d → Fate M N a t σ d
  is_picked_first : (u : Thread) (o : Offer) (l : Limit) → a ≡ steps u → place_of M.now u.0 ≡ Zero (First o l) →
      side_of o ≡ other_side σ → place_of N.now u.0 ≡ Zero (partner_for o (thread t)) → word_at N.now t ≡ word.Picked →
      Fate M N a t σ d
  times_out : a ≡ steps (thread t) → d.0 ≤ M.now.clock.0 → place_of N.now t ≡ Zero (Leave σ) →
      word_at N.now t ≡ word.Aborted → Fate M N a t σ d
  cut_off : (u : Thread) → a ≡ steps u → place_of M.now u.0 ≡ Zero (Ask Disconnect) →
      word_at N.now t ≡ word.Disconnected → Fate M N a t σ d

-- Thread u has picked v, of side σ, and has further steps to make: they are each other's only partner, the message is that of
-- the one that sends, and v waits, Picked, its mark not set.
pub record Met (M : Moment Past) (u : ℕ) (σ : Side) (v : Thread) (m : ℕ) : Type 0 where
  pub hers : M.past.pairs u ≡ pair_of v.0 m ∷ []
  pub his : M.past.pairs v.0 ≡ pair_of u m ∷ []
  pub sent : m ≡ M.past.carried (sender_of σ u v.0)
  pub waits : awaits σ (place_of M.now v.0) ≡ true
  pub word : word_at M.now v.0 ≡ word.Picked
  pub unmarked : (packet_of M.now v.0).ready ≡ false

-- From M to N it has made one of two further steps; the second sets v's mark and answers.
pub data Further (M N : Moment Past) (u : ℕ) (σ : Side) (v : Thread) (m : ℕ) : Type 0 where
  first : M.past.since u ≡ 0 → N.past.since u ≡ 1 → partner_of (place_of N.now u) ≡ Some (partner σ v) → Further M N u σ v m
  second : M.past.since u ≡ 1 → (packet_of N.now v.0).ready ≡ true → N.past.since v.0 ≡ 0 →
      place_of N.now u ≡ Done (met_by (other_side σ) m) → Further M N u σ v m

-- From M to N a waiter with its mark set has made an own step: the first may only go on to ready-wait, the second answers.
pub data Ends (M N : Moment Past) (t : ℕ) (σ : Side) (m : ℕ) : Type 0 where
  goes_on_here : M.past.since t ≡ 0 → N.past.since t ≡ 1 → place_of N.now t ≡ Zero (ReadyWait σ) → Ends M N t σ m
  answers : M.past.since t ≤ 1 → place_of N.now t ≡ Done (met_by σ m) → Ends M N t σ m

-- From M to N nothing of t has changed.
pub record Untouched (M N : Moment Past) (t : ℕ) : Type 0 where
  pub place : place_of N.now t ≡ place_of M.now t
  pub word : word_at N.now t ≡ word_at M.now t
  pub packet : packet_of N.now t ≡ packet_of M.now t
  pub pairs : N.past.pairs t ≡ M.past.pairs t
  pub since : N.past.since t ≡ M.past.since t

-- What an answer says of its call.
module _ (M : Moment Past) (t : ℕ) where
  abbrev pub Unpaired : Type 0
  Unpaired = M.past.pairs t ≡ []

  -- Its code is a send's or a receive's, or a question's.
  abbrev pub OnSide : Side → Type 0
  OnSide σ = (M.past.code t ≡ Some (try_code σ)) ⊎ (M.past.code t ≡ Some (wait_code σ))

  abbrev pub Asks : Type 0
  Asks = (q : Question) × (M.past.code t ≡ Some (ask_code q))

  -- It has one partner, and the message that passed is m.
  abbrev pub Passed : ℕ → Type 0
  Passed m = (u : ℕ) × (M.past.pairs t ≡ pair_of u m ∷ [])

  -- What it carried comes back.
  abbrev pub Back : ℕ → Type 0
  Back m = m ≡ M.past.carried t

  abbrev pub Tells : Answer → Type 0
  Tells answer.Sent = OnSide Sender × Passed (M.past.carried t)
  Tells (answer.Received m) = OnSide Receiver × Passed m
  Tells (answer.Full m) = (M.past.code t ≡ Some (try_code Sender)) × Unpaired × Back m
  Tells answer.Empty = (M.past.code t ≡ Some (try_code Receiver)) × Unpaired
  Tells (answer.Disconnected m) = ((σ : Side) × OnSide σ) × Unpaired × Back m × (M.now.zero.disconnected ≡ true)
  Tells (answer.Timeout m) =
      ((σ : Side) × (M.past.code t ≡ Some (wait_code σ))) × Unpaired × Back m × (M.past.deadline t ≤ M.now.clock.0)
  Tells (answer.Number n) = (M.past.code t ≡ Some (ask_code Len)) × Unpaired
  Tells answer.Yes = Asks × Unpaired
  Tells answer.No = Asks × Unpaired

-- At every moment M, and N being the one after a further call.
pub record Holds (M : Moment Past) : Type 0 where
  -- Let a waiter register, on its own side, with k entries ahead of it.
  pub registers : (t : Thread) (o : Offer) (l : Limit) (σ : Side) (d : Tick) → place_of M.now t.0 ≡ Zero (First o l) →
      place_of (next rule M (steps t)).now t.0 ≡ Zero (Wait σ d) →
      (σ ≡ side_of o) × Registered M (next rule M (steps t)) t (side_of o) d
  -- Each opposite call whose first step falls while its word is still Waiting picks it or an entry ahead,
  pub picks : (t : ℕ) (σ : Side) (d : Tick) → Waits M.now t σ d → (u : Thread) (o : Offer) (l : Limit) →
      place_of M.now u.0 ≡ Zero (First o l) → side_of o ≡ other_side σ → Accepted M (steps u) →
      Picks M (next rule M (steps u)) t u σ o
  -- the entries ahead only becoming fewer,
  pub fewer : (t : ℕ) (σ : Side) (d : Tick) → Waits M.now t σ d → (a : Act) → Waits (next rule M a).now t σ d →
      ahead_of t (queue_at (next rule M a).now σ) ≤ ahead_of t (queue_at M.now σ)
  -- so it is picked by the (k+1)-th such call: no more than k leave it Waiting,
  pub bound : (t : ℕ) (σ : Side) (d : Tick) → Waits M.now t σ d →
      M.past.opposed t + ahead_of t (queue_at M.now σ) ≤ M.past.entries t
  -- unless its deadline or a disconnect ends it first.
  pub fate : (t : ℕ) (σ : Side) (d : Tick) → Waits M.now t σ d → (a : Act) → Fate M (next rule M a) a t σ d
  -- Once the picking call has made its two further steps,
  pub met : (u : ℕ) (σ : Side) (v : Thread) → partner_of (place_of M.now u) ≡ Some (partner σ v) → (m : ℕ) × Met M u σ v m
  pub further : (u : Thread) (σ : Side) (v : Thread) (m : ℕ) → partner_of (place_of M.now u.0) ≡ Some (partner σ v) →
      Met M u.0 σ v m → Accepted M (steps u) → Further M (next rule M (steps u)) u.0 σ v m
  -- the waiter's call ends by its second own step from then,
  pub ends : (t : Thread) (σ : Side) → awaits σ (place_of M.now t.0) ≡ true → (packet_of M.now t.0).ready ≡ true →
      Accepted M (steps t) → (u m : ℕ) × (M.past.pairs t.0 ≡ pair_of u m ∷ []) × Ends M (next rule M (steps t)) t.0 σ m
  -- the message passing between these two calls alone: no call but a step of its own or of its partner touches a picked waiter,
  pub alone : (t : ℕ) (σ : Side) → awaits σ (place_of M.now t) ≡ true → word_at M.now t ≡ word.Picked → (a : Act) →
      a ≢ steps (thread t) → ((u : Thread) → a ≡ steps u → partner_of (place_of M.now u.0) ≢ Some (partner σ (thread t))) →
      Untouched M (next rule M a) t
  -- a step loads no packet but its own and its partner's,
  pub loads : (u : Thread) (k : ZeroCall) → place_of M.now u.0 ≡ Zero k →
      (packet_for u k ≡ u) ⊎ ((σ : Side) × (zero_partner k ≡ Some (partner σ (packet_for u k))))
  -- and a call answers as its code may: Sent or Received exactly when it was paired, once, with the message of the pair's send.
  pub answers : (t : ℕ) (a : Answer) → place_of M.now t ≡ Done a → Tells M t a

-- Whatever is called on a fresh rendezvous, refused calls among it.
abbrev pub HandoverLaw : Type 0
HandoverLaw = (n : ℕ) (r : Record) → made_zero n ≡ accepted_as r → (l : List Act) → Holds (moment_after r l)

-- No exchange fails here. Whatever is called on a fresh rendezvous, fail is refused, and so in no history that `HandoverLaw`
-- speaks of is it accepted.
abbrev pub NoneFails : Type 0
NoneFails = (n : ℕ) (r : Record) → made_zero n ≡ accepted_as r → (l : List Act) (t : Thread) →
    (x : Refusal) × (failed (after r l) t ≡ refused_with (after r l) x)
