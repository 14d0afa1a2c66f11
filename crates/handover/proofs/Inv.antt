-- What every history keeps of a rendezvous and its past.
use Prim.Native.Nat.{ℕ, ◌+◌, ◌≤◌}
use mathlib.Core.Path.{◌≡◌}
use mathlib.Core.Bool.{true}
use mathlib.Core.List.{[], ◌∷◌}
use Rattle.std.specs.Prelude.{Some}
use Rattle.waker.specs.Wakers.{other_side}
use Rattle.waker.specs.declared.context.Thread.{Thread}
use Rattle.waker.specs.declared.context.Selected.{Selected}
use Rattle.waker.specs.declared.context.Selected.TheVariants as word
use Rattle.waker.specs.declared.wakers.Side.{Side}
use Rattle.waker.specs.declared.wakers.Side.TheVariants.{Sender, Receiver}
use Rattle.zero.specs.ZeroSteps.{side_of, message_of}
use Rattle.zero.specs.declared.call.Limit.{Limit}
use Rattle.zero.specs.declared.call.Limit.TheVariants.{Try, Until}
use Rattle.zero.specs.declared.call.ZeroCall.{ZeroCall}
use Rattle.zero.specs.declared.call.ZeroCall.TheVariants.{First, Put, PutReady, Take, TakeReady, Wait, ReadyWait, Leave, Ask}
use Rattle.schedule.specs.Record.{place_of}
use Rattle.schedule.specs.History.{Moment}
use Rattle.places.specs.declared.place.Place.{Place}
use Rattle.places.specs.declared.place.Place.TheVariants.{Idle, Array, Zero, Done}
use Rattle.grown.proofs.ZeroKept.{KeptZero}
use Rattle.handover.specs.Meetings.{Past, try_code, wait_code, ask_code, pair_of, sender_of, word_at, packet_of}
use Rattle.handover.specs.Statement.{queue_at, ahead_of, OnSide, Tells, Unpaired}

module _ (M : Moment Past) (t : ℕ) where
  -- A send's packet holds what it carries; a receive carries nothing.
  abbrev pub Holding : Side → Type 0
  Holding Sender = (packet_of M.now t).message ≡ M.past.carried t
  Holding Receiver = M.past.carried t ≡ 0

  -- A send's or receive's code is of its side; one that may wait knows its deadline.
  abbrev pub Limited : Side → Limit → Type 0
  Limited σ Try = M.past.code t ≡ Some (try_code σ)
  Limited σ (Until d) = (M.past.code t ≡ Some (wait_code σ)) × (d.0 ≡ M.past.deadline t)

  -- t and v, of side σ, are each other's only partner, with m the message of the one that sends; t has made n steps since it picked.
  pub record Joint (σ : Side) (v : Thread) (m n : ℕ) : Type 0 where
    pub code : OnSide M t (other_side σ)
    pub mine : M.past.pairs t ≡ pair_of v.0 m ∷ []
    pub theirs : M.past.pairs v.0 ≡ pair_of t m ∷ []
    pub sent : m ≡ M.past.carried (sender_of σ t v.0)
    pub since : M.past.since t ≡ n

  -- t was picked: once; and when its mark is set it has made at most n own steps since, and its packet has the message for it.
  pub record Chosen (σ : Side) (u m n : ℕ) : Type 0 where
    pub pair : M.past.pairs t ≡ pair_of u m ∷ []
    pub own : σ ≡ Sender → m ≡ M.past.carried t
    pub since : (packet_of M.now t).ready ≡ true → M.past.since t ≤ n
    pub message : (packet_of M.now t).ready ≡ true → σ ≡ Receiver → (packet_of M.now t).message ≡ m

  -- t waits, not picked.
  pub record Waiter (σ : Side) : Type 0 where
    pub unpaired : Unpaired M t
    pub holding : Holding σ
    pub bound : M.past.opposed t + ahead_of t (queue_at M.now σ) ≤ M.past.entries t

  pub record CutOff (σ : Side) : Type 0 where
    pub unpaired : Unpaired M t
    pub holding : Holding σ
    pub flag : M.now.zero.disconnected ≡ true

  pub record TimedOut (σ : Side) : Type 0 where
    pub unpaired : Unpaired M t
    pub holding : Holding σ
    pub late : M.past.deadline t ≤ M.now.clock.0

  abbrev pub AtWait : Side → Selected → Type 0
  AtWait σ word.Waiting = Waiter σ
  AtWait σ word.Picked = (u m : ℕ) × Chosen σ u m 0
  AtWait σ word.Aborted = ⊥
  AtWait σ word.Disconnected = CutOff σ

  abbrev pub AtLeave : Side → Selected → Type 0
  AtLeave σ word.Waiting = ⊥
  AtLeave σ word.Picked = ⊥
  AtLeave σ word.Aborted = TimedOut σ
  AtLeave σ word.Disconnected = CutOff σ

  abbrev pub AtCall : ZeroCall → Type 0
  AtCall (First o l) = Unpaired M t × (message_of o ≡ M.past.carried t) × Limited (side_of o) l
  AtCall (Put v m) = Joint Receiver v m 0
  AtCall (PutReady v) = Joint Receiver v (packet_of M.now v.0).message 1
  AtCall (Take v) = Joint Sender v (packet_of M.now v.0).message 0
  AtCall (TakeReady v m) = Joint Sender v m 1
  AtCall (Wait σ d) = Limited σ (Until d) × AtWait σ (word_at M.now t)
  AtCall (ReadyWait σ) = (u m : ℕ) × (M.past.code t ≡ Some (wait_code σ)) × Chosen σ u m 1
  AtCall (Leave σ) = (M.past.code t ≡ Some (wait_code σ)) × AtLeave σ (word_at M.now t)
  AtCall (Ask q) = (M.past.code t ≡ Some (ask_code q)) × Unpaired M t

  abbrev pub AtPlace : Place → Type 0
  AtPlace Idle = Unit
  AtPlace (Array k) = ⊥
  AtPlace (Zero k) = AtCall k
  AtPlace (Done a) = Tells M t a

pub record Inv (M : Moment Past) : Type 0 where
  pub kept : KeptZero M.now
  pub self : (t : ℕ) → AtPlace M t (place_of M.now t)
