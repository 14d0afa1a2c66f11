-- What a call knows at its place, and what its answer says.
use Prim.Native.Nat.{ℕ, ◌+◌, ◌-◌, ◌≤◌}
use mathlib.Core.Path.{◌≡◌}
use mathlib.Core.Logic.{◌⊎◌, ◌≢◌}
use mathlib.Core.List.{List, [], ◌∷◌}
use Rattle.std.specs.Prelude.{Some}
use Rattle.std.specs.List.{Any}
use Rattle.channel.specs.declared.position.Position.{Position}
use Rattle.channel.specs.declared.position.Shape.{Shape}
use Rattle.array.specs.declared.Array.{Array as Memory}
use Rattle.array.specs.declared.call.SendPlace.{SendPlace}
use Rattle.array.specs.declared.call.SendPlace.TheVariants as send
use Rattle.array.specs.declared.call.ReceivePlace.{ReceivePlace}
use Rattle.array.specs.declared.call.ReceivePlace.TheVariants as receive
use Rattle.array.specs.declared.call.LenPlace.{LenPlace}
use Rattle.array.specs.declared.call.LenPlace.TheVariants as len
use Rattle.array.specs.declared.call.IsEmptyPlace.{IsEmptyPlace}
use Rattle.array.specs.declared.call.IsEmptyPlace.TheVariants as is_empty
use Rattle.array.specs.declared.call.IsFullPlace.{IsFullPlace}
use Rattle.array.specs.declared.call.IsFullPlace.TheVariants as is_full
use Rattle.array.specs.declared.call.ArrayCall.{ArrayCall}
use Rattle.array.specs.declared.call.ArrayCall.TheVariants.{Send, Receive, Len, IsEmpty, IsFull, IsDisconnected, Disconnect}
use Rattle.places.specs.declared.begin.Code.{Code}
use Rattle.places.specs.declared.begin.Code.TheVariants as code
use Rattle.places.specs.declared.place.Place.{Place}
use Rattle.places.specs.declared.place.Place.TheVariants.{Idle, Array, Zero, Done}
use Rattle.claims.specs.Claims.{Claims, Call}
use Rattle.claims.specs.Statement.{TrueOf, Unclaimed, ClaimedFor}
use Rattle.claims.proofs.Words.{slot_for, word}
use Rattle.claims.proofs.Tails.{Tail}
use Rattle.claims.proofs.Sides.{message_in, Side, sending, receiving, made, ReadyFor}
use Rattle.claims.proofs.Rely.{Own}

-- A word loaded some time ago from the position of a side.
pub record Saw (S : Shape) (c : Claims) (σ : Side) (w : Position) : Type 0 where
  pub n : ℕ
  pub is : w.0 ≡ word S n
  pub old : n ≤ made σ c

-- The same, and if the position still stands there, its slot is ready.
pub record Ready (S : Shape) (s : Memory) (c : Claims) (σ : Side) (w : Position) : Type 0 where
  pub n : ℕ
  pub is : w.0 ≡ word S n
  pub old : n ≤ made σ c
  pub ready : n ≡ made σ c → ReadyFor S s σ n

-- The slot of n has the message of send claim n.
abbrev pub Stored : Shape → Memory → Claims → ℕ → Type 0
Stored S s c n = message_in s (slot_for S n) ≡ c.message n

-- A tail loaded some time ago, perhaps with the mark.
pub record SawTail (S : Shape) (c : Claims) (w : Position) : Type 0 where
  pub n : ℕ
  pub is : Tail S w n
  pub old : n ≤ c.sends

-- A tail, then a head: if the tail still stands there, what lies between was so at some moment.
pub record SawBoth (S : Shape) (c : Claims) (l : List ℕ) (w v : Position) : Type 0 where
  pub n : ℕ
  pub k : ℕ
  pub tail : Tail S w n
  pub head : v.0 ≡ word S k
  pub old : n ≤ c.sends
  pub between : n ≡ c.sends → (k ≤ n) × (n ≤ k + S.capacity) × Any (λ x. x ≡ n - k) l

-- A head: no send claim is past it yet, so that the array was empty then, or it was not empty at some moment.
pub record MaybeEmpty (S : Shape) (c : Claims) (l : List ℕ) (v : Position) : Type 0 where
  pub k : ℕ
  pub is : v.0 ≡ word S k
  pub old : k ≤ c.receives
  pub held : (c.sends ≡ k) ⊎ Any (λ x. x ≢ 0) l

-- A tail: no receive claim has made room past it yet, so that the array was full then, or it was not full at some moment.
pub record MaybeFull (S : Shape) (c : Claims) (l : List ℕ) (w : Position) : Type 0 where
  pub n : ℕ
  pub is : Tail S w n
  pub old : n ≤ c.sends
  pub held : (c.receives + S.capacity ≡ n) ⊎ Any (λ x. x ≢ S.capacity) l

-- The call has made no claim yet, and m is its message.
abbrev pub Returns : Call → ℕ → Type 0
Returns a m = Unclaimed a × (m ≡ a.carried)

-- What call a knows.
module _ (S : Shape) (s : Memory) (c : Claims) (a : Call) where
  abbrev pub SendKnows : SendPlace → Type 0
  SendKnows (send.LoadTail m) = Returns a m
  SendKnows (send.LoadStamp m w) = Returns a m × Saw S c sending w
  SendKnows (send.ClaimTail m w) = Returns a m × Ready S s c sending w
  SendKnows (send.LoadHead m w) = Returns a m × Saw S c sending w
  SendKnows (send.StoreMessage m w) =
      (x : Own S s a.send_claims sending w) × (a.receive_claims ≡ []) × (c.message x.n ≡ a.carried) × (m ≡ a.carried)
  SendKnows (send.StoreStamp w) =
      (x : Own S s a.send_claims sending w) × (a.receive_claims ≡ []) × (c.message x.n ≡ a.carried) × Stored S s c x.n

  abbrev pub ReceiveKnows : ReceivePlace → Type 0
  ReceiveKnows receive.LoadHead = Returns a 0
  ReceiveKnows (receive.LoadStamp w) = Returns a 0 × Saw S c receiving w
  ReceiveKnows (receive.ClaimHead w) = Returns a 0 × Ready S s c receiving w
  ReceiveKnows (receive.LoadTail w) = Returns a 0 × Saw S c receiving w
  ReceiveKnows (receive.TakeMessage w) =
      (x : Own S s a.receive_claims receiving w) × (a.send_claims ≡ []) × (c.took x.n ≡ []) × Stored S s c x.n
  ReceiveKnows (receive.StoreStamp w m) =
      (x : Own S s a.receive_claims receiving w) × (a.send_claims ≡ []) × (c.took x.n ≡ m ∷ [])

  abbrev pub LenKnows : LenPlace → Type 0
  LenKnows len.LoadTail = Unit
  LenKnows (len.LoadHead w) = SawTail S c w
  LenKnows (len.LoadTailAgain w v) = SawBoth S c a.counts w v

  abbrev pub IsEmptyKnows : IsEmptyPlace → Type 0
  IsEmptyKnows is_empty.LoadHead = Unit
  IsEmptyKnows (is_empty.LoadTail v) = MaybeEmpty S c a.counts v

  abbrev pub IsFullKnows : IsFullPlace → Type 0
  IsFullKnows is_full.LoadTail = Unit
  IsFullKnows (is_full.LoadHead w) = MaybeFull S c a.counts w

  abbrev pub Knows : ArrayCall → Type 0
  Knows (Send p) = SendKnows p
  Knows (Receive p) = ReceiveKnows p
  Knows (Len p) = Unclaimed a × LenKnows p
  Knows (IsEmpty p) = Unclaimed a × IsEmptyKnows p
  Knows (IsFull p) = Unclaimed a × IsFullKnows p
  Knows IsDisconnected = Unclaimed a
  Knows Disconnect = Unclaimed a

-- The code that a call was begun with.
abbrev pub kind_of : ArrayCall → Code
kind_of (Send p) = code.TrySend
kind_of (Receive p) = code.TryReceive
kind_of (Len p) = code.Len
kind_of (IsEmpty p) = code.IsEmpty
kind_of (IsFull p) = code.IsFull
kind_of IsDisconnected = code.IsDisconnected
kind_of Disconnect = code.Disconnect

-- What stands at the place of call a.
module _ (S : Shape) (s : Memory) (c : Claims) (a : Call) where
  abbrev pub Stands : Place → Type 0
  Stands Idle = Unit
  Stands (Array p) = (a.code ≡ Some (kind_of p)) × Knows S s c a p
  Stands (Zero p) = ⊥
  Stands (Done x) = TrueOf S.capacity a.counts a.code x × ClaimedFor c a x
