-- What a call leaves of the threads that do not make it.
use Prim.Native.Nat.{ℕ, ◌<◌, ◌≤◌}
use mathlib.Core.Path.{◌≡◌}
use mathlib.Core.Bool.{Bool, true}
use mathlib.Core.Logic.{◌≢◌}
use Rattle.std.specs.Prelude.{Some}
use Rattle.waker.specs.Context.{thread}
use Rattle.waker.specs.Wakers.{other_side}
use Rattle.waker.specs.declared.context.Thread.{Thread}
use Rattle.waker.specs.declared.context.Selected.{Selected}
use Rattle.waker.specs.declared.context.Selected.TheVariants as word
use Rattle.waker.specs.declared.wakers.Side.{Side}
use Rattle.zero.specs.ZeroSteps.{side_of, partner_for}
use Rattle.zero.specs.declared.call.Offer.{Offer}
use Rattle.zero.specs.declared.call.Limit.{Limit}
use Rattle.zero.specs.declared.call.Question.TheVariants.{Disconnect}
use Rattle.zero.specs.declared.call.ZeroCall.TheVariants.{First, Ask}
use Rattle.schedule.specs.Record.{place_of}
use Rattle.forms.specs.FormWaits.{awaits, partner, partner_of, times_in}
use Rattle.schedule.specs.History.{Act, steps, Moment}
use Rattle.places.specs.declared.place.Place.TheVariants.{Zero}
use Rattle.handover.specs.Meetings.{Past, word_at, packet_of}
use Rattle.handover.specs.Statement.{queue_at, ahead_of}
use Rattle.handover.proofs.Inv.{AtPlace}

-- Call a at M is a disconnection, b being the flag then.
pub record Cut (M : Moment Past) (a : Act) (b : Bool) : Type 0 where
  pub who : Thread
  pub does : a ≡ steps who
  pub place : place_of M.now who.0 ≡ Zero (Ask Disconnect)
  pub flag : b ≡ true

-- A word stays, or turns from Waiting by a cut.
pub data Word (C : Type 0) (w x : Selected) : Type 0 where
  keeps : x ≡ w → Word C w x
  cuts : w ≡ word.Waiting → x ≡ word.Disconnected → C → Word C w x

-- From M to N call a leaves u alone, but for a cut; no more entries stand before it.
pub record Same (M N : Moment Past) (a : Act) (u : ℕ) : Type 0 where
  pub place : place_of N.now u ≡ place_of M.now u
  pub word : Word (Cut M a N.now.zero.disconnected) (word_at M.now u) (word_at N.now u)
  pub packet : packet_of N.now u ≡ packet_of M.now u
  pub ahead : (σ : Side) → 0 < times_in u (queue_at M.now σ) → ahead_of u (queue_at N.now σ) ≤ ahead_of u (queue_at M.now σ)
  pub code : N.past.code u ≡ M.past.code u
  pub carried : N.past.carried u ≡ M.past.carried u
  pub deadline : N.past.deadline u ≡ M.past.deadline u
  pub entries : N.past.entries u ≡ M.past.entries u
  pub pairs : N.past.pairs u ≡ M.past.pairs u
  pub since : N.past.since u ≡ M.past.since u
  pub flag : M.now.zero.disconnected ≡ true → N.now.zero.disconnected ≡ true
  pub clock : M.now.clock.0 ≤ N.now.clock.0

-- It leaves v alone, picks it, or serves it as its partner.
pub data Touch (M N : Moment Past) (a : Act) (v : ℕ) : Type 0 where
  spares : Same M N a v → Touch M N a v
  picks : (u : Thread) (o : Offer) (l : Limit) → a ≡ steps u → place_of M.now u.0 ≡ Zero (First o l) →
      0 < times_in v (queue_at M.now (other_side (side_of o))) → word_at M.now v ≡ word.Waiting →
      place_of N.now u.0 ≡ Zero (partner_for o (thread v)) → word_at N.now v ≡ word.Picked → Touch M N a v
  serves : (u : Thread) (σ : Side) → a ≡ steps u → partner_of (place_of M.now u.0) ≡ Some (partner σ (thread v)) → Touch M N a v

-- What is shown of every call: what holds at all places holds on, and what is left of those that await.
pub record Kept (M N : Moment Past) (a : Act) : Type 0 where
  pub self : (u : ℕ) → AtPlace N u (place_of N.now u)
  pub others : (v : ℕ) (σ : Side) → awaits σ (place_of M.now v) ≡ true → a ≢ steps (thread v) → Touch M N a v
