-- What the invariant says of those that wait, and of those that are picked.
use Prim.Native.Nat.{ℕ, ◌<◌}
use mathlib.Core.Path.{◌≡◌, sym, ◌∙◌}
use mathlib.Core.Bool.{true}
use mathlib.Core.Logic.{inl, inr}
use native.Mathlib.Omega.{arith}
use Rattle.std.specs.Prelude.{Some}
use Rattle.waker.specs.declared.context.Thread.{Thread}
use Rattle.waker.specs.declared.context.Selected.TheVariants as word
use Rattle.waker.specs.declared.wakers.Side.{Side}
use Rattle.zero.specs.Zero.{packet_at, with_packet}
use Rattle.channel.specs.declared.answer.Tick.{Tick}
use Rattle.zero.specs.declared.Packet.{Packet}
use Rattle.zero.specs.declared.call.Limit.{Limit}
use Rattle.zero.specs.declared.call.Limit.TheVariants.{Try, Until}
use Rattle.schedule.specs.Record.{place_of}
use Rattle.schedule.specs.History.{Moment}
use Rattle.forms.specs.FormWaits.{queued_at, awaits, partner, partner_of, times_in}
use Rattle.places.specs.declared.place.Place.{Place}
use Rattle.grown.proofs.Orderly.{view_on, Picks}
use Rattle.grown.proofs.Places.{waiting_there, stands_queued, stands_waiting}
use Rattle.grown.proofs.ZeroKept.{inside}
use Rattle.grown.proofs.ZeroMemory.{packet_here}
use Rattle.handover.specs.Meetings.{Past, word_at, packet_of}
use Rattle.handover.specs.Statement.{queue_at, Waits, OnSide}
use Rattle.handover.proofs.Inv.{Limited, Chosen, Waiter, AtPlace, Inv}
use Rattle.handover.proofs.Sides.{Awaits, at_wait, at_ready, awaiting}

module _ (M : Moment Past) (I : Inv M) where
  -- Whom a call names is picked, and its mark not set.
  pub named : (u : ℕ) (σ : Side) (v : Thread) → partner_of (place_of M.now u) ≡ Some (partner σ v) →
      Picks (view_on M.now.zero M.now.threads) u σ v
  named = I.kept.orderly.picks

  -- So its packet takes what is given to it.
  pub given : (u : ℕ) (σ : Side) (v : Thread) → partner_of (place_of M.now u) ≡ Some (partner σ v) → (k : Packet) →
      packet_at (with_packet M.now.zero v k) v ≡ k
  given u σ v e k =
      packet_here M.now.zero v k
      (rw I.kept.sound.packets (inside M.now I.kept v.0 (λ i. cc (named u σ v e).waits)))

  module _ (u : ℕ) (σ : Side) where
    pub waiter : (d : Tick) → Waits M.now u σ d → Waiter M u σ
    waiter d W = rw W.word at (rw W.place at (I.self u)).1

    -- A waiter stands in its side's queue,
    pub queued : (d : Tick) → Waits M.now u σ d → times_in u (queue_at M.now σ) ≡ 1
    queued d W = I.kept.orderly.stands u σ ∙ rw (W.place, W.word) (stands_waiting σ d)

    -- and whoever stands there with its word Waiting is a waiter.
    pub waits_there : 0 < times_in u (queue_at M.now σ) → word_at M.now u ≡ word.Waiting → (d : Tick) × Waits M.now u σ d
    waits_there l w =
        go
        (awaiting σ (place_of M.now u)
        (waiting_there σ (place_of M.now u) (word_at M.now u) (packet_of M.now u) stands w (I.kept.orderly.uses u)
        ).awaited)
      where
        stands : queued_at σ (place_of M.now u) ≡ true
        stands = stands_queued σ (place_of M.now u) (word_at M.now u) (rw (← I.kept.orderly.stands u σ) l)

        go : Awaits σ (place_of M.now u) → (d : Tick) × Waits M.now u σ d
        go (at_wait d e) = (d, record { place = e; word = w })
        go (at_ready e) = cc stands

-- A call knows its side by its code.
pub on_side_lem : (M : Moment Past) (t : ℕ) (σ : Side) (l : Limit) → Limited M t σ l → OnSide M t σ
on_side_lem M t σ Try h = inl h
on_side_lem M t σ (Until d) h = inr h.0

-- From M to N, v's call has the code and the deadline that it had.
abbrev pub SameCall : Moment Past → Moment Past → ℕ → Type 0
SameCall M N v = (N.past.code v ≡ M.past.code v) × (N.past.deadline v ≡ M.past.deadline v)

-- From M to N, v is picked and at wait or ready-wait, whatever has become of its packet.
module _ (M N : Moment Past) (v : ℕ) (σ : Side) (u m : ℕ) (C : Chosen N v σ u m 0) (picked : word_at N.now v ≡ word.Picked)
    (same : SameCall M N v) where
  pub picked_at : (p : Place) → awaits σ p ≡ true → AtPlace M v p → AtPlace N v p
  picked_at p a h = go (awaiting σ p a)
    where
      go : Awaits σ p → AtPlace N v p
      go (at_wait d e) =
          let (c, b) : Limited M v σ (Until d) = (rw e at h).0 in
          rw e ((same.0 ∙ c, b ∙ sym same.1), rw picked (u, m, C))
      go (at_ready e) =
          rw e (
            u,
            m,
            same.0 ∙ (rw e at h).2,
            record { pair = C.pair; own = C.own; since = λ r. omega (arith, C.since r); message = C.message },
          )
