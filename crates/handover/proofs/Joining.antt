-- A first step that finds nobody: it ends its call, or registers it.
use Prim.Native.Nat.{ℕ, ◌<◌}
use mathlib.Core.Path.{◌≡◌, refl, sym, ap, ◌∙◌}
use mathlib.Core.Bool.{Bool, true, false}
use mathlib.Core.List.{List, [], ◌∷◌, ◌++◌}
use native.Mathlib.Omega.{arith}
use lib.ListN.{length}
use Rattle.std.specs.Prelude.{◌&&◌}
use Rattle.waker.specs.Waker.{oldest, queue_of}
use Rattle.waker.specs.Wakers.{other_side}
use Rattle.waker.specs.declared.context.Thread.{Thread}
use Rattle.waker.specs.declared.context.Selected.TheVariants as word
use Rattle.std.specs.Prelude.{None}
use Rattle.waker.specs.declared.wakers.Side.{Side}
use Rattle.waker.specs.declared.wakers.Wakers.{Wakers}
use Rattle.waker.proofs.WakerLaws.{entries_queue_of}
use Rattle.channel.specs.Outcome.{writes}
use Rattle.zero.specs.ZeroSteps.{side_of, message_of, nobody_for, alone_step, first_step}
use Rattle.zero.specs.Zero.{packet}
use Rattle.channel.specs.declared.answer.Tick.{Tick}
use Rattle.channel.specs.declared.answer.Answer.TheVariants.{Disconnected}
use Rattle.zero.specs.declared.Packet.{Packet}
use Rattle.zero.specs.declared.call.Offer.{Offer}
use Rattle.zero.specs.declared.call.Offer.TheVariants.{Send, Receive}
use Rattle.zero.specs.declared.call.Limit.{Limit}
use Rattle.zero.specs.declared.call.Limit.TheVariants.{Try, Until}
use Rattle.zero.specs.declared.call.ZeroCall.TheVariants.{First, Wait}
use Rattle.zero.specs.declared.outcome.ZeroEffect.TheVariants as effect
use Rattle.channel.specs.declared.outcome.Next.TheVariants.{Goes, Ends}
use Rattle.zero.specs.ZeroOutcome.{ZeroOutcome}
use Rattle.schedule.specs.Record.{place_of}
use Rattle.schedule.specs.History.{Moment}
use Rattle.forms.specs.FormWaits.{same_side, times_in}
use Rattle.places.specs.declared.place.Place.TheVariants.{Zero}
use Rattle.grown.proofs.Scene.{Scene, my_word, my_packet, absent}
use Rattle.grown.proofs.ZeroMemory.{same_words, list_here}
use Rattle.handover.specs.Meetings.{Past, opposed_after, packet_of}
use Rattle.handover.specs.Statement.{queue_at, ahead_of, Registered, Tells}
use Rattle.handover.proofs.Inv.{Holding, AtCall, Inv}
use Rattle.grown.proofs.Updates.{updated_here}
use Rattle.handover.proofs.Queues.{ahead_joined, oldest_none}
use Rattle.handover.proofs.Sides.{one_side}
use Rattle.handover.proofs.Moments.{step_to, either, stage, stands_at}
use Rattle.handover.proofs.Waiters.{queued, on_side_lem}
use Rattle.handover.proofs.Keeping.{After, Flat, unnamed, alone, quiet}

-- What a waiter's new packet holds.
offered : (N : Moment Past) (u : ℕ) (o : Offer) → (packet_of N.now u).message ≡ message_of o → message_of o ≡ N.past.carried u →
    Holding N u (side_of o)
offered N u (Send m) e c = e ∙ c
offered N u Receive e c = sym c

-- A call that joins its side's queue registers there.
module _ (M : Moment Past) (I : Inv M) (t : Thread) (there : t.0 < M.now.count) (o : Offer) (d : Tick) where
  abbrev joining : ZeroOutcome
  joining = writes (effect.Join o) (Goes (Wait (side_of o) d))

  abbrev pub joined : Moment Past
  joined = step_to M t (First o (Until d)) joining

  pub at_wait : place_of joined.now t.0 ≡ Zero (Wait (side_of o) d)
  at_wait = stands_at M I.kept t there (First o (Until d)) joining

  pub registered : Registered M joined t (side_of o) d
  registered =
      record {
        waits =
            record {
              place = at_wait;
              word = my_word _ _ t (stage M I.kept t there) _ word.Waiting (same_words w σ (queue_of q));
            };
        last = list_here w σ (queue_of q) w.contexts ∙ entries_queue_of q;
        entries = updated_here M.past.entries t.0 _;
        unopposed = updated_here (opposed_after M.now M.past t.0 (First o (Until d))) t.0 0;
      }
    where
      σ : Side
      σ = side_of o

      w : Wakers
      w = M.now.zero.wakers

      q : List Thread
      q = queue_at M.now (side_of o) ++ (t ∷ [])

module _ (M : Moment Past) (I : Inv M) (t : Thread) (there : t.0 < M.now.count) (o : Offer)
    (f : oldest t M.now.zero.wakers.contexts (queue_at M.now (other_side (side_of o))) ≡ None) where
  -- No waiter of the other side counts the step: it would have been found.
  flat : (l : Limit) (at : place_of M.now t.0 ≡ Zero (First o l)) → Flat M I t there (First o l) at
  flat l at u σ d n W = go (same_side (other_side (side_of o)) σ) refl
    where
      go : (b : Bool) → same_side (other_side (side_of o)) σ ≡ b → (b && true) ≡ false
      go true s =
          let q : 0 < times_in u (queue_at M.now (other_side (side_of o))) =
          rw (one_side (other_side (side_of o)) σ s) (omega (arith, queued M I u σ d W)) in
          absurd (oldest_none t M.now.zero.wakers.contexts u n W.word (queue_at M.now (other_side (side_of o))) f q)
      go false s = refl

  mine : (l : Limit) → place_of M.now t.0 ≡ Zero (First o l) → AtCall M t.0 (First o l)
  mine l at = rw at at (I.self t.0)

  tells_nobody : (o : Offer) → AtCall M t.0 (First o Try) → Tells M t.0 (nobody_for o)
  tells_nobody (Send m) (h, e, c) = (c, h, e)
  tells_nobody Receive (h, e, c) = (c, h)

  module _ (d : Tick) (at : place_of M.now t.0 ≡ Zero (First o (Until d))) where
    abbrev N : Moment Past
    N = joined M I t there o d

    R : Registered M N t (side_of o) d
    R = registered M I t there o d

    H : Scene M.now.zero M.now.threads t
    H = stage M I.kept t there

    -- All entries are ahead of it.
    ahead : ahead_of t.0 (queue_at N.now (side_of o)) ≡ length (queue_at M.now (side_of o))
    ahead = ap (ahead_of t.0) R.last ∙ ahead_joined t _ (absent _ _ t H (side_of o) (rw at))

    joins : After M I t there (First o (Until d)) at (joining M I t there o d)
    joins =
        alone M I t there (First o (Until d)) at (joining M I t there o d) (λ u. tt) (flat (Until d) at)
        (unnamed M I t there (First o (Until d)) at (joining M I t there o d) (λ τ. refl)) (
          (mine (Until d) at).2,
          rw R.waits.word
              (record {
                unpaired = (mine (Until d) at).0;
                holding =
                    offered N t.0 o (ap (λ (p : Packet). p.message) (my_packet _ _ t H (packet (message_of o) false)))
                    (mine (Until d) at).1;
                bound = omega (arith, ahead, R.unopposed, R.entries);
              }),
        )

  alone_step_lem : (l : Limit) (at : place_of M.now t.0 ≡ Zero (First o l)) → After M I t there (First o l) at (alone_step o l)
  alone_step_lem Try at =
      quiet M I t there (First o Try) at (Ends (nobody_for o)) (flat Try at) (tells_nobody o (mine Try at))
  alone_step_lem (Until d) at = joins d at

  -- Nobody found: it ends Disconnected if flagged, Full or Empty if it may not wait, and else joins its side's queue.
  pub nobody_step : (l : Limit) (at : place_of M.now t.0 ≡ Zero (First o l)) →
      After M I t there (First o l) at (first_step o l None M.now.zero.disconnected)
  nobody_step l at =
      either (After M I t there (First o l) at) M.now.zero.disconnected
      (λ b.
      quiet M I t there (First o l) at (Ends (Disconnected (message_of o))) (flat l at)
      ((side_of o, on_side_lem M t.0 (side_of o) l (mine l at).2), (mine l at).0, (mine l at).1, b))
      (λ b. alone_step_lem l at)
