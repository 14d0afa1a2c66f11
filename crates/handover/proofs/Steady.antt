-- What holds of a thread at its place still holds once a call has left it, and whom it names, alone.
use Prim.Native.Nat.{ℕ, ◌+◌, ◌≤◌}
use mathlib.Core.Path.{◌≡◌, refl, sym, ap, ◌∙◌}
use native.Mathlib.Omega.{arith}
use Rattle.std.specs.Prelude.{Some}
use Rattle.waker.specs.declared.context.Thread.{Thread}
use Rattle.waker.specs.declared.context.Selected.{Selected}
use Rattle.waker.specs.declared.context.Selected.TheVariants as word
use Rattle.waker.specs.declared.wakers.Side.{Side}
use Rattle.waker.specs.declared.wakers.Side.TheVariants.{Sender, Receiver}
use Rattle.zero.specs.ZeroSteps.{side_of}
use Rattle.channel.specs.declared.answer.Tick.{Tick}
use Rattle.channel.specs.declared.answer.Answer.{Answer}
use Rattle.channel.specs.declared.answer.Answer.TheVariants as answer
use Rattle.zero.specs.declared.Packet.{Packet}
use Rattle.zero.specs.declared.call.Limit.{Limit}
use Rattle.zero.specs.declared.call.Limit.TheVariants.{Try, Until}
use Rattle.zero.specs.declared.call.ZeroCall.TheVariants.{First, Put, PutReady, Take, TakeReady, Wait, ReadyWait, Leave, Ask}
use Rattle.schedule.specs.Record.{place_of}
use Rattle.schedule.specs.History.{Act, Moment}
use Rattle.forms.specs.FormWaits.{partner, partner_of}
use Rattle.places.specs.declared.place.Place.{Place}
use Rattle.places.specs.declared.place.Place.TheVariants.{Zero, Done}
use Rattle.handover.specs.Meetings.{Past, sender_of, word_at, packet_of}
use Rattle.handover.specs.Statement.{queue_at, ahead_of, Waits, Tells}
use Rattle.handover.proofs.Inv.{Holding, Limited, Joint, Chosen, Waiter, CutOff, TimedOut, AtWait, AtLeave, AtPlace}
use Rattle.handover.proofs.Touch.{Cut, Word, keeps, cuts, Same}

module _ (M N : Moment Past) (a : Act) where
  -- What a named thread keeps.
  pub record Mate (v : ℕ) : Type 0 where
    pub packet : packet_of N.now v ≡ packet_of M.now v
    pub carried : N.past.carried v ≡ M.past.carried v
    pub pairs : N.past.pairs v ≡ M.past.pairs v

  pub same_mate : {v : ℕ} → Same M N a v → Mate v
  same_mate K = record { packet = K.packet; carried = K.carried; pairs = K.pairs }

  -- The opposite calls and the entries ahead of a waiter have together not become more.
  abbrev pub Load : ℕ → Type 0
  Load u = (σ : Side) (d : Tick) → Waits M.now u σ d →
      N.past.opposed u + ahead_of u (queue_at N.now σ) ≤ M.past.opposed u + ahead_of u (queue_at M.now σ)

  module _ (u : ℕ) (K : Same M N a u) where
    holding : (σ : Side) → Holding M u σ → Holding N u σ
    holding Sender h = ap (λ (k : Packet). k.message) K.packet ∙ h ∙ sym K.carried
    holding Receiver h = K.carried ∙ h

    chosen : (σ : Side) (x m n : ℕ) → Chosen M u σ x m n → Chosen N u σ x m n
    chosen σ x m n C =
        record {
          pair = K.pairs ∙ C.pair;
          own = λ s. C.own s ∙ sym K.carried;
          since = λ r. rw K.since (C.since (rw K.packet at r));
          message = λ r s. rw K.packet (C.message (rw K.packet at r) s);
        }

    cut : (σ : Side) → CutOff M u σ → CutOff N u σ
    cut σ C = record { unpaired = K.pairs ∙ C.unpaired; holding = holding σ C.holding; flag = K.flag C.flag }

    later : M.past.deadline u ≤ M.now.clock.0 → N.past.deadline u ≤ N.now.clock.0
    later h = omega (arith, K.deadline, K.clock)

    timed : (σ : Side) → TimedOut M u σ → TimedOut N u σ
    timed σ C = record { unpaired = K.pairs ∙ C.unpaired; holding = holding σ C.holding; late = later C.late }

    limited : (σ : Side) (l : Limit) → Limited M u σ l → Limited N u σ l
    limited σ Try h = K.code ∙ h
    limited σ (Until d) h = (K.code ∙ h.0, h.1 ∙ sym K.deadline)

    -- At wait.
    module _ (σ : Side) (less : word_at M.now u ≡ word.Waiting →
        N.past.opposed u + ahead_of u (queue_at N.now σ) ≤ M.past.opposed u + ahead_of u (queue_at M.now σ)) where
      waits_on_still : (w : Selected) → word_at M.now u ≡ w → AtWait M u σ w → AtWait N u σ w
      waits_on_still word.Waiting e W =
          record {
            unpaired = K.pairs ∙ W.unpaired;
            holding = holding σ W.holding;
            bound = omega (arith, less e, W.bound, K.entries);
          }
      waits_on_still word.Picked e (x, m, C) = (x, m, chosen σ x m 0 C)
      waits_on_still word.Aborted e W = W
      waits_on_still word.Disconnected e W = cut σ W

      waits : AtWait M u σ (word_at M.now u) → AtWait N u σ (word_at N.now u)
      waits W = go K.word
        where
          go : Word (Cut M a N.now.zero.disconnected) (word_at M.now u) (word_at N.now u) → AtWait N u σ (word_at N.now u)
          go (keeps e) = rw e (waits_on_still _ refl W)
          go (cuts e f g) =
              let H : Waiter M u σ = rw e at W in
              rw f (record { unpaired = K.pairs ∙ H.unpaired; holding = holding σ H.holding; flag = g.flag })

    -- At leave.
    leaves_on : (σ : Side) (w : Selected) → AtLeave M u σ w → AtLeave N u σ w
    leaves_on σ word.Aborted L = timed σ L
    leaves_on σ word.Disconnected L = cut σ L
    leaves_on σ _ L = L

    leaves : (σ : Side) → AtLeave M u σ (word_at M.now u) → AtLeave N u σ (word_at N.now u)
    leaves σ L = go K.word
      where
        go : Word (Cut M a N.now.zero.disconnected) (word_at M.now u) (word_at N.now u) → AtLeave N u σ (word_at N.now u)
        go (keeps e) = rw e (leaves_on σ (word_at M.now u) L)
        go (cuts e f g) = absurd (rw e at L)

    tells : (a : Answer) → Tells M u a → Tells N u a
    tells answer.Sent h = rw (K.code, K.pairs, K.carried) h
    tells (answer.Full m) h = rw (K.code, K.pairs, K.carried) h
    tells (answer.Disconnected m) h = rw (K.code, K.pairs, K.carried) (h.0, h.1, h.2, K.flag h.3)
    tells (answer.Timeout m) h = (rw K.code h.0, K.pairs ∙ h.1, h.2 ∙ sym K.carried, later h.3)
    tells _ h = rw (K.code, K.pairs) h

    sender_same : (σ : Side) (v : ℕ) → Mate v → N.past.carried (sender_of σ u v) ≡ M.past.carried (sender_of σ u v)
    sender_same Sender v Q = Q.carried
    sender_same Receiver v Q = K.carried

    joint : (σ : Side) (v : Thread) (m n : ℕ) → Mate v.0 → Joint M u σ v m n → Joint N u σ v m n
    joint σ v m n Q J =
        record {
          code = rw K.code J.code;
          mine = K.pairs ∙ J.mine;
          theirs = Q.pairs ∙ J.theirs;
          sent = J.sent ∙ sym (sender_same σ v.0 Q);
          since = K.since ∙ J.since;
        }

    joint_message : (σ : Side) (v : Thread) (n : ℕ) → Mate v.0 → Joint M u σ v (packet_of M.now v.0).message n →
        Joint N u σ v (packet_of N.now v.0).message n
    joint_message σ v n Q J = rw Q.packet (joint σ v _ n Q J)

    on : Load u → (p : Place) → place_of M.now u ≡ p → ((σ : Side) (v : Thread) → partner_of p ≡ Some (partner σ v) → Mate v.0) →
        AtPlace M u p → AtPlace N u p
    on L (Zero (First o l)) e mate h = (K.pairs ∙ h.0, h.1 ∙ sym K.carried, limited (side_of o) l h.2)
    on L (Zero (Put v m)) e mate h = joint Receiver v m 0 (mate Receiver v refl) h
    on L (Zero (PutReady v)) e mate h = joint_message Receiver v 1 (mate Receiver v refl) h
    on L (Zero (Take v)) e mate h = joint_message Sender v 0 (mate Sender v refl) h
    on L (Zero (TakeReady v m)) e mate h = joint Sender v m 1 (mate Sender v refl) h
    on L (Zero (Wait σ d)) e mate h = (limited σ (Until d) h.0, waits σ (λ w. L σ d (record { place = e; word = w })) h.1)
    on L (Zero (ReadyWait σ)) e mate (x, m, c, C) = (x, m, K.code ∙ c, chosen σ x m 1 C)
    on L (Zero (Leave σ)) e mate h = (K.code ∙ h.0, leaves σ h.1)
    on L (Zero (Ask q)) e mate h = (K.code ∙ h.0, K.pairs ∙ h.1)
    on L (Done a) e mate h = tells a h
    on L _ e mate h = h

    pub steady : Load u → ((σ : Side) (v : Thread) → partner_of (place_of M.now u) ≡ Some (partner σ v) → Mate v.0) →
        AtPlace M u (place_of M.now u) → AtPlace N u (place_of N.now u)
    steady L mate h = rw K.place (on L (place_of M.now u) refl mate h)
