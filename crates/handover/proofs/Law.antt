-- The law at every moment that a history keeps.
use mathlib.Core.Path.{◌≡◌, refl}
use mathlib.Core.Logic.{◌⊎◌, inl, inr}
use Rattle.std.specs.Prelude.{Some}
use Rattle.waker.specs.declared.context.Thread.{Thread}
use Rattle.waker.specs.declared.wakers.Side.{Side}
use Rattle.waker.specs.declared.wakers.Side.TheVariants.{Sender}
use Rattle.zero.specs.Zero.{packet_for}
use Rattle.zero.specs.declared.call.ZeroCall.{ZeroCall}
use Rattle.zero.specs.declared.call.ZeroCall.TheVariants.{Take}
use Rattle.forms.specs.FormWaits.{zero_partner, partner}
use Rattle.schedule.specs.History.{Moment}
use Rattle.handover.specs.Meetings.{Past}
use Rattle.handover.specs.Statement.{Holds}
use Rattle.handover.proofs.Inv.{Inv}
use Rattle.handover.proofs.Waiters.{waiter}
use Rattle.handover.proofs.Order.{registers, picks}
use Rattle.handover.proofs.Meeting.{met, further, ends}
use Rattle.handover.proofs.Fate.{goes_on_here, alone}

loads : (u : Thread) (k : ZeroCall) → (packet_for u k ≡ u) ⊎ ((σ : Side) × (zero_partner k ≡ Some (partner σ (packet_for u k))))
loads u (Take v) = inr (Sender, refl)
loads u _ = inl refl

pub holds : (M : Moment Past) → Inv M → Holds M
holds M I =
    record {
      registers = λ t o l σ d. registers M I t o σ d l;
      picks = picks M I;
      fewer = λ t σ d W a. (goes_on_here M I t σ d W a).fewer;
      bound = λ t σ d W. (waiter M I t σ d W).bound;
      fate = λ t σ d W a. (goes_on_here M I t σ d W a).fate;
      met = met M I;
      further = further M I;
      ends = λ t σ a r. ends M I t σ r a;
      alone = alone M I;
      loads = λ u k e. loads u k;
      answers = λ t a e. rw e at (I.self t);
    }
