-- Sides, and the places that await on one.
use mathlib.Core.Path.{◌≡◌, refl, sym, ap}
use mathlib.Core.Bool.{true}
use Rattle.waker.specs.Wakers.{other_side}
use Rattle.waker.specs.declared.wakers.Side.{Side}
use Rattle.waker.specs.declared.wakers.Side.TheVariants.{Sender, Receiver}
use Rattle.channel.specs.declared.answer.Tick.{Tick}
use Rattle.zero.specs.declared.call.ZeroCall.TheVariants.{Wait, ReadyWait}
use Rattle.forms.specs.FormWaits.{same_side, awaits}
use Rattle.places.specs.declared.place.Place.{Place}
use Rattle.places.specs.declared.place.Place.TheVariants.{Zero}

pub twice : (σ : Side) → other_side (other_side σ) ≡ σ
twice Sender = refl
twice Receiver = refl

pub own_side : (σ : Side) → same_side σ σ ≡ true
own_side Sender = refl
own_side Receiver = refl

pub one_side : (σ τ : Side) → same_side σ τ ≡ true → σ ≡ τ
one_side Sender Sender e = refl
one_side Sender Receiver e = cc
one_side Receiver Sender e = cc
one_side Receiver Receiver e = refl

-- Whoever awaits is at wait or at ready-wait.
pub data Awaits (σ : Side) (p : Place) : Type 0 where
  at_wait : (d : Tick) → p ≡ Zero (Wait σ d) → Awaits σ p
  at_ready : p ≡ Zero (ReadyWait σ) → Awaits σ p

pub awaiting : (σ : Side) (p : Place) → awaits σ p ≡ true → Awaits σ p
awaiting σ (Zero (Wait own d)) e = at_wait d (ap (λ (τ : Side). Zero (Wait τ d)) (sym (one_side σ own e)))
awaiting σ (Zero (ReadyWait own)) e = at_ready (ap (λ (τ : Side). Zero (ReadyWait τ)) (sym (one_side σ own e)))
awaiting σ _ e = cc

-- A call awaits on one side.
pub awaits_once : (σ τ : Side) (p : Place) → awaits σ p ≡ true → awaits τ p ≡ true → σ ≡ τ
awaits_once σ τ p a b = go (awaiting σ p a)
  where
    go : Awaits σ p → σ ≡ τ
    go (at_wait d e) = sym (one_side τ σ (rw e at b))
    go (at_ready e) = sym (one_side τ σ (rw e at b))
