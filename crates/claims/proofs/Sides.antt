-- The two sides of an array: each one's claims, and how a slot is stamped while it is a claim's.
use Prim.Native.Nat.{ℕ, ◌+◌}
use mathlib.Core.Path.{◌≡◌, refl, sym}
use mathlib.Core.List.{List}
use native.Mathlib.Omega.{arith}
use lib.ListN.{get_or}
use Rattle.channel.specs.Position.{at}
use Rattle.channel.specs.PositionBounds.{Fits}
use Rattle.channel.specs.declared.position.Shape.{Shape}
use Rattle.array.specs.declared.Array.{Array as Memory}
use Rattle.claims.specs.Claims.{Claims, Call}
use Rattle.claims.proofs.Words.{slot_for, word, word_inj, word_odd}

module _ (s : Memory) where
  abbrev pub stamp_in : ℕ → ℕ
  stamp_in i = (get_or s.stamps i (at 0)).0

  abbrev pub message_in : ℕ → ℕ
  message_in i = get_or s.messages i 0

pub data Side : Type 0 where
  sending receiving : Side

abbrev pub other : Side → Side
other sending = receiving
other receiving = sending

abbrev pub made : Side → Claims → ℕ
made sending c = c.sends
made receiving c = c.receives

abbrev pub claims_of : Side → Call → List ℕ
claims_of sending a = a.send_claims
claims_of receiving a = a.receive_claims

-- A sender finds its word as stamp, a receiver what the sender has left there.
abbrev pub past : Side → ℕ
past sending = 0
past receiving = 1

-- The slot of n is stamped as claim n of a side finds it, until that claim's last step.
abbrev pub ReadyFor : Shape → Memory → Side → ℕ → Type 0
ReadyFor S s σ n = stamp_in s (slot_for S n) ≡ word S n + past σ

-- A slot is ready for one claim of one side.
pub record OneClaim (σ τ : Side) (n m : ℕ) : Type 0 where
  pub side : σ ≡ τ
  pub number : n ≡ m

module _ (S : Shape) (F : Fits S) where
  pub one_claim : (σ τ : Side) (n m x : ℕ) → slot_for S n ≡ slot_for S m → x ≡ word S n + past σ → x ≡ word S m + past τ →
      OneClaim σ τ n m
  one_claim sending sending n m x e a b = record { side = refl; number = word_inj S F n m (omega arith) }
  one_claim receiving receiving n m x e a b = record { side = refl; number = word_inj S F n m (omega arith) }
  one_claim receiving sending n m x e a b = absurd (word_odd S F n m e (omega arith))
  one_claim sending receiving n m x e a b = absurd (word_odd S F m n (sym e) (omega arith))
