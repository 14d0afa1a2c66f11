-- Whose claims are whose.
use Prim.Native.Nat.{ℕ, ◌+◌, ◌<◌, ◌≤◌}
use mathlib.Core.Path.{◌≡◌, refl, sym, ap, ◌∙◌}
use mathlib.Core.Logic.{◌⊎◌, inl, inr, ◌≢◌}
use mathlib.Core.List.{List, [], ◌∷◌}
use native.Mathlib.Omega.{arith}
use native.Mathlib.Decide.{ℕ_discrete}
use Rattle.schedule.specs.History.{updated}
use Rattle.places.specs.declared.place.Place.{Place}
use Rattle.places.specs.declared.place.Place.TheVariants.{Array, Zero}
use Rattle.claims.specs.Claims.{Claims, Call, with_moment}
use Rattle.claims.specs.Statement.{Unclaimed}
use Rattle.grown.proofs.Updates.{updated_here, updated_else}
use Rattle.claims.proofs.Sides.{Side, sending, receiving, other, made, claims_of}

-- A call's one claim has been counted, and is no other thread's.
pub record Owners (c : Claims) (calls : ℕ → Call) : Type 0 where
  pub counted : (σ : Side) (t n : ℕ) → claims_of σ (calls t) ≡ n ∷ [] → n < made σ c
  pub apart : (σ : Side) (t u n : ℕ) → claims_of σ (calls t) ≡ n ∷ [] → claims_of σ (calls u) ≡ n ∷ [] → t ≡ u

-- A side makes no claim, or one while the other makes none.
abbrev pub AtMostOne : Claims → Claims → Side → Type 0
AtMostOne c c' σ = (made σ c' ≡ made σ c) ⊎ ((made σ c' ≡ made σ c + 1) × (made (other σ) c' ≡ made (other σ) c))

pub up : (c c' : Claims) (σ : Side) → AtMostOne c c' σ → made σ c ≤ made σ c'
up c c' σ (inl e) = omega arith
up c c' σ (inr e) = omega arith

-- Claim n is the one that the call had, or the next.
abbrev pub HadOrNext : Claims → Claims → Call → Side → ℕ → Type 0
HadOrNext c c' a σ n = (claims_of σ a ≡ n ∷ []) ⊎ ((n ≡ made σ c) × (n < made σ c'))

-- What an act adds to the claims, and to those of its call.
pub record Adds (c c' : Claims) (a a' : Call) : Type 0 where
  pub one : (σ : Side) → AtMostOne c c' σ
  pub mine : (σ : Side) (n : ℕ) → claims_of σ a' ≡ n ∷ [] → HadOrNext c c' a σ n

-- The claims, with another account of what was taken.
abbrev pub with_took : Claims → (ℕ → List ℕ) → Claims
with_took c f = record { sends = c.sends; receives = c.receives; message = c.message; took = f }

pub adds_none : (c : Claims) (f : ℕ → List ℕ) (a : Call) → Adds c (with_took c f) a a
adds_none c f a = record { one = λ σ. inl (same σ); mine = λ σ n e. inl e }
  where
    same : (σ : Side) → made σ (with_took c f) ≡ made σ c
    same sending = refl
    same receiving = refl

-- A call that has made no claim, as one that begins.
pub no_claim : (a : Call) → Unclaimed a → (σ : Side) (n : ℕ) → claims_of σ a ≡ n ∷ [] → ⊥
no_claim a u sending n e = cc
no_claim a u receiving n e = cc

pub adds_begun : (c : Claims) (a a' : Call) → Unclaimed a' → Adds c c a a'
adds_begun c a a' u = record { one = λ σ. inl refl; mine = λ σ n e. absurd (no_claim a' u σ n e) }

-- A moment more is no claim more.
pub same_claims : (p : Place) (n : ℕ) (a : Call) (σ : Side) → claims_of σ (with_moment p n a) ≡ claims_of σ a
same_claims (Array k) n a sending = refl
same_claims (Array k) n a receiving = refl
same_claims (Zero k) n a sending = refl
same_claims (Zero k) n a receiving = refl
same_claims _ n a σ = refl

-- Thread t's call becomes a', and each call's claim stays its own.
module _ (c c' : Claims) (calls : ℕ → Call) (t : ℕ) (a' : Call) (O : Owners c calls) (A : Adds c c' (calls t) a')
    (calls' : ℕ → Call) (same : (σ : Side) (u : ℕ) → claims_of σ (calls' u) ≡ claims_of σ (updated calls t a' u)) where
  -- The claim of t's call, and of another.
  own : (σ : Side) (n : ℕ) → claims_of σ (calls' t) ≡ n ∷ [] → HadOrNext c c' (calls t) σ n
  own σ n e = A.mine σ n (sym (same σ t ∙ ap (claims_of σ) (updated_here calls t a')) ∙ e)

  old : (σ : Side) (u n : ℕ) → u ≢ t → claims_of σ (calls' u) ≡ n ∷ [] → claims_of σ (calls u) ≡ n ∷ []
  old σ u n z e = sym (same σ u ∙ ap (claims_of σ) (updated_else calls t a' u z)) ∙ e

  counted : (σ : Side) (u n : ℕ) → Dec (u ≡ t) → claims_of σ (calls' u) ≡ n ∷ [] → n < made σ c'
  counted σ u n (no z) e = omega (arith, O.counted σ u n (old σ u n z e), up c c' σ (A.one σ))
  counted σ u n (yes z) e = go (own σ n (rw z at e))
    where
      go : HadOrNext c c' (calls t) σ n → n < made σ c'
      go (inl q) = omega (arith, O.counted σ t n q, up c c' σ (A.one σ))
      go (inr q) = q.1

  other_than_t : (σ : Side) (u n : ℕ) → u ≢ t → claims_of σ (calls' t) ≡ n ∷ [] → claims_of σ (calls' u) ≡ n ∷ [] → t ≡ u
  other_than_t σ u n z e f = go (own σ n e)
    where
      go : HadOrNext c c' (calls t) σ n → t ≡ u
      go (inl q) = O.apart σ t u n q (old σ u n z f)
      go (inr q) = absurd (omega (arith, O.counted σ u n (old σ u n z f)))

  apart : (σ : Side) (u v n : ℕ) → Dec (u ≡ t) → Dec (v ≡ t) → claims_of σ (calls' u) ≡ n ∷ [] →
      claims_of σ (calls' v) ≡ n ∷ [] → u ≡ v
  apart σ u v n (yes y) (yes z) e f = y ∙ sym z
  apart σ u v n (yes y) (no z) e f = y ∙ other_than_t σ v n z (rw y at e) f
  apart σ u v n (no y) (yes z) e f = sym (z ∙ other_than_t σ u n y (rw z at f) e)
  apart σ u v n (no y) (no z) e f = O.apart σ u v n (old σ u n y e) (old σ v n z f)

  pub owners_after : Owners c' calls'
  owners_after =
      record {
        counted = λ σ u n. counted σ u n (ℕ_discrete u t);
        apart = λ σ u v n. apart σ u v n (ℕ_discrete u t) (ℕ_discrete v t);
      }
