-- What a change by one thread leaves to another.
use Prim.Native.Nat.{ℕ, ◌<◌}
use mathlib.Core.Path.{◌≡◌, refl, sym, ap, ◌∙◌}
use mathlib.Core.Logic.{◌⊎◌, inl, inr, ◌≢◌}
use mathlib.Core.List.{List, [], ◌∷◌}
use native.Mathlib.Omega.{arith}
use Rattle.channel.specs.PositionBounds.{Fits}
use Rattle.array.specs.Array.{with_tail}
use Rattle.channel.specs.declared.position.Position.{Position}
use Rattle.channel.specs.declared.position.Shape.{Shape}
use Rattle.array.specs.declared.Array.{Array as Memory}
use Rattle.claims.specs.Claims.{Claims, Call}
use Rattle.claims.proofs.Words.{slot_for, word}
use Rattle.claims.proofs.Sides.{stamp_in, message_in, Side, made, claims_of, ReadyFor, OneClaim, one_claim}
use Rattle.claims.proofs.Owners.{Owners, with_took}

-- A slot is as it was.
abbrev pub Same : Memory → Memory → ℕ → Type 0
Same s s' i = (stamp_in s' i ≡ stamp_in s i) × (message_in s' i ≡ message_in s i)

-- A call a of a thread that makes no step.
pub record Rely (S : Shape) (s s' : Memory) (c c' : Claims) (a : Call) : Type 0 where
  -- The slot that a side comes to next is as ready as it was, while it has not claimed it.
  pub still : (σ : Side) (n : ℕ) → n ≡ made σ c → ReadyFor S s σ n → ReadyFor S s' σ n
  -- The slot of the call's own claim is left alone, and what this has taken.
  pub own : (σ : Side) (n : ℕ) → claims_of σ a ≡ n ∷ [] → ReadyFor S s σ n → Same s s' (slot_for S n)
  pub took : (n : ℕ) → a.receive_claims ≡ n ∷ [] → c'.took n ≡ c.took n
  pub message : (n : ℕ) → n < c.sends → c'.message n ≡ c.message n

-- The one claim of a call that has these claims of a side, not yet ended: its slot is the call's. Its word is w.
pub record Own (S : Shape) (s : Memory) (l : List ℕ) (σ : Side) (w : Position) : Type 0 where
  pub n : ℕ
  pub is : w.0 ≡ word S n
  pub made : l ≡ n ∷ []
  pub ready : ReadyFor S s σ n

-- A step that leaves slots and claims alone, whatever it does to the tail.
pub rely_same : (S : Shape) (s : Memory) (c : Claims) (w : Position) (a : Call) → Rely S s (with_tail s w) c c a
rely_same S s c w a =
    record {
      still = λ σ n e g. g;
      own = λ σ n e g. (refl, refl);
      took = λ n e. refl;
      message = λ n e. refl;
    }

-- A step of t that changes the slot of its own claim, and perhaps what this claim has taken.
module _ (S : Shape) (F : Fits S) (s s' : Memory) (c : Claims) (f : ℕ → List ℕ) (calls : ℕ → Call) (O : Owners c calls)
    (t : ℕ) {σ : Side} {w : Position} (a : Own S s (claims_of σ (calls t)) σ w)
    (frame : (j : ℕ) → j ≢ slot_for S a.n → Same s s' j)
    (u : ℕ) (apart : u ≢ t) where
  -- The slot that a side comes to next, or that is u's, is another.
  far : (τ : Side) (k : ℕ) → ReadyFor S s τ k → (k ≡ made τ c) ⊎ (claims_of τ (calls u) ≡ k ∷ []) →
      slot_for S k ≢ slot_for S a.n
  far τ k r h e = go (one_claim S F τ σ k a.n _ e r (ap (stamp_in s) e ∙ a.ready)) h
    where
      go : OneClaim τ σ k a.n → (k ≡ made τ c) ⊎ (claims_of τ (calls u) ≡ k ∷ []) → ⊥
      go o (inl q) =
          let z : a.n ≡ made σ c = sym o.number ∙ q ∙ ap (λ (x : Side). made x c) o.side in
          omega (arith, O.counted σ t a.n a.made)
      go o (inr q) = apart (O.apart σ u t a.n (rw (o.side, o.number) at q) a.made)

  pub rely_own : ((n : ℕ) → (calls u).receive_claims ≡ n ∷ [] → f n ≡ c.took n) → Rely S s s' c (with_took c f) (calls u)
  rely_own kept =
      record {
        still = λ τ n e g. (frame (slot_for S n) (far τ n g (inl e))).0 ∙ g;
        own = λ τ n h g. frame (slot_for S n) (far τ n g (inr h));
        took = kept;
        message = λ n e. refl;
      }
