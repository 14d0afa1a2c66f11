-- The claim law, of what every history keeps.
use Prim.Native.Nat.{ℕ, ◌<◌}
use mathlib.Core.Path.{◌≡◌, sym, subst, ◌∙◌}
use mathlib.Core.Logic.{inl, inr}
use mathlib.Core.List.{List, [], ◌∷◌}
use Rattle.channel.specs.declared.answer.Answer.{Answer}
use Rattle.schedule.specs.Record.{place_of}
use Rattle.schedule.specs.History.{Moment}
use Rattle.places.specs.declared.place.Place.TheVariants.{Done}
use Rattle.grown.proofs.Acts.{throughout_past}
use Rattle.grown.proofs.Makes.{made_array_lem}
use Rattle.claims.specs.Claims.{Claims, Past, rule, nothing, moment_after}
use Rattle.claims.specs.Statement.{TrueOf, ClaimedFor, Holds, ClaimLaw}
use Rattle.claims.proofs.Core.{InOrder}
use Rattle.claims.proofs.Inv.{StandsAt, Inv}
use Rattle.claims.proofs.Moves.{moves}
use Rattle.claims.proofs.Fresh.{fresh}

-- What a claim has taken.
taken : (c : Claims) (n m : ℕ) (l : List ℕ) → InOrder c n → c.took n ≡ m ∷ l →
    (n < c.sends) × (m ≡ c.message n) × (l ≡ [])
taken c n m l (inl o) e = cc
taken c n m l (inr o) e = (o.0, cc, cc)

module _ (capacity : ℕ) (M : Moment Past) (I : Inv capacity M) where
  abbrev c : Claims
  c = M.past.claims

  in_order : (n m : ℕ) (l : List ℕ) → c.took n ≡ m ∷ l → (n < c.sends) × (m ≡ c.message n) × (l ≡ [])
  in_order n m l e = taken c n m l (I.core.order n) e

  claimed : (t : ℕ) (x : Answer) → place_of M.now t ≡ Done x → ClaimedFor c (M.past.calls t) x
  claimed t x e = let s : StandsAt M t (Done x) = rw e at (I.stands t) in s.1

  answers : (t : ℕ) (x : Answer) → place_of M.now t ≡ Done x →
      TrueOf capacity (M.past.calls t).counts (M.past.calls t).code x
  answers t x e =
      let s : StandsAt M t (Done x) = rw e at (I.stands t) in
      subst (λ (k : ℕ). TrueOf k (M.past.calls t).counts (M.past.calls t).code x) I.sized s.0

  says : Holds capacity M
  says =
      record {
        in_order = in_order;
        apart = λ distinct i j m e f.
            let x = in_order i m [] e in
            let y = in_order j m [] f in
            distinct i j x.0 y.0 (sym x.1 ∙ y.1);
        balance = (I.core.low, rw (← I.sized) I.core.high);
        claimed = claimed;
        answers = answers;
      }

pub claim_law : ClaimLaw
claim_law capacity n r e l =
    says capacity (moment_after r l)
    (throughout_past rule (Inv capacity) (moves capacity) (record { now = r; past = nothing })
    (fresh capacity n r (made_array_lem capacity n r e)) l)
