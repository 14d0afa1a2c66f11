-- A fresh array has what histories keep.
use Prim.Native.Nat.{ℕ, ◌<◌, ◌≤◌}
use mathlib.Core.Path.{refl, sym, ap, subst, ◌∙◌}
use mathlib.Core.Logic.{inl}
use native.Mathlib.Omega.{arith}
use native.Mathlib.Nat.{mod-eq_of_lt}
use lib.ListN.{length-append, length-replicate}
use Rattle.waker.specs.Context.{threads}
use Rattle.channel.specs.Position.{slots, shape_of}
use Rattle.channel.specs.PositionBounds.{Fits}
use Rattle.array.specs.Array.{fresh_array}
use Rattle.channel.specs.declared.position.Position.{Position}
use Rattle.channel.specs.declared.position.Shape.{Shape}
use Rattle.channel.proofs.PositionLaws.{sized}
use Rattle.bounds.specs.declared.flavour.Flavour.TheVariants.{Array}
use Rattle.bounds.proofs.LimitLaws.{capacity_some, capacity_most}
use Rattle.schedule.specs.Record.{thread_at}
use Rattle.schedule.specs.Making.{fresh_array_record}
use Rattle.places.specs.declared.place.Place.TheVariants.{Idle}
use Rattle.schedule.specs.declared.record.Record.{Record}
use Rattle.grown.proofs.Lists.{all_one}
use Rattle.grown.proofs.Makes.{Made}
use Rattle.grown.proofs.ArrayKept.{KeptArray}
use Rattle.array.proofs.ArrayLaws.{stamps_length}
use Rattle.grown.proofs.ArrayGrown.{fresh_stamps, kept_fresh}
use Rattle.claims.specs.Claims.{nothing}
use Rattle.claims.proofs.Words.{word_low}
use Rattle.claims.proofs.Tails.{plain}
use Rattle.claims.proofs.Core.{open_for, Core}
use Rattle.claims.proofs.Owners.{Owners, no_claim}
use Rattle.claims.proofs.Inv.{Inv}

-- A fresh array: slot i is open for send claim i.
fresh_core : (k : ℕ) → 0 < k → k ≤ slots → Core (shape_of k) (fresh_array k) nothing.claims
fresh_core k some most =
    record {
      tail = plain (sym (word_low S F 0 some));
      head = sym (word_low S F 0 some);
      low = omega arith;
      high = omega arith;
      stamps = simp (length-append, length-replicate) (omega (arith, stamps_length 0 k));
      messages = omega (arith, length-replicate {A = ℕ} slots 0);
      slot = λ i l.
          open_for i (mod-eq_of_lt l)
          (ap (λ (w : Position). w.0) (fresh_stamps k i l) ∙ omega (arith, word_low S F i l))
          (omega arith) (omega arith);
      order = λ n. inl refl;
      untaken = λ n l. refl;
    }
  where
    S : Shape
    S = shape_of k

    F : Fits S
    F = (sized k some most).shaped

-- No call has made a claim.
fresh_owners : Owners nothing.claims nothing.calls
fresh_owners =
    record {
      counted = λ σ t n e. absurd (no_claim (nothing.calls t) (refl, refl) σ n e);
      apart = λ σ t u n e f. absurd (no_claim (nothing.calls t) (refl, refl) σ n e);
    }

pub fresh : (capacity n : ℕ) (r : Record) → Made Array capacity n (fresh_array_record capacity n) r → Inv capacity (record { now = r; past = nothing })
fresh capacity n r m =
    subst (λ (x : Record). KeptArray x → Inv capacity (record { now = x; past = nothing })) m.same
    (λ kept.
    record {
      kept = kept;
      sized = refl;
      core = fresh_core capacity (capacity_some capacity m.fits.capacity) (capacity_most capacity m.fits.capacity);
      owners = fresh_owners;
      stands = λ t. rw (all_one threads t (thread_at Idle)) tt;
    })
    (kept_fresh capacity n r m)
