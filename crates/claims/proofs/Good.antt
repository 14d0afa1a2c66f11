-- A good step: the array stays in order, other threads keep what they rely on, and the call knows what its next place asks.
use Prim.Native.Nat.{ℕ}
use mathlib.Core.Path.{◌≡◌}
use mathlib.Core.Bool.{Bool, true, false}
use mathlib.Core.Logic.{◌≢◌}
use Rattle.std.specs.Prelude.{Option, None, if◌then◌else◌}
use Rattle.std.proofs.lemmas.Bool.{cond_both}
use Rattle.channel.specs.Outcome.{goes, ends}
use Rattle.array.specs.ArrayOutcome.{ArrayOutcome}
use Rattle.array.specs.Array.{applied}
use Rattle.channel.specs.declared.answer.Answer.{Answer}
use Rattle.array.specs.declared.call.ArrayCall.{ArrayCall}
use Rattle.array.specs.declared.outcome.ArrayEffect.{ArrayEffect}
use Rattle.places.specs.Place.{place_after}
use Rattle.places.specs.declared.place.Place.{Place}
use Rattle.places.specs.declared.place.Place.TheVariants.{Array, Done}
use Rattle.schedule.specs.declared.record.Record.{Record}
use Rattle.claims.specs.Claims.{Claims, Call, Past, count, made_by, with_count}
use Rattle.claims.proofs.Core.{Core}
use Rattle.claims.proofs.Owners.{Adds, adds_none}
use Rattle.claims.proofs.Rely.{Rely, rely_same}
use Rattle.claims.proofs.Knows.{Stands}

-- Of a step of thread t's call on a record with its past.
module _ (r : Record) (h : Past) (t : ℕ) where
  abbrev pub CoreNow : Type 0
  CoreNow = Core r.shape r.array h.claims

  -- The claims and the call after an effect.
  abbrev pub after : Option ArrayEffect → Claims × Call
  after e = made_by r h.claims (h.calls t) e

  -- What stands at t's place after it.
  abbrev pub StandsNext : Option ArrayEffect → Place → Type 0
  StandsNext e p = Stands r.shape (applied r.array e) (after e).0 (with_count (count (after e).0) (after e).1) p

  -- What an effect leaves.
  pub record Change (e : Option ArrayEffect) : Type 0 where
    pub core : Core r.shape (applied r.array e) (after e).0
    pub rely : (u : ℕ) → u ≢ t → Rely r.shape r.array (applied r.array e) h.claims (after e).0 (h.calls u)
    pub adds : Adds h.claims (after e).0 (h.calls t) (after e).1

  pub record Good (o : ArrayOutcome) : Type 0 where
    pub change : Change o.effect
    pub stands : StandsNext o.effect (place_after Array o.next)

  pub either : (b : Bool) {x y : ArrayOutcome} → (b ≡ true → Good x) → (b ≡ false → Good y) → Good (if b then x else y)
  either b {x} {y} = cond_both b x y Good

  -- Steps that write nothing.
  module _ (C : CoreNow) where
    still : Change None
    still =
        record {
          core = C;
          rely = λ u n. rely_same r.shape r.array h.claims r.array.tail (h.calls u);
          adds = adds_none h.claims h.claims.took (h.calls t);
        }

    pub to : (p : ArrayCall) → StandsNext None (Array p) → Good (goes p)
    to p a = record { change = still; stands = a }

    pub over : (x : Answer) → StandsNext None (Done x) → Good (ends x)
    over x a = record { change = still; stands = a }
