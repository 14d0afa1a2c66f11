-- A fresh rendezvous has the invariant, every public call keeps it, and so every history does.
use Prim.Native.Nat.{ℕ}
use mathlib.Core.Path.{◌≡◌, refl}
use mathlib.Core.List.{List}
use native.Mathlib.Omega.{arith}
use Rattle.schedule.specs.Record.{accepted_as}
use Rattle.schedule.specs.Making.{made_zero}
use Rattle.schedule.specs.History.{Act, Moment, remembered, next}
use Rattle.schedule.specs.declared.record.Record.{Record}
use Rattle.schedule.specs.declared.record.Replied.{Replied}
use Rattle.grown.proofs.Acts.{Moves, Cases, every_reply, Onward, throughout_past}
use Rattle.grown.proofs.ZeroKept.{KeptZero}
use Rattle.grown.proofs.ZeroMoves.{zero_moves}
use Rattle.grown.proofs.ZeroGrown.{kept_fresh, idle_fresh}
use Rattle.handover.specs.Meetings.{Past, rule, nothing, moment_after}
use Rattle.handover.proofs.Inv.{Inv}
use Rattle.handover.proofs.Touch.{Kept}
use Rattle.handover.proofs.EveryStep.{every_step}
use Rattle.handover.proofs.Beginning.{rest_all, take_all, begin_all}

module _ (M : Moment Past) (I : Inv M) where
  abbrev KeptBy : Act → Replied → Type 0
  KeptBy a y = Kept M (record { now = y.next; past = remembered rule M a y.reply }) a

  cases : Cases M.now KeptBy
  cases =
      record {
        refuse = λ a n. rest_all M I M.now refl (omega arith) a (λ u. refl);
        begin = λ t c m d p l e s. begin_all M I t m d p c l e (rw I.kept.flavour at s);
        array = λ t k l few e. absurd (rw e at (I.self t.0));
        zero = λ t k l few e. rw e (every_step M I t l k e);
        fail = λ t k j l few e f. absurd (rw e at (I.self t.0));
        advance = λ n l. rest_all M I _ refl (omega arith) _ (λ u. refl);
        take = λ t a l e. take_all M I t a l e;
      }

  -- What every call keeps, and leaves of those that await.
  pub every_call : (a : Act) → Kept M (next rule M a) a
  every_call = every_reply M.now KeptBy cases

  inv_cases : Cases M.now (Onward rule Inv M)
  inv_cases =
      record {
        refuse = λ a n. I;
        begin = λ t c m d p l e s. record { kept = K.begin t.0 c m d p l e s; self = (cases.begin t c m d p l e s).self };
        array = λ t k l few e. absurd (rw e at (I.self t.0));
        zero = λ t k l few e. record { kept = K.zero t k l few e; self = (cases.zero t k l few e).self };
        fail = λ t k j l few e f. absurd (rw e at (I.self t.0));
        advance = λ n l. record { kept = K.advance n.0 l; self = (cases.advance n l).self };
        take = λ t a l e. record { kept = K.take t.0 a l e; self = (cases.take t a l e).self };
      }
    where
      K : Moves KeptZero M.now
      K = zero_moves M.now I.kept

pub inv_after : (n : ℕ) (r : Record) → made_zero n ≡ accepted_as r → (l : List Act) → Inv (moment_after r l)
inv_after n r e l =
    throughout_past rule Inv inv_cases (record { now = r; past = nothing })
    (record { kept = kept_fresh n r e; self = λ u. rw (idle_fresh n r e u) tt }) l
