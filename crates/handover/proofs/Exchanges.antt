-- No thread of a rendezvous stands at a weak exchange, so fail is refused.
use mathlib.Core.Path.{◌≡◌, refl}
use Rattle.schedule.specs.Record.{refused_with}
use Rattle.schedule.specs.History.{Act, fails, act_on, after}
use Rattle.schedule.specs.declared.record.Record.{Record}
use Rattle.schedule.specs.declared.record.Replied.{Replied}
use Rattle.bounds.specs.declared.refusal.Refusal.{Refusal}
use Rattle.grown.proofs.Acts.{every_reply, throughout}
use Rattle.grown.proofs.ZeroKept.{KeptZero}
use Rattle.grown.proofs.ZeroMoves.{zero_moves}
use Rattle.grown.proofs.ZeroGrown.{kept_fresh}
use Rattle.handover.specs.Statement.{NoneFails}

module _ (r : Record) (K : KeptZero r) where
  -- What is asked of a reply: nothing, unless it is fail's.
  abbrev Asked : Act → Replied → Type 0
  Asked (fails t) y = (x : Refusal) × (y ≡ refused_with r x)
  Asked _ y = Unit

  refused : (a : Act) (x : Refusal) → Asked a (refused_with r x)
  refused (fails t) x = (x, refl)
  refused _ x = tt

  answered : (a : Act) → Asked a (act_on r a)
  answered =
      every_reply r Asked
      (record {
        refuse = refused;
        begin = λ t c m d p l e f. tt;
        array = λ t k l few e. tt;
        zero = λ t k l few e. tt;
        fail = λ t k j l few e f. absurd (rw e at (K.orderly.uses t.0));
        advance = λ n l. tt;
        take = λ t a l e. tt;
      })

pub none_fails : NoneFails
none_fails n r e l t = answered (after r l) (throughout KeptZero zero_moves r (kept_fresh n r e) l) (fails t)
