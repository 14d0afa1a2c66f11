-- One more read: what stood in the buffer, and then what was read.
use Rattle.std.proofs.Common.{◌≡◌, ℕ, ◌+◌, ◌≤◌, List, ◌++◌, rules, length, take, sym, ap, ◌∙◌, subst, length-take-le}
use Rattle.std.proofs.Math.Seq.{take-append-add, take-append-le}
use Rattle.std.specs.Io.KnownBytes.{Consumes}
use Rattle.std.proofs.KnownBytes.{Consumes-trans}
use borrow.Rule.Slice.PartMut.{put_mid}
use Rattle.input.proofs.read_text.Goals as goal

read_on : (n k count : ℕ) (buf new : List ℕ) → n ≤ length buf → count ≤ length new → take (n + count) (put_mid n k buf new) ≡ take n buf ++ take count new
read_on n k count buf new within fits =
    ap (λ m. take (m + count) (put_mid n k buf new)) (sym (length-take-le n buf within)) ∙ take-append-add (take n buf) _ count
    ∙ ap (λ l. take n buf ++ l) (take-append-le count new _ fits)

pub loop-n-preserved : goal.loop-n-preserved
loop-n-preserved g c =
    let before = c.loop-n.invariant in
    let count = c.in_ok-count.ensures in
    let joined = read_on _ _ _ _ _ before.1 count.bound.0 in
    (search rules, search rules, subst (Consumes _ _) (sym joined) (Consumes-trans _ _ _ _ _ before.2 count.bytes.0))
