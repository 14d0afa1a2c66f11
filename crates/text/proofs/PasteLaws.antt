-- Laws of writing over a part of a buffer.
use Prim.Native.Nat.{ℕ, suc, ◌+◌, ◌≤◌, ◌<◌}
use mathlib.Core.Path.{◌≡◌, refl, ap, sym, ◌∙◌}
use mathlib.Core.List.{List, [], ◌∷◌, ◌++◌, append_assoc}
use native.Mathlib.Numerals.{add-one}
use native.Mathlib.Omega.{arith}
use lib.ListN.{length, get_or, take, drop, set, length-append, length-drop}
use lib.Seq.{set_split, set_at, drop-cons, length-take-le, drop-drop, take_at, drop_at, append_snoc}
use Rattle.text.specs.Output.{pasted, Put}

-- A first store.
pasted_one : (l : List ℕ) (at a : ℕ) → at < length l → set l at a ≡ pasted at (a ∷ []) l
unfolding pasted
pasted_one l at a h = set_split l at a h ∙ rw (add-one, append_snoc)

-- One store more, right after.
pasted_more : (l x : List ℕ) (at i a : ℕ) → i ≡ at + length x → i < length l →
    set (pasted at x l) i a ≡ pasted at (x ++ (a ∷ [])) l
unfolding pasted
pasted_more l x at i a e h =
    let n : at + (length x + 1) ≡ suc i = omega arith in
    let m : length (take at l ++ x) ≡ i = rw (length-append, length-take-le at l (omega arith)) (omega arith) in
    rw (← e, drop-cons l i 0)
    (set_at (take at l ++ x) (get_or l i 0) (drop (suc i) l) a i m ∙ simp (length-append, append_assoc, n))

length_pasted : (l x : List ℕ) (at : ℕ) → at + length x ≤ length l → length (pasted at x l) ≡ length l
unfolding pasted
length_pasted l x at h = simp (length-append, length-drop, length-take-le at l (omega arith)) (omega arith)

take_pasted : (l x : List ℕ) (at : ℕ) → at + length x ≤ length l →
    take (at + length x) (pasted at x l) ≡ take at l ++ x
unfolding pasted
take_pasted l x at h =
    take_at (take at l ++ x) _ (at + length x) (rw (length-append, length-take-le at l (omega arith)))

drop_pasted : (l x : List ℕ) (at : ℕ) → at + length x ≤ length l →
    drop (at + length x) (pasted at x l) ≡ drop (at + length x) l
unfolding pasted
drop_pasted l x at h =
    drop_at (take at l ++ x) _ (at + length x) (rw (length-append, length-take-le at l (omega arith)))

-- What is written after x is written with x.
pasted_pasted : (l x y : List ℕ) (at i : ℕ) → i ≡ at + length x → i + length y ≤ length l →
    pasted i y (pasted at x l) ≡ pasted at (x ++ y) l
unfolding pasted
pasted_pasted l x y at i e h =
    let k : at + length x ≤ length l = omega arith in
    let n : at + length x + length y ≡ at + (length x + length y) = omega arith in
    rw e
    (open_pasted (pasted at x l) y (at + length x)
    ∙ rw (take_pasted l x at, ← drop-drop (length y) (at + length x) (pasted at x l), drop_pasted l x at, drop-drop)
    (rw n (sym (open_pasted l (x ++ y) at ∙ rw (length-append, ← append_assoc)))))
  where
    open_pasted : (m z : List ℕ) (j : ℕ) → pasted j z m ≡ take j m ++ z ++ drop (j + length z) m
    open_pasted m z j = refl

-- One store, and two.
pub put_one : (l : List ℕ) (at a : ℕ) → at + 1 ≤ length l → Put at (a ∷ []) (at + 1) l (set l at a)
put_one l at a h = record { whole = pasted_one l at a (omega arith); past = refl }

pub put_two : (l : List ℕ) (at a b p q : ℕ) → a ≡ p → b ≡ q → at + 2 ≤ length l →
    Put at (p ∷ q ∷ []) (at + 2) l (set (set l at a) (at + 1) b)
put_two l at a b p q e f h =
    rw (e, f)
    (record {
      whole = ap (λ (m : List ℕ). set m (at + 1) q) (pasted_one l at p (omega arith))
          ∙ pasted_more l (p ∷ []) at (at + 1) q refl (omega arith);
      past = refl;
    })

-- Two pieces written one after the other are one.
pub put_put : {l m n x y : List ℕ} {at a r : ℕ} → a + length y ≤ length l → Put at x a l m → Put a y r m n →
    Put at (x ++ y) r l n
put_put {l} {m} {n} {x} {y} {at} {a} {r} h p q =
    record {
      whole = q.whole ∙ ap (pasted a y) p.whole ∙ pasted_pasted l x y at a p.past h;
      past = rw length-append (omega (arith, p.past, q.past));
    }

pub put_four : {l m n o t w x y z : List ℕ} {at a b c r : ℕ} → at + length (w ++ x ++ y ++ z) ≤ length l →
    Put at w a l m → Put a x b m n → Put b y c n o → Put c z r o t → Put at (w ++ x ++ y ++ z) r l t
put_four h p q r s =
    let k = simp length-append at h in
    put_put (omega (arith, p.past, q.past, r.past))
    (put_put (omega (arith, p.past, q.past)) (put_put (omega (arith, p.past)) p q) r) s

-- The buffer keeps its length; what stands before the end is what was there and what was written; past it nothing changed.
pub put_length : {l m x : List ℕ} {at r : ℕ} → at + length x ≤ length l → Put at x r l m → length m ≡ length l
put_length {l} {m} {x} {at} {r} h p = ap length p.whole ∙ length_pasted l x at h
