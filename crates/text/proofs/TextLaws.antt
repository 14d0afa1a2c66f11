-- Each frame whose fields fit has one line: the line spells the frame, and no other line does.
use Prim.Native.Nat.{ℕ, ◌^◌, ◌<◌}
use mathlib.Core.Bool.{Bool, true, false}
use mathlib.Core.Path.{◌≡◌, refl, ap, sym, subst, ◌∙◌}
use mathlib.Core.List.{List, [], ◌∷◌, ◌++◌}
use native.Mathlib.Omega.{arith}
use lib.ListN.{length, take, drop, length-drop, take-append-drop}
use lib.Seq.{length-take-le, take-add}
use borrow.Author.Tests.{eqb-true}
use Rattle.channel.specs.Answer.{ticks}
use Rattle.std.specs.Prelude.{◌==◌, Option, Some, None, if◌then◌else◌, option_map}
use Rattle.waker.specs.Context.{thread}
use Rattle.waker.specs.declared.context.Thread.{Thread}
use Rattle.text.specs.Hex.{hex_of, byte_text}
use Rattle.text.specs.Frames.{given, header_of, begin_of, thread_of, advance_of, form_of, parse_of}
use Rattle.text.specs.Texts.{text_of, Spelled, ReadWritten, WrittenRead}
use Rattle.text.specs.declared.frame.Frame.{Frame}
use Rattle.text.specs.declared.frame.Frame.TheVariants.{Header, Begin, Step, Advance, Take, Fail}
use Rattle.text.proofs.HexLaws.{hex_byte, hex_word, byte_only, word_only}

pub read_written : ReadWritten
unfolding parse_of form_of header_of begin_of thread_of advance_of
read_written (Header c n) h = rw (hex_byte c h.0, hex_byte n h.1)
read_written (Begin t o m d) h =
    rw (hex_byte t.0 h.0, hex_byte o h.1, hex_word m h.2, hex_word d.0 h.3)
read_written (Step t) h = rw (hex_byte t.0 h)
read_written (Advance n) h = rw (hex_word n.0 h)
read_written (Take t) h = rw (hex_byte t.0 h)
read_written (Fail t) h = rw (hex_byte t.0 h)

-- Where a line is read as a frame, it is the line of that frame.
Only : List ℕ → Option Frame → Type 0
Only l o = (f : Frame) → o ≡ Some f → Spelled f × (l ≡ text_of f)

only_none : (l : List ℕ) → Only l None
unfolding Only
only_none l f e = cc

only_some : (l : List ℕ) (f : Frame) → Spelled f × (l ≡ text_of f) → Only l (Some f)
unfolding Only
only_some l f h g e =
    let k : f ≡ g = cc in
    subst (λ (x : Frame). Spelled x × (l ≡ text_of x)) k h

-- By a test, and by a number.
only_if : (l : List ℕ) (f g : Option Frame) (x : Bool) → (x ≡ true → Only l f) → Only l g → Only l (if x then f else g)
only_if l f g true h k = h refl
only_if l f g false h k = k

only_given : (l : List ℕ) (f : ℕ → Option Frame) (n : Option ℕ) → ((v : ℕ) → n ≡ Some v → Only l (f v)) → Only l (given n f)
only_given l f (Some v) h = h v refl
only_given l f None h = only_none l

only_map : (l : List ℕ) (f : Thread → Frame) (n : Option Thread) → ((t : Thread) → n ≡ Some t → Spelled (f t) × (l ≡ text_of (f t))) →
    Only l (option_map f n)
only_map l f (Some t) h = only_some l (f t) (h t refl)
only_map l f None h = only_none l

-- The digits of a header and of a begin are the texts of their fields.
header_text : (s : List ℕ) (c n : ℕ) → length s ≡ 4 → hex_of 0 (take 2 s) ≡ Some c → hex_of 0 (drop 2 s) ≡ Some n →
    Spelled (Header c n) × (0x30 ∷ 0x30 ∷ s ≡ text_of (Header c n))
header_text s c n h ec en =
    let p = byte_only (take 2 s) c (length-take-le 2 s (omega arith)) ec in
    let q = byte_only (drop 2 s) n (rw length-drop (omega arith)) en in
    let e : s ≡ byte_text c ++ byte_text n = sym (take-append-drop 2 s) ∙ (λ i. p.1 i ++ q.1 i) in
    ((p.0, q.0), ap (λ (u : List ℕ). 0x30 ∷ 0x30 ∷ u) e)

begin_fields : (s : List ℕ) → s ≡ take 2 s ++ take 2 (drop 2 s) ++ take 8 (drop 4 s) ++ drop 12 s
begin_fields s =
    sym (take-append-drop 12 s)
    ∙ ap (λ (u : List ℕ). u ++ drop 12 s)
    (take-add 4 8 s ∙ ap (λ (u : List ℕ). u ++ take 8 (drop 4 s)) (take-add 2 2 s))

begin_text : (s : List ℕ) (t o m d : ℕ) → length s ≡ 20 → hex_of 0 (take 2 s) ≡ Some t →
    hex_of 0 (take 2 (drop 2 s)) ≡ Some o → hex_of 0 (take 8 (drop 4 s)) ≡ Some m → hex_of 0 (drop 12 s) ≡ Some d →
    Spelled (Begin (thread t) o m (ticks d)) × (0x30 ∷ 0x31 ∷ s ≡ text_of (Begin (thread t) o m (ticks d)))
begin_text s t o m d h et eo em ed =
    let p = byte_only (take 2 s) t (length-take-le 2 s (omega arith)) et in
    let q = byte_only (take 2 (drop 2 s)) o (length-take-le 2 (drop 2 s) (rw length-drop (omega arith))) eo in
    let r = word_only (take 8 (drop 4 s)) m (length-take-le 8 (drop 4 s) (rw length-drop (omega arith))) em in
    let v = word_only (drop 12 s) d (rw length-drop (omega arith)) ed in
    let e = begin_fields s ∙ (λ i. p.1 i ++ q.1 i ++ r.1 i ++ v.1 i) in
    ((p.0, q.0, r.0, v.0), ap (λ (u : List ℕ). 0x30 ∷ 0x31 ∷ u) e)

-- The forms.
header_only : (s : List ℕ) → Only (0x30 ∷ 0x30 ∷ s) (header_of s)
unfolding header_of
header_only s =
    only_if _ _ _ (length s == 4)
    (λ x. only_given _ _ (hex_of 0 (take 2 s)) (λ c ec. only_given _ _ (hex_of 0 (drop 2 s)) (λ n en.
    only_some _ (Header c n) (header_text s c n (eqb-true (length s) 4 x) ec en))))
    (only_none _)

begin_only : (s : List ℕ) → Only (0x30 ∷ 0x31 ∷ s) (begin_of s)
unfolding begin_of
begin_only s =
    only_if _ _ _ (length s == 20)
    (λ x.
    only_given _ _ (hex_of 0 (take 2 s)) (λ t et.
    only_given _ _ (hex_of 0 (take 2 (drop 2 s))) (λ o eo.
    only_given _ _ (hex_of 0 (take 8 (drop 4 s))) (λ m em.
    only_given _ _ (hex_of 0 (drop 12 s)) (λ d ed.
    only_some _ (Begin (thread t) o m (ticks d)) (begin_text s t o m d (eqb-true (length s) 20 x) et eo em ed))))))
    (only_none _)

advance_only : (s : List ℕ) → Only (0x30 ∷ 0x33 ∷ s) (advance_of s)
unfolding advance_of
advance_only s =
    only_if _ _ _ (length s == 8)
    (λ x. only_given _ _ (hex_of 0 s) (λ n e.
    let p = word_only s n (eqb-true (length s) 8 x) e in
    only_some _ (Advance (ticks n)) (p.0, ap (λ (u : List ℕ). 0x30 ∷ 0x33 ∷ u) p.1)))
    (only_none _)

-- The digits of a thread are its text, if they are read at all.
thread_text : (s : List ℕ) (t : Thread) → thread_of s ≡ Some t → (t.0 < 2 ^ 8) × (s ≡ byte_text t.0)
unfolding thread_of
thread_text s t = go (length s == 2) (hex_of 0 s) refl refl
  where
    go : (x : Bool) (n : Option ℕ) → length s == 2 ≡ x → hex_of 0 s ≡ n → (if x then option_map thread n else None) ≡ Some t → (t.0 < 2 ^ 8) × (s ≡ byte_text t.0)
    go true (Some v) x h e = let k : thread v ≡ t = cc in byte_only s t.0 (eqb-true (length s) 2 x) (h ∙ ap (λ (u : Thread). Some u.0) k)
    go true None x h e = cc
    go false n x h e = cc

thread_only : (k : ℕ) (f : Thread → Frame) (s : List ℕ) → ((t : Thread) → t.0 < 2 ^ 8 → Spelled (f t)) →
    ((t : Thread) → 0x30 ∷ k ∷ byte_text t.0 ≡ text_of (f t)) → Only (0x30 ∷ k ∷ s) (option_map f (thread_of s))
thread_only k f s small text =
    only_map _ f (thread_of s) (λ t e.
    let p = thread_text s t e in (small t p.0, ap (λ (u : List ℕ). 0x30 ∷ k ∷ u) p.1 ∙ text t))

-- By the second digit, and by the first.
form_only : (k : ℕ) (s : List ℕ) → Only (0x30 ∷ k ∷ s) (form_of k s)
unfolding form_of
form_only k s =
    only_if _ _ _ (k == 0x30) (λ x. rw (eqb-true k 0x30 x) (header_only s))
    (only_if _ _ _ (k == 0x31) (λ x. rw (eqb-true k 0x31 x) (begin_only s))
    (only_if _ _ _ (k == 0x32) (λ x. rw (eqb-true k 0x32 x) (thread_only 0x32 Step s (λ t h. h) (λ t. refl)))
    (only_if _ _ _ (k == 0x33) (λ x. rw (eqb-true k 0x33 x) (advance_only s))
    (only_if _ _ _ (k == 0x34) (λ x. rw (eqb-true k 0x34 x) (thread_only 0x34 Take s (λ t h. h) (λ t. refl)))
    (only_if _ _ _ (k == 0x35) (λ x. rw (eqb-true k 0x35 x) (thread_only 0x35 Fail s (λ t h. h) (λ t. refl))) (only_none _))))))

pub written_read : WrittenRead
unfolding Only parse_of form_of
written_read [] = only_none []
written_read (a ∷ []) = only_if _ _ _ (a == 0x30) (λ x. only_none _) (only_none _)
written_read (a ∷ k ∷ s) = only_if _ _ _ (a == 0x30) (λ x. rw (eqb-true a 0x30 x) (form_only k s)) (only_none _)
