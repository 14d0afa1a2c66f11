-- Laws of hexadecimal: digits and the numbers that they spell.
use Prim.Native.Nat.{ℕ, ◌+◌, ◌*◌, ◌/◌, ◌%◌, ◌^◌, ◌≤◌, ◌<◌}
use mathlib.Core.Path.{◌≡◌, refl, ap, sym, ◌∙◌}
use mathlib.Core.List.{List, [], ◌∷◌, ◌++◌}
use native.Mathlib.Nat.{div-div-eq-div-mul}
use native.Mathlib.Numerals.{add-one}
use native.Mathlib.Omega.{arith}
use lib.ListN.{length, get_or, drop, drop_of_length-le}
use lib.Seq.{drop-cons}
use Rattle.std.specs.Prelude.{Option, Some, None, option_and_then}
use Rattle.text.specs.Hex.{digit_of, hex_of, hex_digit, byte_text, word_text}

-- The digits from i on: one and those behind it, or none.
pub hex_from : (s : List ℕ) (v i : ℕ) → i < length s →
    hex_of v (drop i s) ≡ option_and_then (λ d. hex_of (v * 16 + d) (drop (i + 1) s)) (digit_of (get_or s i 0))
unfolding hex_of
hex_from s v i h = rw (add-one, drop-cons s i 0)

pub hex_end : (s : List ℕ) (v i : ℕ) → length s ≤ i → hex_of v (drop i s) ≡ Some v
unfolding hex_of
hex_end s v i h = rw (drop_of_length-le s h)

-- A digit is below 16, and is the one character of its number.
pub record Digit (b d : ℕ) : Type 0 where
  pub below : d < 16
  pub char : b ≡ hex_digit d

pub digit_only : (b d : ℕ) → digit_of b ≡ Some d → Digit b d
unfolding digit_of
digit_only b d e = record { below = grind arith; char = grind arith }

pub digit_below : (b d : ℕ) → digit_of b ≡ Some d → d < 16
digit_below b d e = (digit_only b d e).below

-- The character of each number below 16 is its digit.
pub digit_back : (v : ℕ) → digit_of (hex_digit v) ≡ Some (v % 16)
unfolding digit_of
digit_back v = grind arith

-- Two digits after those that spell a.
byte_back : (a v : ℕ) (t : List ℕ) → hex_of a (byte_text v ++ t) ≡ hex_of (a * 256 + v % 256) t
unfolding hex_of
byte_back a v t =
    rw (digit_back (v / 16), digit_back v)
    (let e : (a * 16 + v / 16 % 16) * 16 + v % 16 ≡ a * 256 + v % 256 = omega arith in ap (λ (n : ℕ). hex_of n t) e)

-- Four bytes make the number.
bytes : (v p q r : ℕ) → p ≡ v / 0x100 → q ≡ p / 0x100 → r ≡ q / 0x100 → v < 2 ^ 32 →
    (((0 * 256 + r % 256) * 256 + q % 256) * 256 + p % 256) * 256 + v % 256 ≡ v
bytes v p q r a b c h =
    let x : p * 256 + v % 256 ≡ v = omega arith in
    let y : q * 256 + p % 256 ≡ p = omega arith in
    let z : r * 256 + q % 256 ≡ q = omega arith in
    let w : r % 256 ≡ r = omega arith in
    omega (arith, x, y, z, w)

div_more : (v m n : ℕ) → v / (m * n) ≡ v / m / n
div_more v m n = sym (div-div-eq-div-mul v m n)

hex_nil : (v : ℕ) → hex_of v [] ≡ Some v
unfolding hex_of
hex_nil v = refl

-- What is written is read back.
pub hex_byte : (v : ℕ) → v < 2 ^ 8 → hex_of 0 (byte_text v) ≡ Some v
hex_byte v h = byte_back 0 v [] ∙ hex_nil _ ∙ (let e : 0 * 256 + v % 256 ≡ v = omega arith in ap Some e)

pub hex_word : (v : ℕ) → v < 2 ^ 32 → hex_of 0 (word_text v) ≡ Some v
hex_word v h =
    byte_back 0 (v / 0x100_0000) (byte_text (v / 0x1_0000) ++ byte_text (v / 0x100) ++ byte_text v)
    ∙ byte_back _ (v / 0x1_0000) (byte_text (v / 0x100) ++ byte_text v)
    ∙ byte_back _ (v / 0x100) (byte_text v)
    ∙ byte_back _ v []
    ∙ hex_nil _
    ∙ ap Some
    (bytes v (v / 0x100) (v / 0x1_0000) (v / 0x100_0000) refl (div_more v 0x100 0x100) (div_more v 0x1_0000 0x100) h)

-- Digits that spell v after those that spell a: their first two spell a byte, and n are left.
record Byte (a : ℕ) (s : List ℕ) (v n : ℕ) : Type 0 where
  byte : ℕ
  after : List ℕ
  small : byte < 256
  text : s ≡ byte_text byte ++ after
  left : length after ≡ n
  value : hex_of (a * 256 + byte) after ≡ Some v

-- The digits of a number go by the number modulo 16.
digit_mod : (d e : ℕ) → d % 16 ≡ e % 16 → hex_digit d ≡ hex_digit e
digit_mod d e h = rw h

byte_mod : (v w : ℕ) → v % 256 ≡ w % 256 → byte_text v ≡ byte_text w
byte_mod v w h =
    let p : v / 16 % 16 ≡ w / 16 % 16 = omega arith in
    let q : v % 16 ≡ w % 16 = omega arith in
    λ i. digit_mod (v / 16) (w / 16) p i ∷ digit_mod v w q i ∷ []

two_digits : (a x y : ℕ) (t : List ℕ) (v n : ℕ) → length t ≡ n → hex_of a (x ∷ y ∷ t) ≡ Some v → Byte a (x ∷ y ∷ t) v n
unfolding hex_of
two_digits a x y t v n l e = go (digit_of x) (digit_of y) refl refl e
  where
    go : (p q : Option ℕ) → digit_of x ≡ p → digit_of y ≡ q →
        option_and_then (λ d. option_and_then (λ f. hex_of ((a * 16 + d) * 16 + f) t) q) p ≡ Some v → Byte a (x ∷ y ∷ t) v n
    go (Some d) (Some f) g h z =
        let p = digit_only x d g in
        let q = digit_only y f h in
        let k : (d * 16 + f) / 16 % 16 ≡ d % 16 = omega arith in
        let m : (d * 16 + f) % 16 ≡ f % 16 = omega arith in
        let o : (a * 16 + d) * 16 + f ≡ a * 256 + (d * 16 + f) = omega arith in
        record {
          byte = d * 16 + f;
          after = t;
          small = omega arith;
          text = λ i. (p.char ∙ sym (digit_mod _ d k)) i ∷ (q.char ∙ sym (digit_mod _ f m)) i ∷ t;
          left = l;
          value = ap (λ (j : ℕ). hex_of j t) (sym o) ∙ z;
        }
    go (Some d) None g h z = let w : ◌≡◌ {A = ℕ} 0 1 = cc in absurd (omega arith)
    go None q g h z = let w : ◌≡◌ {A = ℕ} 0 1 = cc in absurd (omega arith)

byte_of : (a : ℕ) (s : List ℕ) (v n : ℕ) → length s ≡ n + 2 → hex_of a s ≡ Some v → Byte a s v n
byte_of a [] v n l e = absurd (omega arith)
byte_of a (x ∷ []) v n l e = absurd (omega arith)
byte_of a (x ∷ y ∷ t) v n l e = two_digits a x y t v n (omega arith) e

-- Where no digit is left, the number is what was spelled.
none_left : (v w : ℕ) (s : List ℕ) → length s ≡ 0 → hex_of v s ≡ Some w → (s ≡ []) × (v ≡ w)
unfolding hex_of
none_left v w [] l e = (refl, (cc))
none_left v w (b ∷ t) l e = absurd (omega arith)

-- What is read was written so: two digits that spell v are its text, and so are eight.
pub byte_only : (s : List ℕ) (v : ℕ) → length s ≡ 2 → hex_of 0 s ≡ Some v → (v < 2 ^ 8) × (s ≡ byte_text v)
byte_only s v l e =
    let p = byte_of 0 s v 0 l e in
    let z = none_left (0 * 256 + p.byte) v p.after p.left p.value in
    let m : p.byte % 256 ≡ v % 256 = omega (arith, z.1) in
    (omega (arith, z.1, p.small), p.text ∙ (λ i. byte_mod p.byte v m i ++ z.0 i))

-- Four bytes that make v are its text.
word_by : (s : List ℕ) (v a b c d : ℕ) → a < 256 → b < 256 → c < 256 → d < 256 →
    (((0 * 256 + a) * 256 + b) * 256 + c) * 256 + d ≡ v → s ≡ byte_text a ++ byte_text b ++ byte_text c ++ byte_text d →
    (v < 2 ^ 32) × (s ≡ word_text v)
word_by s v a b c d ha hb hc hd n t =
    let ea : a % 256 ≡ v / 0x100_0000 % 256 = omega arith in
    let eb : b % 256 ≡ v / 0x1_0000 % 256 = omega arith in
    let ec : c % 256 ≡ v / 0x100 % 256 = omega arith in
    let ed : d % 256 ≡ v % 256 = omega arith in
    (omega arith, t ∙ (λ i. byte_mod a _ ea i ++ byte_mod b _ eb i ++ byte_mod c _ ec i ++ byte_mod d v ed i))

pub word_only : (s : List ℕ) (v : ℕ) → length s ≡ 8 → hex_of 0 s ≡ Some v → (v < 2 ^ 32) × (s ≡ word_text v)
word_only s v l e = first (byte_of 0 s v 6 l e)
  where
    joined : {a n : ℕ} {u t : List ℕ} (b : Byte a u v n) → b.after ≡ t → u ≡ byte_text b.byte ++ t
    joined b h = b.text ∙ ap (λ (w : List ℕ). byte_text b.byte ++ w) h

    fourth : {a b c : ℕ} (p : Byte 0 s v 6) (q : Byte a p.after v 4) (r : Byte b q.after v 2)
        (o : Byte c r.after v 0) → a ≡ 0 * 256 + p.byte → b ≡ a * 256 + q.byte → c ≡ b * 256 + r.byte →
        (v < 2 ^ 32) × (s ≡ word_text v)
    fourth {a} {b} {c} p q r o ea eb ec =
        let z = none_left (c * 256 + o.byte) v o.after o.left o.value in
        word_by s v p.byte q.byte r.byte o.byte p.small q.small r.small o.small
        (omega (arith, z.1)) (joined p (joined q (joined r (joined o z.0))))

    third : {a b : ℕ} (p : Byte 0 s v 6) (q : Byte a p.after v 4) → Byte b q.after v 2 →
        a ≡ 0 * 256 + p.byte → b ≡ a * 256 + q.byte → (v < 2 ^ 32) × (s ≡ word_text v)
    third p q r ea eb = fourth p q r (byte_of _ r.after v 0 r.left r.value) ea eb refl

    second : {a : ℕ} (p : Byte 0 s v 6) → Byte a p.after v 4 → a ≡ 0 * 256 + p.byte → (v < 2 ^ 32) × (s ≡ word_text v)
    second p q ea = third p q (byte_of _ q.after v 2 q.left q.value) ea refl

    first : Byte 0 s v 6 → (v < 2 ^ 32) × (s ≡ word_text v)
    first p = second p (byte_of _ p.after v 4 p.left p.value) refl
