-- The word of claim n: the n-th position that head or tail comes to. Laws of words.
use Prim.Native.Nat.{ℕ, ◌+◌, ◌*◌, ◌-◌, ◌/◌, ◌%◌, ◌<◌}
use mathlib.Core.Path.{◌≡◌, refl, sym, ap, ◌∙◌}
use mathlib.Core.Bool.{Bool, true, false}
use native.Mathlib.Omega.{arith}
use native.Mathlib.Nat.{div-add-mod', mod-lt, add-mod_right}
use lib.Dec.{ltb}
use Rattle.std.proofs.lemmas.Nat.{div-mul-add, mod-mul-add}
use borrow.Author.Tests.{ltb-true, ltb-false, le-leb, lt-leb}
use Rattle.std.specs.Prelude.{if◌then◌else◌}
use Rattle.channel.specs.Position.{at, index_of, successor, is_marked}
use Rattle.channel.specs.PositionBounds.{Fits}
use Rattle.channel.specs.declared.position.Position.{Position}
use Rattle.channel.specs.declared.position.Shape.{Shape}
use Rattle.grown.proofs.Words.{mod_at}

-- Claim n is of slot n modulo capacity, and its word has the lap besides.
abbrev pub slot_for : Shape → ℕ → ℕ
slot_for S n = n % S.capacity

unfoldable pub word : Shape → ℕ → ℕ
word S n = n / S.capacity * S.lap + slot_for S n

module _ (S : Shape) (F : Fits S) where
  pub slot_below : (n : ℕ) → slot_for S n < S.capacity
  slot_below n = mod-lt n F.some

  -- A claim is the first of its lap and its slot.
  pub lap_split : (n : ℕ) → n / S.capacity * S.capacity + slot_for S n ≡ n
  lap_split n = div-add-mod' n S.capacity

  pub word_at : (n q r : ℕ) → r < S.capacity → n ≡ q * S.capacity + r → word S n ≡ q * S.lap + r
  unfolding word
  word_at n q r h e = rw (e, div-mul-add q S.capacity r h, mod-mul-add q S.capacity r h)

  -- In the first lap a claim is its own word.
  pub word_low : (n : ℕ) → n < S.capacity → word S n ≡ n
  word_low n h = word_at n 0 n h (omega arith) ∙ omega arith

  word_div : (n : ℕ) → word S n / S.lap ≡ n / S.capacity
  unfolding word
  word_div n = div-mul-add (n / S.capacity) S.lap (slot_for S n) (omega (arith, slot_below n))

  word_mod : (n : ℕ) → word S n % S.lap ≡ slot_for S n
  unfolding word
  word_mod n = mod-mul-add (n / S.capacity) S.lap (slot_for S n) (omega (arith, slot_below n))

  pub word_inj : (n m : ℕ) → word S n ≡ word S m → n ≡ m
  word_inj n m e = cc (lap_split n, lap_split m, word_div n, word_div m, word_mod n, word_mod m)

  -- A capacity of claims further, the same slot a lap later.
  pub slot_lap : (n : ℕ) → slot_for S (n + S.capacity) ≡ slot_for S n
  slot_lap n = add-mod_right n S.capacity

  pub word_lap : (n : ℕ) → word S (n + S.capacity) ≡ word S n + S.lap
  unfolding word
  word_lap n =
      word_at (n + S.capacity) (n / S.capacity + 1) (slot_for S n) (slot_below n) (omega (arith, lap_split n))
      ∙ omega arith

  index_word : (n : ℕ) → word S n % S.mark ≡ slot_for S n
  unfolding word
  index_word n =
      mod_at _ (n / S.capacity + n / S.capacity) S.mark (slot_for S n) (omega (arith, slot_below n))
      (rw F.twice (omega arith))

  pub index_of_lem : (w : Position) (n : ℕ) → w.0 ≡ word S n → index_of S w ≡ slot_for S n
  index_of_lem w n e = ap (λ (x : ℕ). x % S.mark) e ∙ index_word n

  pub index_marked : (w : Position) (n : ℕ) → w.0 ≡ word S n + S.mark → index_of S w ≡ slot_for S n
  index_marked w n e = ap (λ (x : ℕ). x % S.mark) e ∙ add-mod_right (word S n) S.mark ∙ index_word n

  -- One further within a lap, and the next lap's first.
  next_in_lap : (n : ℕ) → word S n + 1 ≡ n / S.capacity * S.lap + (slot_for S n + 1)
  unfolding word
  next_in_lap n = omega arith

  next_lap : (n : ℕ) → word S n - word S n % S.lap + S.lap ≡ (n / S.capacity + 1) * S.lap + 0
  unfolding word
  next_lap n = omega (arith, word_mod n)

  pub word_next : (w : Position) (n : ℕ) → w.0 ≡ word S n → (successor S w).0 ≡ word S (n + 1)
  unfolding successor
  word_next w n e = rw (e, index_word n) (go (ltb (slot_for S n + 1) S.capacity) refl)
    where
      go : (b : Bool) → ltb (slot_for S n + 1) S.capacity ≡ b →
          (if b then at (word S n + 1) else at (word S n - word S n % S.lap + S.lap)).0 ≡ word S (n + 1)
      go true h =
          next_in_lap n
          ∙ sym (word_at (n + 1) (n / S.capacity) (slot_for S n + 1) (ltb-true _ _ h) (omega (arith, lap_split n)))
      go false h =
          next_lap n
          ∙ sym (word_at (n + 1) (n / S.capacity + 1) 0 F.some
          (omega (arith, lap_split n, slot_below n, ltb-false (slot_for S n + 1) S.capacity h)))

  -- One past a word is no word of the same slot.
  pub word_odd : (n m : ℕ) → slot_for S n ≡ slot_for S m → word S n + 1 ≡ word S m → ⊥
  word_odd n m s e =
      omega (
        arith,
        mod_at (word S n + 1) (n / S.capacity) S.lap (slot_for S n + 1) (omega (arith, slot_below n)) (next_in_lap n),
        ap (λ (w : ℕ). w % S.lap) e,
        word_mod m,
      )

  pub not_marked : (w : Position) (n : ℕ) → w.0 ≡ word S n → is_marked S w ≡ false
  not_marked w n e = rw e (omega (arith, lt-leb, word_mod n, slot_below n))

  pub is_marked_lem : (w : Position) (n : ℕ) → w.0 ≡ word S n + S.mark → is_marked S w ≡ true
  unfolding word
  is_marked_lem w n e =
      rw e
      (omega (
        arith,
        le-leb,
        mod_at (word S n + S.mark) (n / S.capacity) S.lap (slot_for S n + S.mark)
            (omega (arith, slot_below n)) (omega arith),
      ))
