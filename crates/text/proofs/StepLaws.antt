-- Laws of the thread whose step a text's first line spells, told from the text's first bytes. Each frame has one line, so what is
-- not the line of a step is no thread's.
use Rattle.std.proofs.Common.{◌≡◌, ℕ, zero, suc, ◌+◌, ◌*◌, ◌/◌, ◌≤◌, ◌<◌, true, false, List, ◌==◌, Option, Some, None, length, get_or, drop, refl, sym, ap, ◌∙◌, arith, eq-eqb, eqb-true, length-drop}
use Rattle.std.proofs.lemmas.List.Sums.{position_or_len_is, passes_at_first}
use Rattle.waker.specs.Context.{thread}
use Rattle.waker.specs.declared.context.Thread.{Thread}
use Rattle.text.specs.Lines.{line_of}
use Rattle.text.specs.Hex.{digit_of, hex_of, hex_digit}
use Rattle.text.specs.Frames.{thread_of, form_of, parse_of, step_thread}
use Rattle.text.specs.Texts.{text_of}
use Rattle.text.specs.declared.frame.Frame.{Frame}
use Rattle.text.specs.declared.frame.Frame.TheVariants.{Step}
use Rattle.text.proofs.HexLaws.{digit_back, hex_from, hex_end}
use Rattle.text.proofs.LineLaws.{end_of, length_line, length_line_is, line_byte}
use Rattle.text.proofs.TextLaws.{written_read}

-- A line is the line of a step, or no thread's.
step_or_none : (l : List ℕ) {A : Type 0} → ((t : Thread) → l ≡ text_of (Step t) → A) → (None ≡ step_thread (parse_of l) → A) → A
step_or_none l {A} f g = go (parse_of l) refl
  where
    go : (x : Option Frame) → parse_of l ≡ x → A
    go (Some (Step t)) e = f t (written_read l (Step t) e).1
    go x e = g (sym (ap step_thread e))

no_step : (l : List ℕ) → ((t : Thread) → l ≡ text_of (Step t) → ⊥) → None ≡ step_thread (parse_of l)
no_step l f = step_or_none l (λ t e. absurd (f t e)) (λ e. e)

-- A thread's step has four bytes.
pub step_four : (l : List ℕ) (t : Thread) → step_thread (parse_of l) ≡ Some t → length l ≡ 4
step_four l t s = step_or_none l (λ u e. ap length e) (λ e. cc)

-- Four bytes, 02 and two digits, are the step that the digits spell.
step_spelled : (l : List ℕ) (h w : ℕ) → length l ≡ 4 → get_or l 0 0 ≡ 0x30 → get_or l 1 0 ≡ 0x32 → digit_of (get_or l 2 0) ≡ Some h →
    digit_of (get_or l 3 0) ≡ Some w → Some (thread (h * 16 + w)) ≡ step_thread (parse_of l)
unfolding parse_of form_of thread_of
step_spelled l h w four first second high low =
    let n : length (drop 2 l) ≡ 2 = omega (arith, length-drop 2 l) in
    let x : hex_of 0 (drop 2 l) ≡ Some (h * 16 + w) =
    rw (hex_from l 0 2 (omega arith), high, hex_from l (0 * 16 + h) 3 (omega arith), low, hex_end l ((0 * 16 + h) * 16 + w) 4 (omega arith)) (ap Some (omega arith)) in
    rw (eq-eqb (get_or l 0 0) 0x30 first, second, eq-eqb (length (drop 2 l)) 2 n, x)

-- A written digit is a digit, and no digit is 0a.
no_digit : (v : ℕ) → digit_of (hex_digit v) ≡ None → ⊥
no_digit v e = cc (digit_back v)

no_end : (b d : ℕ) → digit_of b ≡ Some d → b == 0x0a ≡ false
unfolding digit_of
no_end b d e = grind arith

module _ (s : List ℕ) where
  -- A text whose first line is a step begins with that step's bytes.
  begins : (t : Thread) → line_of s ≡ text_of (Step t) → (i : ℕ) → i < 4 → get_or (text_of (Step t)) i 0 ≡ get_or s i 0
  begins t e i h = ap (λ (l : List ℕ). get_or l i 0) (sym e) ∙ line_byte s i (omega (arith, h, ap length e))

  pub told_short : length s < 4 → None ≡ step_thread (parse_of (line_of s))
  told_short h = no_step (line_of s) (λ t e. omega (arith, h, ap length e, length_line s))

  pub told_first : (get_or s 0 0 ≡ 0x30 → ⊥) → None ≡ step_thread (parse_of (line_of s))
  told_first ne = no_step (line_of s) (λ t e. ne (sym (begins t e 0 (omega arith))))

  pub told_second : (get_or s 1 0 ≡ 0x32 → ⊥) → None ≡ step_thread (parse_of (line_of s))
  told_second ne = no_step (line_of s) (λ t e. ne (sym (begins t e 1 (omega arith))))

  pub told_no_high : digit_of (get_or s 2 0) ≡ None → None ≡ step_thread (parse_of (line_of s))
  told_no_high n = no_step (line_of s) (λ t e. no_digit (t.0 / 16) (ap digit_of (begins t e 2 (omega arith)) ∙ n))

  pub told_no_low : digit_of (get_or s 3 0) ≡ None → None ≡ step_thread (parse_of (line_of s))
  told_no_low n = no_step (line_of s) (λ t e. no_digit t.0 (ap digit_of (begins t e 3 (omega arith)) ∙ n))

  -- 02 and two digits: a step where the line ends behind them.
  module _ (four : 4 ≤ length s) (first : get_or s 0 0 ≡ 0x30) (second : get_or s 1 0 ≡ 0x32)
      {h : ℕ} (high : digit_of (get_or s 2 0) ≡ Some h) {w : ℕ} (low : digit_of (get_or s 3 0) ≡ Some w) where
    open_four : (k : ℕ) → k < 4 → get_or s k 0 == 0x0a ≡ false
    open_four zero l = rw first
    open_four (suc zero) l = rw second
    open_four (suc (suc zero)) l = no_end (get_or s 2 0) h high
    open_four (suc (suc (suc zero))) l = no_end (get_or s 3 0) w low
    open_four (suc (suc (suc (suc k)))) l = absurd (omega arith)

    told : (4 < length s → get_or s 4 0 == 0x0a ≡ true) → Some (thread (h * 16 + w)) ≡ step_thread (parse_of (line_of s))
    told ends =
        let e : length (line_of s) ≡ 4 = length_line_is s ∙ position_or_len_is (λ b. b == 0x0a) s 4 0 four open_four ends in
        let b : (i : ℕ) → i < 4 → get_or (line_of s) i 0 ≡ get_or s i 0 = λ i k. line_byte s i (omega (arith, e, k)) in
        step_spelled (line_of s) h w e (b 0 (omega arith) ∙ first) (b 1 (omega arith) ∙ second) (ap digit_of (b 2 (omega arith)) ∙ high)
        (ap digit_of (b 3 (omega arith)) ∙ low)

    pub told_last : length s ≡ 4 → Some (thread (h * 16 + w)) ≡ step_thread (parse_of (line_of s))
    told_last e = told (λ l. absurd (omega arith))

    module _ (more : 4 < length s) where
      pub told_ended : get_or s 4 0 ≡ 0x0a → Some (thread (h * 16 + w)) ≡ step_thread (parse_of (line_of s))
      told_ended e = told (λ l. eq-eqb (get_or s 4 0) 0x0a e)

      pub told_longer : (get_or s 4 0 ≡ 0x0a → ⊥) → None ≡ step_thread (parse_of (line_of s))
      told_longer ne =
          no_step (line_of s) (λ t e.
          let at : end_of s ≡ 4 = sym (length_line_is s) ∙ ap length e in
          let passed = passes_at_first (λ b. b == 0x0a) s 0 (omega arith) in
          ne (eqb-true (get_or s 4 0) 0x0a (rw at at passed)))
