-- Laws of a record's line: how long it is, and the line written up to a field.
use Rattle.std.proofs.Common.{ℕ, zero, suc, ◌+◌, ◌-◌, ◌*◌, ◌≤◌, ◌<◌, ◌≡◌, refl, sym, subst, ◌∙◌, List, append-nil, length, length-append, take-append-drop, add-zero, add-one, arith}
use Rattle.text.specs.Output.{Put, pasted, end_text}
use Rattle.text.proofs.PasteLaws.{put_put, put_length}
use Rattle.schedule.specs.declared.record.Record.{Record}
use Rattle.saved.specs.Fields.{field_count, field_of}
use Rattle.saved.specs.Line.{long_text, line_length, fields_text, record_line}

-- Sixteen digits a field.
length_fields : (r : Record) (n : ℕ) → length (fields_text r n) ≡ n * 16
unfolding fields_text
length_fields r zero = refl
length_fields r (suc n) = rw (length-append, length_fields r n) (omega arith)

pub length_record : (r : Record) → length (record_line r) ≡ line_length
unfolding record_line
length_record r = rw (length-append, length_fields r field_count)

-- The line, written up to field n: its first fields stand from `at` to e.
pub none_put : (r : Record) {at : ℕ} (l : List ℕ) → Put at (fields_text r 0) at l l
unfolding fields_text pasted
none_put r {at} l = record { whole = simp (append-nil, add-zero, take-append-drop); past = sym (add-zero at) }

module _ (r : Record) (n : ℕ) {at e : ℕ} {l m : List ℕ} (p : Put at (fields_text r n) e l m) (room : at + line_length ≤ length l) where
  ends : e ≡ at + n * 16
  ends = p.past ∙ rw (length_fields r n)

  left_over : n ≤ field_count → e + (field_count - n) * 16 + 1 ≤ length m
  left_over h = omega (arith, ends, length_fields r n, put_length (omega (arith, length_fields r n)) p)

  pub next_fits : n < field_count → e + 16 ≤ length m
  next_fits h = omega (arith, left_over)

  pub end_fits : n ≡ field_count → e + 1 ≤ length m
  end_fits h = omega (arith, left_over)

  pub next_put : n < field_count → {v e' : ℕ} {o : List ℕ} → v ≡ field_of r n → Put e (long_text v) e' m o →
      Put at (fields_text r (n + 1)) e' l o
  unfolding fields_text
  next_put h {v} {e'} {o} same q =
      rw add-one (put_put (omega (arith, ends)) p (subst (λ (x : ℕ). Put e (long_text x) e' m o) same q))

  pub all_put : n ≡ field_count → {e' : ℕ} {o : List ℕ} → Put e end_text e' m o → Put at (record_line r) e' l o
  unfolding record_line
  all_put h q = put_put (omega (arith, ends)) (subst (λ (k : ℕ). Put at (fields_text r k) e l m) h p) q
