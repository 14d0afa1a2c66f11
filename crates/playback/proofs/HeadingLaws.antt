-- Laws of a line before a channel was made: what its heading says of its answer, and of the rest of the lines.
use Prim.Native.Nat.{ℕ, ◌+◌, ◌*◌, ◌≤◌}
use mathlib.Core.Bool.{Bool, true, false, cond}
use mathlib.Core.Path.{◌≡◌, refl, ap, sym, subst, ◌∙◌}
use mathlib.Core.List.{List}
use native.Mathlib.Omega.{arith}
use lib.Dec.{eqb}
use lib.ListN.{length, drop, length-append, length-drop}
use lib.Seq.{length-take-le}
use Rattle.bounds.specs.Limits.{making}
use Rattle.bounds.specs.declared.flavour.Flavour.TheVariants as flavour
use Rattle.bounds.specs.declared.refusal.Refusal.{Refusal}
use Rattle.schedule.specs.Making.{fresh_array_record, fresh_zero_record, made, made_array, made_zero}
use Rattle.schedule.specs.declared.record.Record.{Record}
use Rattle.text.specs.Lines.{lines_of}
use Rattle.std.specs.Prelude.{Option, Some, None, Result, Ok, Err, ⊤}
use Rattle.std.specs.Result.{result_and}
use Rattle.schedule.specs.Record.{accepted_as}
use Rattle.text.specs.Frames.{parse_of}
use Rattle.text.specs.Output.{Put, pasted}
use Rattle.text.specs.declared.frame.Frame.{Frame}
use Rattle.text.specs.declared.frame.Frame.TheVariants as frame
use Rattle.text.proofs.PasteLaws.{put_put}
use Rattle.served.specs.Served.{nothing_made, made_as, refused_by, kept_by, making_of, headed_by, served_for}
use Rattle.served.specs.Replies.{replies_to, Room}
use Rattle.served.specs.declared.held.Held.{Held}
use Rattle.served.specs.declared.held.Served.{Served}
use Rattle.served.proofs.RunLaws.{Running}
use Rattle.playback.specs.Heading.{making_to, heading_of}
use Rattle.playback.specs.declared.run.Heading.{Heading}
use Rattle.playback.specs.declared.run.Heading.TheVariants.{Array, Zero}

-- A refused line leaves nothing made; a channel is held from then on.
abbrev led_to : Result Heading Refusal → Served
led_to (Err n) = refused_by nothing_made n
led_to (Ok (Array c n)) = kept_by (accepted_as (fresh_array_record c n))
led_to (Ok (Zero n)) = kept_by (accepted_as (fresh_zero_record n))

served_led : (f : Option Frame) → served_for nothing_made f ≡ led_to (heading_of f)
unfolding served_for making_of made_array made_zero making_to
served_led None = refl
served_led (Some (frame.Header c n)) = go (eqb c 0)
  where
    led : (v : Result ⊤ Refusal) (r : Record) (h : Heading) → led_to (Ok h) ≡ kept_by (accepted_as r) →
        headed_by (made v r) ≡ led_to (result_and v (Ok h))
    led (Ok x) r h e = sym e
    led (Err m) r h e = refl

    go : (b : Bool) → headed_by (cond b (made_zero n) (made_array c n)) ≡
        led_to (cond b (result_and (making flavour.Zero 0 n) (Ok (Zero n))) (result_and (making flavour.Array c n) (Ok (Array c n))))
    go true = led (making flavour.Zero 0 n) (fresh_zero_record n) (Zero n) refl
    go false = led (making flavour.Array c n) (fresh_array_record c n) (Array c n) refl
served_led (Some (frame.Begin t c m d)) = refl
served_led (Some (frame.Step t)) = refl
served_led (Some (frame.Advance n)) = refl
served_led (Some (frame.Take t)) = refl
served_led (Some (frame.Fail t)) = refl

-- A channel's making is allowed.
abbrev Allows : Heading → Type 0
Allows (Array c n) = making flavour.Array c n ≡ Ok tt
Allows (Zero n) = making flavour.Zero 0 n ≡ Ok tt

allows_led : (f : Option Frame) (h : Heading) → heading_of f ≡ Ok h → Allows h
unfolding making_to
allows_led (Some (frame.Header c n)) h e = go (eqb c 0) e
  where
    led : (v : Result ⊤ Refusal) (k : Heading) → (v ≡ Ok tt → Allows k) → result_and v (Ok k) ≡ Ok h → Allows h
    led (Ok tt) k a e = let same : k ≡ h = cc in subst Allows same (a refl)
    led (Err m) k a e = cc

    go : (b : Bool) →
        cond b (result_and (making flavour.Zero 0 n) (Ok (Zero n))) (result_and (making flavour.Array c n) (Ok (Array c n))) ≡ Ok h → Allows h
    go true = led (making flavour.Zero 0 n) (Zero n) (λ e. e)
    go false = led (making flavour.Array c n) (Array c n) (λ e. e)
allows_led f h e = cc

-- The heading of a line, and each of the three.
module _ (l : List ℕ) {f : Option Frame} {h : Result Heading Refusal} (ef : f ≡ parse_of l) (eh : h ≡ heading_of f) where
  leads : (x : Result Heading Refusal) → h ≡ x → heading_of (parse_of l) ≡ x
  leads x e = rw (← ef) (sym eh ∙ e)

  pub served_refused : (n : Refusal) → h ≡ Err n →
      served_for nothing_made (parse_of l) ≡ record { held = nothing_made; reply = Err n }
  served_refused n e = served_led (parse_of l) ∙ ap led_to (leads (Err n) e)

  pub served_array : (c n : ℕ) → h ≡ Ok (Array c n) →
      served_for nothing_made (parse_of l) ≡ record { held = made_as (fresh_array_record c n); reply = Ok None }
  served_array c n e = served_led (parse_of l) ∙ ap led_to (leads (Ok (Array c n)) e)

  pub served_zero : (n : ℕ) → h ≡ Ok (Zero n) →
      served_for nothing_made (parse_of l) ≡ record { held = made_as (fresh_zero_record n); reply = Ok None }
  served_zero n e = served_led (parse_of l) ∙ ap led_to (leads (Ok (Zero n)) e)

  pub allows_array : (c n : ℕ) → h ≡ Ok (Array c n) → making flavour.Array c n ≡ Ok tt
  allows_array c n e = allows_led (parse_of l) (Array c n) (leads (Ok (Array c n)) e)

  pub allows_zero : (n : ℕ) → h ≡ Ok (Zero n) → making flavour.Zero 0 n ≡ Ok tt
  allows_zero n e = allows_led (parse_of l) (Zero n) (leads (Ok (Zero n)) e)

-- Before the first line.
pub room_first : (t out : List ℕ) → length t * 3 + 3 ≤ length out → Room t 0 out 0
room_first t out h = record { within = omega arith; behind = omega arith; enough = h }

-- What is written into a buffer that keeps its length fits it.
put_fits : {l m x : List ℕ} {at r : ℕ} → at ≤ length l → length m ≡ length l → Put at x r l m → at + length x ≤ length l
unfolding pasted
put_fits {l} {m} {x} {at} h e p =
    let n = sym (ap length p.whole) ∙ e in
    let k = simp (length-append, length-drop, length-take-le at l h) at n in
    omega (arith, k)

-- What answers the rest of the lines, behind what is done, answers them all.
module _ (t out₀ : List ℕ) (h₀ : Held) (from start : ℕ) {h : Held} {at end : ℕ} {out : List ℕ} where
  pub running_handed : Running t out₀ h₀ from start h at end out → (r : ℕ) (after : List ℕ) → length after ≡ length out →
      Put end (replies_to h (lines_of (drop at t))) r out after → Put start (replies_to h₀ (lines_of (drop from t))) r out₀ after
  running_handed run r after e p =
      let fit = put_fits (omega (arith, run.room.within, run.room.behind, run.room.enough)) e p in
      rw (← run.left) (put_put (omega (arith, fit, run.size)) run.put p)
