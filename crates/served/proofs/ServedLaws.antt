-- Laws of the answer to one frame: what is held stays grown, so in form, and its output line is short.
use Prim.Native.Nat.{ℕ, ◌+◌, ◌*◌, ◌≤◌}
use mathlib.Core.Path.{◌≡◌, refl, ap}
use mathlib.Core.Bool.{Bool, true, false, cond}
use mathlib.Core.List.{List, [], ◌∷◌, ◌++◌}
use native.Mathlib.Omega.{arith}
use lib.Dec.{eqb, lit≤}
use lib.ListN.{length}
use Rattle.std.specs.Prelude.{Option, Some, None, Result, Ok, Err, ⊤}
use Rattle.bounds.specs.Limits.{making}
use Rattle.bounds.specs.Refusal.{Reply}
use Rattle.bounds.specs.declared.flavour.Flavour.TheVariants.{Zero, Array}
use Rattle.bounds.specs.declared.refusal.Refusal.{Refusal}
use Rattle.schedule.specs.Record.{refused_with, accepted_as}
use Rattle.schedule.specs.Making.{fresh_array_record, fresh_zero_record, made, made_array, made_zero}
use Rattle.schedule.specs.Form.{InForm}
use Rattle.schedule.specs.History.{Act, begins, steps, fails, advances, takes, act_on, after, Fresh, fresh_as_array, fresh_as_zero, HasGrown}
use Rattle.schedule.specs.declared.record.Record.{Record}
use Rattle.schedule.specs.declared.record.Replied.{Replied}
use Rattle.text.specs.Frames.{parse_of}
use Rattle.text.specs.declared.frame.Frame.{Frame}
use Rattle.text.specs.declared.frame.Frame.TheVariants.{Header, Begin, Step, Advance, Take, Fail}
use Rattle.text.proofs.TextLaws.{written_read}
use Rattle.grown.proofs.Acts.{every_reply}
use Rattle.grown.proofs.Grown.{grown_in_form}
use Rattle.served.specs.Served.{nothing_made, made_as, making_of, headed_by, call_on, served_for, reply_line, Standing}
use Rattle.served.specs.declared.held.Held.{Held}
use Rattle.served.specs.declared.held.Served.{Served}

-- A grown record is in form.
pub grown_formed : {r : Record} → HasGrown r → InForm r
grown_formed h = rw h.grown (grown_in_form h.start h.fresh h.history)

-- What is held, once made, has grown so.
pub record GrownHeld (h : Held) : Type 0 where
  pub of : (r : Record) → h.channel ≡ Ok r → HasGrown r

pub grown_nothing : GrownHeld nothing_made
grown_nothing = record { of = λ r e. cc }

pub grown_made : {r : Record} → HasGrown r → GrownHeld (made_as r)
grown_made {r = r} g = record { of = λ s e. let same : r ≡ s = cc in rw (← same) g }

pub grown_standing : (h : Held) → GrownHeld h → Standing h
grown_standing h g = λ r e. grown_formed (g.of r e)

-- One call more.
after_more : (r : Record) (l : List Act) (a : Act) → after r (l ++ (a ∷ [])) ≡ (act_on (after r l) a).next
unfolding after
after_more r [] a = refl
after_more r (b ∷ l) a = after_more (act_on r b).next l a

grown_more : {r : Record} → HasGrown r → (a : Act) → HasGrown (act_on r a).next
grown_more {r = r} g a =
    record {
      start = g.start;
      history = g.history ++ (a ∷ []);
      fresh = g.fresh;
      grown = rw (after_more g.start g.history a, ← g.grown) refl;
    }

-- A call on what is held.
grown_on : (h : Held) → GrownHeld h → (a : Act) → GrownHeld (call_on h.channel (λ r. act_on r a)).held
grown_on h g a = go h.channel refl
  where
    go : (c : Result Record Record) → h.channel ≡ c → GrownHeld (call_on c (λ r. act_on r a)).held
    go (Ok r) e = grown_made (grown_more (g.of r e) a)
    go (Err r) e = record { of = λ s f. cc }

-- An accepted making replies no answer, and starts anew.
accepted_made : (v : Result ⊤ Refusal) (r x : Record) → (headed_by (made v r)).held.channel ≡ Ok x → made v r ≡ accepted_as x
accepted_made (Ok u) r x e = let same : r ≡ x = cc in rw same refl
accepted_made (Err n) r x e = cc

grown_fresh : {r : Record} → Fresh r → HasGrown r
unfolding after
grown_fresh {r = r} f = record { start = r; history = []; fresh = f; grown = refl }

making_grown : (c n : ℕ) → GrownHeld (headed_by (making_of c n)).held
unfolding making_of made_array made_zero
making_grown c n = record { of = go (eqb c 0) }
  where
    go : (b : Bool) (r : Record) → (headed_by (cond b (made_zero n) (made_array c n))).held.channel ≡ Ok r → HasGrown r
    go true r e = grown_fresh (fresh_as_zero n (accepted_made (making Zero 0 n) (fresh_zero_record n) r e))
    go false r e = grown_fresh (fresh_as_array c n (accepted_made (making Array c n) (fresh_array_record c n) r e))

grown_header : (h : Held) → GrownHeld h → (c n : ℕ) → GrownHeld (served_for h (Some (Header c n))).held
unfolding served_for
grown_header h g c n = go h.channel refl
  where
    go : (o : Result Record Record) → h.channel ≡ o → GrownHeld (served_for (record { channel = o }) (Some (Header c n))).held
    go (Ok r) e = grown_made (g.of r e)
    go (Err r) e = making_grown c n

pub grown_served : (h : Held) (f : Option Frame) → GrownHeld h → GrownHeld (served_for h f).held
unfolding served_for
grown_served h (Some (Header c n)) g = grown_header h g c n
grown_served h (Some (Begin t c m d)) g = grown_on h g (begins t c m d)
grown_served h (Some (Step t)) g = grown_on h g (steps t)
grown_served h (Some (Advance n)) g = grown_on h g (advances n)
grown_served h (Some (Take t)) g = grown_on h g (takes t)
grown_served h (Some (Fail t)) g = grown_on h g (fails t)
grown_served h None g = g

pub line_room : (y : Reply) → length (reply_line y) ≤ 13
line_room (Ok None) = lit≤ tt
line_room (Ok (Some a)) = lit≤ tt
line_room (Err n) = lit≤ tt

-- The output line of every reply but an accepted take's has three bytes.
abbrev long : Replied → ℕ
long y = length (reply_line y.reply)

abbrev long_served : Served → ℕ
long_served s = length (reply_line s.reply)

making_long : (c n : ℕ) → long (making_of c n) ≤ 3
unfolding making_of made_array made_zero
making_long c n = go (eqb c 0)
  where
    made_long : (v : Result ⊤ Refusal) (r : Record) → long (made v r) ≤ 3
    made_long (Ok u) r = lit≤ tt
    made_long (Err m) r = lit≤ tt

    go : (b : Bool) → long (cond b (made_zero n) (made_array c n)) ≤ 3
    go true = made_long (making Zero 0 n) _
    go false = made_long (making Array c n) _

abbrev room_for : Act → ℕ
room_for (begins t c m d) = 3
room_for (steps t) = 3
room_for (fails t) = 3
room_for (advances n) = 3
room_for (takes t) = 13

call_long : (r : Record) (a : Act) → long (act_on r a) ≤ room_for a
call_long r =
    every_reply r (λ a y. long y ≤ room_for a)
    (record {
      refuse = refused;
      begin = λ t c m d p l e f. lit≤ tt;
      array = λ t k l few e. lit≤ tt;
      zero = λ t k l few e. lit≤ tt;
      fail = λ t k j l few e f. lit≤ tt;
      advance = λ n l. lit≤ tt;
      take = λ t a l e. lit≤ tt;
    })
  where
    refused : (a : Act) (n : Refusal) → long (refused_with r n) ≤ room_for a
    refused (begins t c m d) n = lit≤ tt
    refused (steps t) n = lit≤ tt
    refused (fails t) n = lit≤ tt
    refused (advances k) n = lit≤ tt
    refused (takes t) n = lit≤ tt

-- The output line of a line is at most three times as long as the line with its 0a: a take's has four bytes.
pub line_length_lem : (h : Held) (l : List ℕ) → length (reply_line (served_for h (parse_of l)).reply) ≤ 3 * (length l + 1)
unfolding served_for
line_length_lem h l = go (parse_of l) refl
  where
    short : (c : Result Record Record) (a : Act) → room_for a ≤ 3 * (length l + 1) →
        long_served (call_on c (λ r. act_on r a)) ≤ 3 * (length l + 1)
    short (Ok r) a k = omega (arith, k, call_long r a)
    short (Err r) a k = omega arith

    header : (c : Result Record Record) (k n : ℕ) → long_served (served_for (record { channel = c }) (Some (Header k n))) ≤ 3 * (length l + 1)
    header (Ok r) k n = omega arith
    header (Err r) k n = omega (arith, making_long k n)

    go : (f : Option Frame) → parse_of l ≡ f → long_served (served_for h f) ≤ 3 * (length l + 1)
    go (Some (Header c n)) e = header h.channel c n
    go (Some (Begin t c m d)) e = short h.channel (begins t c m d) (omega arith)
    go (Some (Step t)) e = short h.channel (steps t) (omega arith)
    go (Some (Advance k)) e = short h.channel (advances k) (omega arith)
    go (Some (Take t)) e =
        short h.channel (takes t)
        (omega (arith, ap length (written_read l (Take t) e).1))
    go (Some (Fail t)) e = short h.channel (fails t) (omega arith)
    go None e = omega arith
