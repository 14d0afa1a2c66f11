-- Laws of a loop that answers the lines of a text one after the other.
use Prim.Native.Nat.{ℕ, ◌+◌, ◌*◌, ◌≤◌, ◌<◌}
use mathlib.Core.Path.{◌≡◌, refl, ap, sym, subst, ◌∙◌}
use mathlib.Core.List.{List, [], ◌++◌, append_assoc, append-nil}
use native.Mathlib.Nat.{add-zero}
use native.Mathlib.Omega.{arith}
use lib.ListN.{length, drop, length-drop, take-append-drop}
use Rattle.text.specs.Lines.{lines_of, line_of}
use Rattle.text.specs.Frames.{parse_of}
use Rattle.text.specs.Output.{Put, pasted}
use Rattle.text.proofs.LineLaws.{lines_at, lines_none, length_line}
use Rattle.text.proofs.PasteLaws.{put_put, put_length}
use Rattle.bounds.specs.Refusal.{Reply}
use Rattle.served.specs.Served.{served_for, reply_line, Standing}
use Rattle.served.specs.Replies.{replies_to, Room}
use Rattle.served.specs.declared.held.Held.{Held}
use Rattle.served.specs.declared.held.Served.{Served}
use Rattle.served.proofs.ServedLaws.{GrownHeld, grown_standing, grown_served, line_length_lem}

replies_none : (h : Held) (ls : List (List ℕ)) → ls ≡ [] → replies_to h ls ≡ []
unfolding replies_to
replies_none h ls e = rw e

-- A reply's line, and the replies to further lines.
abbrev replies_by : Served → List (List ℕ) → List ℕ
replies_by s ls = reply_line s.reply ++ replies_to s.held ls

-- The reply to the line at a place, and those to the lines past it.
replies_at : (h : Held) (t : List ℕ) (at : ℕ) → at < length t →
    replies_to h (lines_of (drop at t)) ≡
    replies_by (served_for h (parse_of (line_of (drop at t)))) (lines_of (drop (at + length (line_of (drop at t)) + 1) t))
unfolding replies_to
replies_at h t at e = ap (replies_to h) (lines_at t at e)

-- A line lies within the text.
pub line_within : (t : List ℕ) (at : ℕ) (l : List ℕ) → at < length t → l ≡ line_of (drop at t) →
    at + length l ≤ length t
line_within t at l h e =
    let a = length_line (drop at t) in
    let b = length-drop at t in
    rw e (omega (arith, a, b))

-- The lines from a place on, what is held before them, and where their replies go.
module _ (t out₀ : List ℕ) (h₀ : Held) (from start : ℕ) where
  -- The replay, stopped before the line at a place: done is written up to end, what is held answers the rest of the lines,
  -- and there is room for it.
  pub record Running (held : Held) (at end : ℕ) (out : List ℕ) : Type 0 where
    pub done : List ℕ
    pub put : Put start done end out₀ out
    pub left : done ++ replies_to held (lines_of (drop at t)) ≡ replies_to h₀ (lines_of (drop from t))
    pub grows : GrownHeld held
    pub room : Room t at out end
    pub size : length out ≡ length out₀

  pub running_none : GrownHeld h₀ → Room t from out₀ start → Running h₀ from start out₀
  unfolding pasted
  running_none g room =
      record {
        done = [];
        put = record { whole = simp (add-zero, append-nil) (sym (take-append-drop start out₀)); past = omega arith };
        left = refl;
        grows = g;
        room = room;
        size = refl;
      }

  module _ {h : Held} {at end : ℕ} {out : List ℕ} (r : Running h at end out) where
    pub running_stands : Standing h
    running_stands = grown_standing h r.grows

    all_done : length t ≤ at → r.done ≡ replies_to h₀ (lines_of (drop from t))
    all_done e =
        sym (append-nil r.done)
        ∙ ap (λ (l : List ℕ). r.done ++ l) (sym (replies_none h (lines_of (drop at t)) (lines_none t at e)))
        ∙ r.left

    pub running_all : length t ≤ at → Put start (replies_to h₀ (lines_of (drop from t))) end out₀ out
    running_all e = rw (← all_done e) r.put

    -- The line at a place, and the answer to it.
    module _ (more : at < length t) (l : List ℕ) (el : l ≡ line_of (drop at t))
        (h' : Held) (y : Reply) (es : served_for h (parse_of l) ≡ record { held = h'; reply = y }) where
      fits : end + length (reply_line y) ≤ length out₀
      fits =
          let a : length (reply_line y) ≤ 3 * (length l + 1) =
          subst (λ (s : Served). length (reply_line s.reply) ≤ 3 * (length l + 1)) es (line_length_lem h l) in
          let b = line_within t at l more el in
          omega (arith, a, b, r.room.behind, r.room.enough, r.size)

      pub running_fits : end + length (reply_line y) ≤ length out
      running_fits = rw r.size fits

      -- The answer is written: the loop stands before the next line.
      pub running_turn : (end' : ℕ) (out' : List ℕ) → Put end (reply_line y) end' out out' →
          Running h' (at + length l + 1) end' out'
      running_turn end' out' p =
          let a : length (reply_line y) ≤ 3 * (length l + 1) =
          subst (λ (s : Served). length (reply_line s.reply) ≤ 3 * (length l + 1)) es (line_length_lem h l) in
          let b = line_within t at l more el in
          let n : length out' ≡ length out = put_length running_fits p in
          record {
            done = r.done ++ reply_line y;
            put = put_put fits r.put p;
            left = append_assoc r.done (reply_line y) _
                ∙ ap (λ (x : List ℕ). r.done ++ x) (sym (replies_here))
                ∙ r.left;
            grows = subst (λ (s : Served). GrownHeld s.held) es (grown_served h (parse_of l) r.grows);
            room = record {
              within = omega (arith, b);
              behind = omega (arith, a, r.room.behind, p.past);
              enough = omega (arith, n, r.room.enough);
            };
            size = n ∙ r.size;
          }
        where
          replies_here : replies_to h (lines_of (drop at t)) ≡ reply_line y ++ replies_to h' (lines_of (drop (at + length l + 1) t))
          replies_here =
              let here : replies_to h (lines_of (drop at t)) ≡ replies_by (served_for h (parse_of l)) (lines_of (drop (at + length l + 1) t)) =
              subst
              (λ (x : List ℕ). replies_to h (lines_of (drop at t)) ≡ replies_by (served_for h (parse_of x)) (lines_of (drop (at + length x + 1) t)))
              (sym el)
              (replies_at h t at more) in
              here ∙ ap (λ (s : Served). replies_by s (lines_of (drop (at + length l + 1) t))) es
