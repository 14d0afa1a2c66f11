-- Laws of what the trace shows of a frame: its buffer has room for it.
use Prim.Native.Nat.{ℕ, ◌+◌, ◌≤◌}
use mathlib.Core.List.{List}
use native.Mathlib.Omega.{arith}
use lib.ListN.{length, length-append}
use Rattle.bounds.specs.Refusal.{Reply}
use Rattle.text.specs.Output.{Put}
use Rattle.text.proofs.PasteLaws.{put_put, put_length}
use Rattle.saved.specs.Line.{line_length, record_line}
use Rattle.saved.proofs.LineLaws.{length_record}
use Rattle.served.specs.Served.{reply_line}
use Rattle.playback.specs.Trace.{record_of, shown_room, shown_for}
use Rattle.served.specs.declared.held.Served.{Served}
use Rattle.served.proofs.ServedLaws.{line_room}

pub reply_fits : (y : Reply) (n : ℕ) → shown_room ≤ n → 0 + length (reply_line y) ≤ n
reply_fits y n room = omega (arith, line_room y)

module _ {before : List ℕ} (room : shown_room ≤ length before) where
  module _ (y : Reply) {end : ℕ} {out : List ℕ} (p : Put 0 (reply_line y) end before out) where
    pub record_fits : end + line_length ≤ length out
    record_fits = omega (arith, line_room y, p.past, put_length (reply_fits y (length before) room) p)

  module _ (s : Served) {end : ℕ} {out : List ℕ} where
    pub shown_whole : {mid : ℕ} {between : List ℕ} → Put 0 (reply_line s.reply) mid before between →
        Put mid (record_line (record_of s.held.channel)) end between out → Put 0 (shown_for s) end before out
    shown_whole p q =
        put_put (omega (arith, line_room s.reply, p.past, length_record (record_of s.held.channel))) p q

    -- The bytes that are to be written out are there.
    pub shown_fits : Put 0 (shown_for s) end before out → end ≤ length out
    shown_fits p =
        let l = length-append (reply_line s.reply) (record_line (record_of s.held.channel)) in
        let r = length_record (record_of s.held.channel) in
        let h = put_length (omega (arith, line_room s.reply, l, r)) p in
        omega (arith, line_room s.reply, l, r, h, p.past)
