-- What an effect makes of an array is what it makes of the cells of one slot.
use Prim.Native.Nat.{ℕ}
use mathlib.Core.Path.{◌≡◌}
use lib.ListN.{get_or, set}
use lib.Seq.{set-get_or}
use Rattle.std.specs.Prelude.{Option, Some, None}
use Rattle.channel.specs.Position.{at as position}
use Rattle.channel.specs.declared.position.Position.{Position}
use Rattle.array.specs.Array.{cells_at, applied}
use Rattle.array.specs.declared.Array.{Array}
use Rattle.array.specs.declared.Cells.{Cells}
use Rattle.array.specs.declared.outcome.ArrayEffect.{ArrayEffect}
use Rattle.array.specs.declared.outcome.ArrayEffect.TheVariants.{ClaimSend, ClaimReceive, StoreMessage, TakeMessage, StoreStamp, MarkTail}

abbrev pub cells_of : Position → Position → Position → ℕ → Cells
cells_of h t s m = record { head = h; tail = t; stamp = s; message = m }

-- The slot that an effect writes; 0 where it writes none.
abbrev pub written_slot : Option ArrayEffect → ℕ
written_slot None = 0
written_slot (Some (ClaimSend w)) = 0
written_slot (Some (ClaimReceive w)) = 0
written_slot (Some (StoreMessage i m)) = i
written_slot (Some (TakeMessage i)) = i
written_slot (Some (StoreStamp i w)) = i
written_slot (Some (MarkTail w)) = 0

-- The cells of that slot after the effect.
abbrev pub cells_after : Cells → Option ArrayEffect → Cells
cells_after c None = c
cells_after c (Some (ClaimSend w)) = cells_of c.head w c.stamp c.message
cells_after c (Some (ClaimReceive w)) = cells_of w c.tail c.stamp c.message
cells_after c (Some (StoreMessage i m)) = cells_of c.head c.tail c.stamp m
cells_after c (Some (TakeMessage i)) = cells_of c.head c.tail c.stamp 0
cells_after c (Some (StoreStamp i w)) = cells_of c.head c.tail w c.message
cells_after c (Some (MarkTail w)) = cells_of c.head w c.stamp c.message

-- What an effect writes is written by the cells of its slot.
abbrev pub with_cells : Array → ℕ → Cells → Array
with_cells a i c =
    record { stamps = set a.stamps i c.stamp; messages = set a.messages i c.message; head = c.head; tail = c.tail }

module _ (a : Array) where
  stamp_kept : (i : ℕ) → set a.stamps i (get_or a.stamps i (position 0)) ≡ a.stamps
  stamp_kept i = set-get_or a.stamps i (position 0)

  message_kept : (i : ℕ) → set a.messages i (get_or a.messages i 0) ≡ a.messages
  message_kept i = set-get_or a.messages i 0

  pub applied_cells : (e : Option ArrayEffect) →
      applied a e ≡ with_cells a (written_slot e) (cells_after (cells_at a (written_slot e)) e)
  applied_cells None = rw (stamp_kept 0, message_kept 0)
  applied_cells (Some (ClaimSend w)) = rw (stamp_kept 0, message_kept 0)
  applied_cells (Some (ClaimReceive w)) = rw (stamp_kept 0, message_kept 0)
  applied_cells (Some (StoreMessage i m)) = rw (stamp_kept i)
  applied_cells (Some (TakeMessage i)) = rw (stamp_kept i)
  applied_cells (Some (StoreStamp i w)) = rw (message_kept i)
  applied_cells (Some (MarkTail w)) = rw (stamp_kept 0, message_kept 0)
