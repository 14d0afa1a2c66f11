-- The fields of a record, numbered: what it has once, its threads, its queues, its slots.
use Rattle.std.specs.Prelude.{ℕ, ◌-◌, ◌/◌, ◌%◌, Bool, true, false, if◌then◌else◌, eqb, nat_lt, get_or}
use Rattle.waker.specs.Context.{thread}
use Rattle.waker.specs.Wakers.{word_of}
use Rattle.waker.specs.declared.context.Selected.{Selected}
use Rattle.waker.specs.declared.context.Selected.TheVariants.{Waiting, Picked, Aborted, Disconnected}
use Rattle.waker.specs.declared.waker.Waker.{Waker}
use Rattle.channel.specs.Position.{at}
use Rattle.zero.specs.Zero.{packet_at}
use Rattle.schedule.specs.Record.{place_of}
use Rattle.bounds.specs.declared.flavour.Flavour.{Flavour}
use Rattle.bounds.specs.declared.flavour.Flavour.TheVariants as flavour
use Rattle.schedule.specs.declared.record.Record.{Record}
use Rattle.saved.specs.Place.{place_numbers}

-- `FIELDS` of the code: 10, six for each of 8 threads, nine for each queue, two for each of 64 slots.
abbrev pub field_count : ℕ
field_count = 204

abbrev pub bit : Bool → ℕ
bit true = 1
bit false = 0

abbrev pub flavour_number : Flavour → ℕ
flavour_number flavour.Zero = 0
flavour_number flavour.Array = 1

abbrev pub word_number : Selected → ℕ
word_number Waiting = 0
word_number Picked = 1
word_number Aborted = 2
word_number Disconnected = 3

-- Fields 0 to 9.
unfoldable pub head_field : Record → ℕ → ℕ
head_field r i =
    if eqb i 0 then flavour_number r.flavour
    else if eqb i 1 then r.shape.capacity
    else if eqb i 2 then r.shape.mark
    else if eqb i 3 then r.shape.lap
    else if eqb i 4 then r.count
    else if eqb i 5 then r.clock.0
    else if eqb i 6 then r.steps
    else if eqb i 7 then r.array.head.0
    else if eqb i 8 then r.array.tail.0
    else bit r.zero.disconnected

-- A thread's six: its place, its word, its packet.
unfoldable pub thread_field : Record → ℕ → ℕ → ℕ
thread_field r t i =
    if eqb i 0 then (place_numbers (place_of r t)).code
    else if eqb i 1 then (place_numbers (place_of r t)).first
    else if eqb i 2 then (place_numbers (place_of r t)).second
    else if eqb i 3 then word_number (word_of r.zero.wakers (thread t))
    else if eqb i 4 then (packet_at r.zero (thread t)).message
    else bit (packet_at r.zero (thread t)).ready

-- A queue's nine: its length, then its entries.
unfoldable pub queue_field : Waker → ℕ → ℕ
queue_field q i = if eqb i 0 then q.len else (get_or q.selectors (i - 1) (thread 0)).0

unfoldable pub field_of : Record → ℕ → ℕ
field_of r i =
    if nat_lt i 10 then head_field r i
    else if nat_lt i 58 then thread_field r ((i - 10) / 6) ((i - 10) % 6)
    else if nat_lt i 67 then queue_field r.zero.wakers.senders (i - 58)
    else if nat_lt i 76 then queue_field r.zero.wakers.receivers (i - 67)
    else if nat_lt i 140 then (get_or r.array.stamps (i - 76) (at 0)).0
    else get_or r.array.messages (i - 140) 0
