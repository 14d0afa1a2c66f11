-- The starred rows of the bench book, as a single table.
use Rattle.std.specs.Prelude.{ℕ, ◌≡◌, List, [], ◌∷◌, ◌++◌, map, length, replicate}
use Rattle.waker.specs.Context.{thread}
use Rattle.waker.specs.declared.context.Selected.{Selected}
use Rattle.waker.specs.declared.context.Selected.TheVariants as word
use Rattle.waker.specs.declared.wakers.Side.{Side}
use Rattle.waker.specs.declared.wakers.Side.TheVariants.{Receiver}
use Rattle.channel.specs.Answer.{ticks}
use Rattle.channel.specs.declared.answer.Answer.{Answer}
use Rattle.channel.specs.declared.answer.Answer.TheVariants.{Sent, Received, Full, Timeout, Number}
use Rattle.zero.specs.declared.call.ZeroCall.TheVariants.{Put, Leave}
use Rattle.places.specs.Begin.{no_deadline}
use Rattle.schedule.specs.Making.{made_array, made_zero}
use Rattle.schedule.specs.History.{Act, begins, steps, takes}
use Rattle.places.specs.declared.place.Place.{Place}
use Rattle.places.specs.declared.place.Place.TheVariants.{Zero, Done}
use Rattle.schedule.specs.declared.record.Replied.{Replied}
use Rattle.book.specs.Shows.{Row, Shows, Asks, Sight, Letter, A, B, C, D, promised, witnessed}
use Rattle.book.specs.Shows as ask

abbrev row : Replied → List Act → List Shows → Row
row r acts shows = record { made = r; history = acts; shows = shows }

-- What a row may show.
abbrev shows : Asks → Sight → Shows
shows q s = record { asked = q; shown = s }

abbrev mark_is : ℕ → Shows
mark_is n = shows ask.mark (ask.number n)

abbrev lap_is : ℕ → Shows
lap_is n = shows ask.lap (ask.number n)

abbrev head_is : ℕ → Shows
head_is n = shows ask.head (ask.number n)

abbrev tail_is : ℕ → Shows
tail_is n = shows ask.tail (ask.number n)

abbrev stamp_is : ℕ → ℕ → Shows
stamp_is i n = shows (ask.stamp i) (ask.number n)

abbrev stands_at : ℕ → Place → Shows
stands_at t p = shows (ask.place t) (ask.stands p)

abbrev answers : ℕ → Answer → Shows
answers t a = stands_at t (Done a)

abbrev next_steps : ℕ → List Letter → Shows
next_steps t l = shows (ask.next_steps t (length l)) (ask.letters l)

abbrev waiting : Side → List ℕ → Shows
waiting σ l = shows (ask.waiting σ) (ask.entries l)

abbrev word_is : ℕ → Selected → Shows
word_is t w = shows (ask.word t) (ask.selected w)

-- Thread t begins a call, by its code, with a message and no deadline.
abbrev begin : ℕ → ℕ → ℕ → Act
begin t code m = begins (thread t) code m (ticks no_deadline)

abbrev step : ℕ → Act
step t = steps (thread t)

-- A whole call of thread t in n steps, its answer taken.
abbrev whole : ℕ → ℕ → ℕ → ℕ → List Act
whole t code m n = begin t code m ∷ replicate n (step t) ++ (takes (thread t) ∷ [])

abbrev send : ℕ → ℕ → List Act
send t m = whole t 1 m 5

abbrev receive : ℕ → List Act
receive t = whole t 2 0 5

-- `len` of thread t, its answer left.
abbrev len : ℕ → List Act
len t = begin t 5 0 ∷ replicate 3 (step t)

-- A sender stopped after C: it has claimed, and not stored its message.
abbrev stalled : ℕ → ℕ → List Act
stalled t m = begin t 1 m ∷ replicate 3 (step t)

abbrev pub table : List Row
table =
    -- 1 to 4: mark and lap
    row (made_array 1 1) [] (mark_is 2 ∷ lap_is 4 ∷ [])
    ∷ row (made_array 3 1) [] (mark_is 4 ∷ lap_is 8 ∷ [])
    ∷ row (made_array 4 1) [] (mark_is 8 ∷ lap_is 16 ∷ [])
    ∷ row (made_array 64 1) [] (mark_is 128 ∷ lap_is 256 ∷ [])
    -- 5: capacity 1 after one send: tail 4, stamp 1; a second `try_send` is Full by A, B, D
    ∷ row (made_array 1 2) (send 0 42 ++ (begin 1 1 7 ∷ [])) (tail_is 4 ∷ stamp_is 0 1 ∷ next_steps 1 (A ∷ B ∷ D ∷ []) ∷ [])
    ∷ row (made_array 1 2) (send 0 42 ++ begin 1 1 7 ∷ replicate 3 (step 1)) (answers 1 (Full 7) ∷ [])
    -- 6: then one receive: head 4, stamp 4
    ∷ row (made_array 1 2) (send 0 42 ++ begin 1 2 0 ∷ replicate 5 (step 1)) (head_is 4 ∷ stamp_is 0 4 ∷ answers 1 (Received 42) ∷ [])
    -- 7: capacity 3, three sends: tail 8, `len` 3
    ∷ row (made_array 3 2) (send 0 1 ++ send 0 2 ++ send 0 3 ++ len 1) (tail_is 8 ∷ answers 1 (Number 3) ∷ [])
    -- 8: capacity 3, four sends and two receives, never above 3: tail 9, head 2, `len` 2
    ∷ row (made_array 3 2) (send 0 1 ++ send 0 2 ++ send 0 3 ++ receive 1 ++ send 0 4 ++ receive 1 ++ len 1)
    (tail_is 9 ∷ head_is 2 ∷ answers 1 (Number 2) ∷ [])
    -- 9: capacity 2, a sender stopped after C: `len` 1, and another thread's `try_recv` cycles A, B, D
    ∷ row (made_array 2 3) (stalled 0 42 ++ len 1) (answers 1 (Number 1) ∷ [])
    ∷ row (made_array 2 3) (stalled 0 42 ++ (begin 1 2 0 ∷ [])) (next_steps 1 (A ∷ B ∷ D ∷ A ∷ B ∷ D ∷ []) ∷ [])
    -- 10: capacity 1, same: a second `try_send` cycles A, B
    ∷ row (made_array 1 3) (stalled 0 42 ++ (begin 1 1 7 ∷ [])) (next_steps 1 (A ∷ B ∷ A ∷ B ∷ []) ∷ [])
    -- 11: rendezvous, two receivers waiting: a send picks the older
    ∷ row (made_zero 3) (begin 1 4 0 ∷ step 1 ∷ begin 2 4 0 ∷ step 2 ∷ begin 0 1 42 ∷ step 0 ∷ [])
    (stands_at 0 (Zero (Put (thread 1) 42)) ∷ word_is 1 word.Picked ∷ waiting Receiver (2 ∷ []) ∷ [])
    -- 12: deadline 0 at clock 0, nobody opposite: a `recv` joins, is Aborted at its first poll, answers Timeout at its next step
    ∷ row (made_zero 2) (begins (thread 0) 4 0 (ticks 0) ∷ step 0 ∷ []) (waiting Receiver (0 ∷ []) ∷ word_is 0 word.Waiting ∷ [])
    ∷ row (made_zero 2) (begins (thread 0) 4 0 (ticks 0) ∷ step 0 ∷ step 0 ∷ [])
    (stands_at 0 (Zero (Leave Receiver)) ∷ word_is 0 word.Aborted ∷ [])
    ∷ row (made_zero 2) (begins (thread 0) 4 0 (ticks 0) ∷ step 0 ∷ step 0 ∷ step 0 ∷ []) (answers 0 (Timeout 0) ∷ waiting Receiver [] ∷ [])
    -- picked before that poll, it receives
    ∷ row (made_zero 2)
    (begins (thread 0) 4 0 (ticks 0) ∷ step 0 ∷ begin 1 1 42 ∷ step 1 ∷ step 0 ∷ step 1 ∷ step 1 ∷ step 0 ∷ [])
    (answers 0 (Received 42) ∷ answers 1 Sent ∷ [])
    ∷ []

-- Every row shows what it must.
abbrev pub BenchBook : Type 0
BenchBook = map witnessed table ≡ map promised table
