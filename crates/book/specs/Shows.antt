-- What a row of the bench book shows of a record.
use Rattle.std.specs.Prelude.{ℕ, zero, suc, None, Ok, List, [], ◌∷◌, map, get_or}
use Rattle.waker.specs.Context.{thread}
use Rattle.waker.specs.Wakers.{listed, word_of}
use Rattle.waker.specs.declared.context.Thread.{Thread}
use Rattle.waker.specs.declared.context.Selected.{Selected}
use Rattle.waker.specs.declared.wakers.Side.{Side}
use Rattle.channel.specs.Position.{at}
use Rattle.array.specs.declared.call.SendPlace.TheVariants as send
use Rattle.array.specs.declared.call.ReceivePlace.TheVariants as receive
use Rattle.array.specs.declared.call.ArrayCall.TheVariants.{Send, Receive}
use Rattle.schedule.specs.Record.{place_of}
use Rattle.schedule.specs.History.{Act, act_on, after, steps}
use Rattle.places.specs.declared.place.Place.{Place}
use Rattle.places.specs.declared.place.Place.TheVariants.{Array}
use Rattle.schedule.specs.declared.record.Record.{Record}
use Rattle.schedule.specs.declared.record.Replied.{Replied}
use Rattle.bounds.specs.Refusal.{Reply}

-- The rules' letters for the places of an array's send and receive.
pub data Letter : Type 0 where
  A B C D E F elsewhere : Letter

abbrev pub letter_of : Place → Letter
letter_of (Array (Send (send.LoadTail m))) = A
letter_of (Array (Send (send.LoadStamp m w))) = B
letter_of (Array (Send (send.ClaimTail m w))) = C
letter_of (Array (Send (send.LoadHead m w))) = D
letter_of (Array (Send (send.StoreMessage m w))) = E
letter_of (Array (Send (send.StoreStamp w))) = F
letter_of (Array (Receive receive.LoadHead)) = A
letter_of (Array (Receive (receive.LoadStamp w))) = B
letter_of (Array (Receive (receive.ClaimHead w))) = C
letter_of (Array (Receive (receive.LoadTail w))) = D
letter_of (Array (Receive (receive.TakeMessage w))) = E
letter_of (Array (Receive (receive.StoreStamp w m))) = F
letter_of _ = elsewhere

-- The places from which a thread makes its next steps.
unfoldable pub trail : Record → ℕ → ℕ → List Letter
trail r t zero = []
trail r t (suc n) = letter_of (place_of r t) ∷ trail (act_on r (steps (thread t))).next t n

-- What may be asked of a record, and what may be seen there.
pub data Asks : Type 0 where
  mark lap head tail : Asks
  stamp : (slot : ℕ) → Asks
  place : (t : ℕ) → Asks
  next_steps : (t n : ℕ) → Asks
  waiting : Side → Asks
  word : (t : ℕ) → Asks

pub data Sight : Type 0 where
  number : ℕ → Sight
  stands : Place → Sight
  letters : List Letter → Sight
  entries : List ℕ → Sight
  selected : Selected → Sight

abbrev pub seen : Record → Asks → Sight
seen r mark = number r.shape.mark
seen r lap = number r.shape.lap
seen r head = number r.array.head.0
seen r tail = number r.array.tail.0
seen r (stamp i) = number (get_or r.array.stamps i (at 0)).0
seen r (place t) = stands (place_of r t)
seen r (next_steps t n) = letters (trail r t n)
seen r (waiting σ) = entries (map (λ (t : Thread). t.0) (listed r.zero.wakers σ))
seen r (word t) = selected (word_of r.zero.wakers (thread t))

-- A question with what it must show.
pub record Shows : Type 0 where
  pub asked : Asks
  pub shown : Sight

-- A row: a making, a history of public calls, and what they must show.
pub record Row : Type 0 where
  pub made : Replied
  pub history : List Act
  pub shows : List Shows

-- What one row, and the whole table, must show: its making accepted, and each answer.
pub record Page : Type 0 where
  pub making : Reply
  pub sights : List Sight

abbrev pub promised : Row → Page
promised row = record { making = Ok None; sights = map (λ (s : Shows). s.shown) row.shows }

-- What it does show, after its history.
abbrev pub witnessed : Row → Page
witnessed row =
    record {
      making = row.made.reply;
      sights = map (λ (s : Shows). seen (after row.made.next row.history) s.asked) row.shows;
    }
