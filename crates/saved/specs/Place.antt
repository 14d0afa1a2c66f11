-- Where a thread stands, as three numbers. The first digit of a running call's code is the call's code; a to f are the array's
-- steps, 0 to 5 those on a rendezvous.
use Rattle.std.specs.Prelude.{ℕ, ◌+◌}
use Rattle.waker.specs.declared.wakers.Side.{Side}
use Rattle.waker.specs.declared.wakers.Side.TheVariants.{Sender, Receiver}
use Rattle.channel.specs.Answer.{kind_of, value_of}
use Rattle.array.specs.declared.call.SendPlace.{SendPlace}
use Rattle.array.specs.declared.call.SendPlace.TheVariants as send
use Rattle.array.specs.declared.call.ReceivePlace.{ReceivePlace}
use Rattle.array.specs.declared.call.ReceivePlace.TheVariants as receive
use Rattle.array.specs.declared.call.LenPlace.{LenPlace}
use Rattle.array.specs.declared.call.LenPlace.TheVariants as len
use Rattle.array.specs.declared.call.IsEmptyPlace.{IsEmptyPlace}
use Rattle.array.specs.declared.call.IsEmptyPlace.TheVariants as is_empty
use Rattle.array.specs.declared.call.IsFullPlace.{IsFullPlace}
use Rattle.array.specs.declared.call.IsFullPlace.TheVariants as is_full
use Rattle.array.specs.declared.call.ArrayCall.{ArrayCall}
use Rattle.array.specs.declared.call.ArrayCall.TheVariants.{Send, Receive, Len, IsEmpty, IsFull, IsDisconnected, Disconnect}
use Rattle.zero.specs.declared.call.Offer.{Offer}
use Rattle.zero.specs.declared.call.Offer.TheVariants as offer
use Rattle.zero.specs.declared.call.Limit.{Limit}
use Rattle.zero.specs.declared.call.Limit.TheVariants.{Try, Until}
use Rattle.zero.specs.declared.call.Question.{Question}
use Rattle.zero.specs.declared.call.Question.TheVariants as ask
use Rattle.zero.specs.declared.call.ZeroCall.{ZeroCall}
use Rattle.zero.specs.declared.call.ZeroCall.TheVariants.{First, Put, PutReady, Take, TakeReady, Wait, ReadyWait, Leave, Ask}
use Rattle.places.specs.declared.place.Place.{Place}
use Rattle.places.specs.declared.place.Place.TheVariants.{Idle, Array, Zero, Done}
use Rattle.saved.specs.declared.place.Numbers.{Numbers}

-- A code, and up to two saved numbers: a message or a length's tail first, a position, deadline or partner second.
abbrev pub numbers : ℕ → ℕ → ℕ → Numbers
numbers c a b = record { code = c; first = a; second = b }

abbrev pub send_numbers : SendPlace → Numbers
send_numbers (send.LoadTail m) = numbers 0x1a m 0
send_numbers (send.LoadStamp m tail) = numbers 0x1b m tail.0
send_numbers (send.ClaimTail m tail) = numbers 0x1c m tail.0
send_numbers (send.LoadHead m tail) = numbers 0x1d m tail.0
send_numbers (send.StoreMessage m tail) = numbers 0x1e m tail.0
send_numbers (send.StoreStamp tail) = numbers 0x1f 0 tail.0

abbrev pub receive_numbers : ReceivePlace → Numbers
receive_numbers receive.LoadHead = numbers 0x2a 0 0
receive_numbers (receive.LoadStamp head) = numbers 0x2b 0 head.0
receive_numbers (receive.ClaimHead head) = numbers 0x2c 0 head.0
receive_numbers (receive.LoadTail head) = numbers 0x2d 0 head.0
receive_numbers (receive.TakeMessage head) = numbers 0x2e 0 head.0
receive_numbers (receive.StoreStamp head m) = numbers 0x2f m head.0

abbrev pub len_numbers : LenPlace → Numbers
len_numbers len.LoadTail = numbers 0x5a 0 0
len_numbers (len.LoadHead tail) = numbers 0x5b tail.0 0
len_numbers (len.LoadTailAgain tail head) = numbers 0x5c tail.0 head.0

abbrev pub is_empty_numbers : IsEmptyPlace → Numbers
is_empty_numbers is_empty.LoadHead = numbers 0x6a 0 0
is_empty_numbers (is_empty.LoadTail head) = numbers 0x6b head.0 0

abbrev pub is_full_numbers : IsFullPlace → Numbers
is_full_numbers is_full.LoadTail = numbers 0x7a 0 0
is_full_numbers (is_full.LoadHead tail) = numbers 0x7b tail.0 0

abbrev pub array_numbers : ArrayCall → Numbers
array_numbers (Send p) = send_numbers p
array_numbers (Receive p) = receive_numbers p
array_numbers (Len p) = len_numbers p
array_numbers (IsEmpty p) = is_empty_numbers p
array_numbers (IsFull p) = is_full_numbers p
array_numbers IsDisconnected = numbers 0x8a 0 0
array_numbers Disconnect = numbers 0x9a 0 0

abbrev pub first_numbers : Offer → Limit → Numbers
first_numbers (offer.Send m) Try = numbers 0x10 m 0
first_numbers (offer.Send m) (Until d) = numbers 0x30 m d.0
first_numbers offer.Receive Try = numbers 0x20 0 0
first_numbers offer.Receive (Until d) = numbers 0x40 0 d.0

abbrev pub ask_numbers : Question → Numbers
ask_numbers ask.Len = numbers 0x50 0 0
ask_numbers ask.IsEmpty = numbers 0x60 0 0
ask_numbers ask.IsFull = numbers 0x70 0 0
ask_numbers ask.IsDisconnected = numbers 0x80 0 0
ask_numbers ask.Disconnect = numbers 0x90 0 0

abbrev pub on_side : Side → ℕ → ℕ → ℕ
on_side Sender s r = s
on_side Receiver s r = r

-- What a `try_` call and a waiting call do once they have found or joined is the same: it has the waiting call's digit.
abbrev pub zero_numbers : ZeroCall → Numbers
zero_numbers (First o l) = first_numbers o l
zero_numbers (Put v m) = numbers 0x31 m v.0
zero_numbers (PutReady v) = numbers 0x32 0 v.0
zero_numbers (Take v) = numbers 0x41 0 v.0
zero_numbers (TakeReady v m) = numbers 0x42 m v.0
zero_numbers (Wait σ d) = numbers (on_side σ 0x33 0x43) 0 d.0
zero_numbers (ReadyWait σ) = numbers (on_side σ 0x34 0x44) 0 0
zero_numbers (Leave σ) = numbers (on_side σ 0x35 0x45) 0 0
zero_numbers (Ask q) = ask_numbers q

abbrev pub place_numbers : Place → Numbers
place_numbers Idle = numbers 0 0 0
place_numbers (Array k) = array_numbers k
place_numbers (Zero k) = zero_numbers k
place_numbers (Done a) = numbers (0xd0 + kind_of a) (value_of a) 0
