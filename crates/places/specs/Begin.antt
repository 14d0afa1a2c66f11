-- The call codes, and the first place of each call on each channel.
use Rattle.std.specs.Prelude.{ℕ, Bool, true, false, ◌||◌, ◌==◌, if◌then◌else◌, Option, Some, None, option_map, Result, Ok, Err}
use Rattle.channel.specs.declared.answer.Tick.{Tick}
use Rattle.array.specs.declared.call.SendPlace.TheVariants as send
use Rattle.array.specs.declared.call.ReceivePlace.TheVariants as receive
use Rattle.array.specs.declared.call.LenPlace.TheVariants as len
use Rattle.array.specs.declared.call.IsEmptyPlace.TheVariants as is_empty
use Rattle.array.specs.declared.call.IsFullPlace.TheVariants as is_full
use Rattle.array.specs.declared.call.ArrayCall.{ArrayCall}
use Rattle.array.specs.declared.call.ArrayCall.TheVariants as array
use Rattle.zero.specs.declared.call.Offer.TheVariants as offer
use Rattle.zero.specs.declared.call.Limit.TheVariants.{Try, Until}
use Rattle.zero.specs.declared.call.Question.TheVariants as ask
use Rattle.zero.specs.declared.call.ZeroCall.{ZeroCall}
use Rattle.zero.specs.declared.call.ZeroCall.TheVariants.{First, Ask}
use Rattle.bounds.specs.declared.flavour.Flavour.{Flavour}
use Rattle.bounds.specs.declared.flavour.Flavour.TheVariants as flavour
use Rattle.places.specs.declared.place.Place.{Place}
use Rattle.places.specs.declared.place.Place.TheVariants.{Array, Zero}
use Rattle.places.specs.declared.begin.Code.{Code}
use Rattle.places.specs.declared.begin.Code.TheVariants.{TrySend, TryReceive, Send, Receive, Len, IsEmpty, IsFull, IsDisconnected, Disconnect}
use Rattle.places.specs.declared.begin.UnknownCode.{UnknownCode}

-- Deadline ffffffff means none.
abbrev pub no_deadline : ℕ
no_deadline = 0xffff_ffff

unfoldable pub code_of : ℕ → Result Code UnknownCode
code_of n =
    if n == 1 then Ok TrySend
    else if n == 2 then Ok TryReceive
    else if n == 3 then Ok Send
    else if n == 4 then Ok Receive
    else if n == 5 then Ok Len
    else if n == 6 then Ok IsEmpty
    else if n == 7 then Ok IsFull
    else if n == 8 then Ok IsDisconnected
    else if n == 9 then Ok Disconnect
    else Err (record { 0 = n })

-- The message that a call carries: that of a call that sends nothing is ignored.
abbrev pub carried_by : Result Code UnknownCode → ℕ → ℕ
carried_by (Ok TrySend) m = m
carried_by (Ok TryReceive) m = 0
carried_by (Ok Send) m = m
carried_by (Ok Receive) m = 0
carried_by (Ok Len) m = 0
carried_by (Ok IsEmpty) m = 0
carried_by (Ok IsFull) m = 0
carried_by (Ok IsDisconnected) m = 0
carried_by (Ok Disconnect) m = 0
carried_by (Err n) m = 0

-- The calls that wait.
abbrev pub waits : Code → Bool
waits TrySend = false
waits TryReceive = false
waits Send = true
waits Receive = true
waits Len = false
waits IsEmpty = false
waits IsFull = false
waits IsDisconnected = false
waits Disconnect = false

-- A deadline other than ffffffff is for send and receive alone.
abbrev pub takes : Code → Tick → Bool
takes c d = waits c || d.0 == no_deadline

abbrev pub array_call : Code → ℕ → Option ArrayCall
array_call TrySend m = Some (array.Send (send.LoadTail m))
array_call TryReceive m = Some (array.Receive receive.LoadHead)
array_call Send m = None
array_call Receive m = None
array_call Len m = Some (array.Len len.LoadTail)
array_call IsEmpty m = Some (array.IsEmpty is_empty.LoadHead)
array_call IsFull m = Some (array.IsFull is_full.LoadTail)
array_call IsDisconnected m = Some array.IsDisconnected
array_call Disconnect m = Some array.Disconnect

-- Send and receive on a rendezvous begin with their first section.
abbrev pub zero_call : Code → ℕ → Tick → ZeroCall
zero_call TrySend m d = First (offer.Send m) Try
zero_call TryReceive m d = First offer.Receive Try
zero_call Send m d = First (offer.Send m) (Until d)
zero_call Receive m d = First offer.Receive (Until d)
zero_call Len m d = Ask ask.Len
zero_call IsEmpty m d = Ask ask.IsEmpty
zero_call IsFull m d = Ask ask.IsFull
zero_call IsDisconnected m d = Ask ask.IsDisconnected
zero_call Disconnect m d = Ask ask.Disconnect

abbrev pub first_place : Flavour → Code → ℕ → Tick → Option Place
first_place flavour.Array c m d = option_map Array (array_call c m)
first_place flavour.Zero c m d = Some (Zero (zero_call c m d))

abbrev pub started_as : Flavour → Result Code UnknownCode → ℕ → Tick → Option Place
started_as f (Ok c) m d = if takes c d then first_place f c m d else None
started_as f (Err n) m d = None

abbrev pub started : Flavour → ℕ → ℕ → Tick → Option Place
started f n m d = started_as f (code_of n) m d
