-- The table of refusals, and what a public call replies.
use Rattle.std.specs.Prelude.{ℕ, Option, Result}
use Rattle.channel.specs.declared.answer.Answer.{Answer}
use Rattle.bounds.specs.declared.refusal.Refusal.{Refusal}
use Rattle.bounds.specs.declared.refusal.Refusal.TheVariants.{OutOfForm, Capacity, ThreadCount, NoSuchThread, NotIdle, NotRunning, UnknownCall, StepLimit, ClockLimit, NoAnswer, Malformed, NoChannel, TooLong, NoExchange}

abbrev pub number_of : Refusal → ℕ
number_of OutOfForm = 1
number_of Capacity = 2
number_of ThreadCount = 3
number_of NoSuchThread = 4
number_of NotIdle = 5
number_of NotRunning = 6
number_of UnknownCall = 7
number_of StepLimit = 8
number_of ClockLimit = 9
number_of NoAnswer = 10
number_of Malformed = 11
number_of NoChannel = 12
number_of TooLong = 13
number_of NoExchange = 14

-- Accepted, with the answer where it was a take; or refused.
abbrev pub Reply : Type 0
Reply = Result (Option Answer) Refusal
