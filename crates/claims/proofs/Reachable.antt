-- The law is about something: a history of a fresh array of capacity 1 for each premise, and for a call's own claims and counts.
use Prim.Native.Nat.{ℕ}
use mathlib.Core.Path.{◌≡◌, refl}
use mathlib.Core.List.{List, [], ◌∷◌, ◌++◌}
use lib.ListN.{replicate}
use Rattle.std.specs.Prelude.{Some}
use Rattle.waker.specs.Context.{thread}
use Rattle.waker.specs.Waker.{queue_of}
use Rattle.channel.specs.Answer.{ticks}
use Rattle.channel.specs.Position.{doubled_to, mark_of, successor, unmarked}
use Rattle.array.specs.Array.{stamps_from}
use Rattle.channel.specs.Position.{length_of}
use Rattle.channel.specs.declared.answer.Answer.{Answer}
use Rattle.channel.specs.declared.answer.Answer.TheVariants.{Sent, Received, Full, Empty, Disconnected, Number, Yes, No}
use Rattle.bounds.specs.Tests.{all_below}
use Rattle.schedule.specs.Record.{place_of, accepted_as}
use Rattle.schedule.specs.Making.{made_array, fresh_array_record}
use Rattle.places.specs.Begin.{code_of, no_deadline}
use Rattle.forms.specs.FormSaved.{shape_in_form, tail_in_form, word_in_form, slot_in_form}
use Rattle.forms.specs.FormWaits.{stands_on, times_in, entry_in_form, queue_in_form}
use Rattle.schedule.specs.Form.{array_in_form, zero_in_form, slots_in_form, queues_in_form, stands_in_form, thread_in_form, threads_in_form, in_form}
use Rattle.schedule.specs.Calls.{begun, begun_in_form, stepped, stepped_in_form, failed, failed_in_form, taken, taken_in_form}
use Rattle.schedule.specs.History.{Act, begins, steps, fails, takes, Moment, reached, updated}
use Rattle.places.specs.declared.begin.Code.{Code}
use Rattle.places.specs.declared.begin.Code.TheVariants.{TrySend, TryReceive, Len, IsEmpty, IsFull}
use Rattle.places.specs.declared.place.Place.TheVariants.{Done}
use Rattle.claims.specs.Claims.{Past, moment_after}

-- A call of thread t, by the number of its code, in n steps, its answer left.
abbrev call : ℕ → ℕ → ℕ → ℕ → List Act
call t x m n = begins (thread t) x m (ticks no_deadline) ∷ replicate n (steps (thread t))

-- The same, with an exchange that fails after its second step.
abbrev failing : ℕ → ℕ → ℕ → ℕ → List Act
failing t x m n = call t x m 2 ++ (fails (thread t) ∷ replicate n (steps (thread t)))

-- A call in one go, and its answer taken: thread 0 sends m, thread 1 receives, thread 0 disconnects.
abbrev whole : ℕ → ℕ → ℕ → ℕ → List Act
whole t x m n = call t x m n ++ (takes (thread t) ∷ [])

abbrev sent : ℕ → List Act
sent m = whole 0 1 m 5

abbrev received : List Act
received = whole 1 2 0 5

abbrev disconnected : List Act
disconnected = whole 0 9 0 1

abbrev moment : List Act → Moment Past
moment l = moment_after (fresh_array_record 1 2) l

-- Thread 1's call has this code and this answer.
abbrev Answers : List Act → Code → Answer → Type 0
Answers l k a = (place_of (moment l).now 1 ≡ Done a) × (((moment l).past.calls 1).code ≡ Some k)

pub record Reachable : Type 0 where
  pub fresh : made_array 1 2 ≡ accepted_as (fresh_array_record 1 2)
  pub takes_first : (moment (sent 42 ++ received ++ sent 43 ++ received)).past.claims.took 0 ≡ 42 ∷ []
  pub takes_second : (moment (sent 42 ++ received ++ sent 43 ++ received)).past.claims.took 1 ≡ 43 ∷ []
  pub receives : Answers (sent 42 ++ call 1 2 0 5) TryReceive (Received 42)
  pub sends : Answers (call 1 1 7 5) TrySend Sent
  pub full : Answers (sent 42 ++ call 1 1 7 3) TrySend (Full 7)
  pub empty : Answers (call 1 2 0 3) TryReceive Empty
  pub send_disconnected : Answers (disconnected ++ call 1 1 7 1) TrySend (Disconnected 7)
  pub receive_disconnected : Answers (disconnected ++ call 1 2 0 3) TryReceive (Disconnected 0)
  pub number : Answers (sent 42 ++ call 1 5 0 3) Len (Number 1)
  pub is_empty : Answers (call 1 6 0 2) IsEmpty Yes
  pub is_not_empty : Answers (sent 42 ++ call 1 6 0 2) IsEmpty No
  pub is_full : Answers (sent 42 ++ call 1 7 0 2) IsFull Yes
  pub is_not_full : Answers (call 1 7 0 2) IsFull No
  -- The claims of a call are its own.
  pub send_claims_lem : ((moment (sent 42 ++ received ++ call 0 1 43 5)).past.calls 0).send_claims ≡ 1 ∷ []
  pub receive_claims_lem : ((moment (sent 42 ++ received ++ sent 43 ++ call 1 2 0 5)).past.calls 1).receive_claims ≡ 1 ∷ []
  -- The moments of a call are its own, from its begin on, with every step between.
  pub counts : ((moment (sent 42 ++ received ++ call 1 5 0 1 ++ sent 43)).past.calls 1).counts ≡ 1 ∷ 1 ∷ 1 ∷ 0 ∷ 0 ∷ 0 ∷ 0 ∷ []
  -- A failed exchange claims nothing, is a moment of its call, and the call goes round; at another place it is refused and no moment.
  pub fails_first : ((moment (failing 1 1 7 0)).past.calls 1).send_claims ≡ []
  pub fails_and_sends : Answers (failing 1 1 7 5) TrySend Sent
  pub fails_and_receives : Answers (sent 42 ++ failing 1 2 0 5) TryReceive (Received 42)
  pub failure_counts : ((moment (failing 1 1 7 0)).past.calls 1).counts ≡ 0 ∷ 0 ∷ 0 ∷ 0 ∷ []
  pub refused_counts : ((moment (call 1 1 7 1 ++ (fails (thread 1) ∷ []))).past.calls 1).counts ≡ 0 ∷ 0 ∷ []

pub reachable : Reachable
unfolding queue_of doubled_to mark_of successor unmarked stamps_from length_of all_below made_array code_of shape_in_form tail_in_form word_in_form slot_in_form stands_on times_in entry_in_form queue_in_form array_in_form zero_in_form slots_in_form queues_in_form stands_in_form thread_in_form threads_in_form in_form begun begun_in_form stepped stepped_in_form failed failed_in_form taken taken_in_form reached updated
reachable =
    record {
      fresh = refl;
      takes_first = refl;
      takes_second = refl;
      receives = (refl, refl);
      sends = (refl, refl);
      full = (refl, refl);
      empty = (refl, refl);
      send_disconnected = (refl, refl);
      receive_disconnected = (refl, refl);
      number = (refl, refl);
      is_empty = (refl, refl);
      is_not_empty = (refl, refl);
      is_full = (refl, refl);
      is_not_full = (refl, refl);
      send_claims_lem = refl;
      receive_claims_lem = refl;
      counts = refl;
      fails_first = refl;
      fails_and_sends = (refl, refl);
      fails_and_receives = (refl, refl);
      failure_counts = refl;
      refused_counts = refl;
    }
