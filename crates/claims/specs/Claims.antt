-- What a history has claimed on an array, read off its accepted calls.
use Rattle.std.specs.Prelude.{ℕ, ◌+◌, ◌-◌, Option, Some, None, Result, List, [], ◌∷◌, get_or}
use Rattle.std.specs.Result.{result_ok}
use Rattle.array.specs.Array.{outcome_of}
use Rattle.array.specs.declared.outcome.ArrayEffect.{ArrayEffect}
use Rattle.array.specs.declared.outcome.ArrayEffect.TheVariants.{ClaimSend, ClaimReceive, StoreMessage, TakeMessage, StoreStamp, MarkTail}
use Rattle.schedule.specs.Record.{place_of}
use Rattle.places.specs.Begin.{code_of, carried_by}
use Rattle.schedule.specs.History.{Act, begins, steps, fails, advances, takes, Moment, reached, updated}
use Rattle.places.specs.declared.begin.Code.{Code}
use Rattle.places.specs.declared.begin.UnknownCode.{UnknownCode}
use Rattle.places.specs.declared.place.Place.{Place}
use Rattle.places.specs.declared.place.Place.TheVariants.{Idle, Array, Zero, Done}
use Rattle.schedule.specs.declared.record.Record.{Record}

-- A claim is the exchange at C that succeeds. Send claims count from 0 in their order, and so do receive claims.
pub record Claims : Type 0 where
  -- How many there have been.
  pub sends : ℕ
  pub receives : ℕ
  -- Of send claim n, the message of the call that made it.
  pub message : ℕ → ℕ
  -- Of receive claim n, what it has taken (at E), newest first.
  pub took : ℕ → List ℕ

-- A call: its code (none before the first) and the message that it carries, as begun; what send claims minus receive claims came to at its moments, and
-- the claims that it has made, newest first.
pub record Call : Type 0 where
  pub code : Option Code
  pub carried : ℕ
  pub counts : List ℕ
  pub send_claims : List ℕ
  pub receive_claims : List ℕ

-- The claims, and each thread's latest call.
pub record Past : Type 0 where
  pub claims : Claims
  pub calls : ℕ → Call

-- Send claims minus receive claims; there are never more of these (the law's clause `balance`).
abbrev pub count : Claims → ℕ
count c = c.sends - c.receives

-- What a call takes belongs to its newest receive claim (to the first of all if it has none).
abbrev pub newest : Call → ℕ
newest a = get_or a.receive_claims 0 0

-- What a call's step with an effect makes of the claims and of the call; the record is the one before the step.
module _ (r : Record) (c : Claims) (a : Call) where
  abbrev pub claimed_send : Claims × Call
  claimed_send = (
    record {
      sends = c.sends + 1;
      receives = c.receives;
      message = updated c.message c.sends a.carried;
      took = c.took;
    },
    record {
      code = a.code;
      carried = a.carried;
      counts = a.counts;
      send_claims = c.sends ∷ a.send_claims;
      receive_claims = a.receive_claims;
    },
  )

  abbrev pub claimed_receive : Claims × Call
  claimed_receive = (
    record { sends = c.sends; receives = c.receives + 1; message = c.message; took = c.took },
    record {
      code = a.code;
      carried = a.carried;
      counts = a.counts;
      send_claims = a.send_claims;
      receive_claims = c.receives ∷ a.receive_claims;
    },
  )

  abbrev pub took_message : ℕ → Claims
  took_message m =
      record {
        sends = c.sends;
        receives = c.receives;
        message = c.message;
        took = updated c.took (newest a) (m ∷ c.took (newest a));
      }

  abbrev pub made : ArrayEffect → Claims × Call
  made (ClaimSend w) = claimed_send
  made (ClaimReceive w) = claimed_receive
  made (StoreMessage i m) = (c, a)
  made (TakeMessage i) = (took_message (get_or r.array.messages i 0), a)
  made (StoreStamp i w) = (c, a)
  made (MarkTail w) = (c, a)

  abbrev pub made_by : Option ArrayEffect → Claims × Call
  made_by None = (c, a)
  made_by (Some e) = made e

  abbrev pub made_at : Place → Claims × Call
  made_at Idle = (c, a)
  made_at (Array k) = made_by (outcome_of r.shape r.array k).effect
  made_at (Zero k) = (c, a)
  made_at (Done x) = (c, a)

abbrev pub with_count : ℕ → Call → Call
with_count n a =
    record {
      code = a.code;
      carried = a.carried;
      counts = n ∷ a.counts;
      send_claims = a.send_claims;
      receive_claims = a.receive_claims;
    }

-- The moments of a call go from its begin to the step that answers.
abbrev pub with_moment : Place → ℕ → Call → Call
with_moment Idle n a = a
with_moment (Array k) n a = with_count n a
with_moment (Zero k) n a = with_count n a
with_moment (Done x) n a = a

-- A step of thread t that makes x of the claims and of its call is a moment of every call that runs.
abbrev pub stepped_past : Record → Past → ℕ → Claims × Call → Past
stepped_past r h t x =
    record { claims = x.0; calls = λ u. with_moment (place_of r u) (count x.0) (updated h.calls t x.1 u) }

-- A call that begins has made no claim.
abbrev pub begun_call : Result Code UnknownCode → ℕ → List ℕ → Call
begun_call k m l = record { code = result_ok k; carried = carried_by k m; counts = l; send_claims = []; receive_claims = [] }

-- What an accepted call adds; an exchange that fails is a step that claims nothing.
abbrev pub rule : Record → Past → Act → Past
rule r h (begins t x m d) =
    record {
      claims = h.claims;
      calls = updated h.calls t.0 (begun_call (code_of x) m (count h.claims ∷ []));
    }
rule r h (steps t) = stepped_past r h t.0 (made_at r h.claims (h.calls t.0) (place_of r t.0))
rule r h (fails t) = stepped_past r h t.0 (h.claims, h.calls t.0)
rule r h (advances n) = h
rule r h (takes t) = h

-- Nothing yet.
abbrev pub nothing : Past
nothing =
    record {
      claims = record { sends = 0; receives = 0; message = λ n. 0; took = λ n. [] };
      calls = λ t. record { code = None; carried = 0; counts = []; send_claims = []; receive_claims = [] };
    }

-- The moment after a history from a record.
abbrev pub moment_after : Record → List Act → Moment Past
moment_after r l = reached rule (record { now = r; past = nothing }) l
