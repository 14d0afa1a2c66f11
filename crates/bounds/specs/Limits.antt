-- The bounds of the rules, and the refusals that stand on them alone: 2, 3, 4, 8 and 9.
use Rattle.std.specs.Prelude.{ℕ, ◌+◌, Bool, true, ◌&&◌, nat_lt, nat_le, if◌then◌else◌, Result, Ok, Err, ⊤}
use Rattle.waker.specs.Context.{threads}
use Rattle.waker.specs.declared.context.Thread.{Thread}
use Rattle.channel.specs.Answer.{ticks}
use Rattle.channel.specs.Position.{slots}
use Rattle.channel.specs.declared.answer.Tick.{Tick}
use Rattle.bounds.specs.declared.flavour.Flavour.{Flavour}
use Rattle.bounds.specs.declared.flavour.Flavour.TheVariants.{Zero, Array}
use Rattle.bounds.specs.declared.refusal.Refusal.{Refusal}
use Rattle.bounds.specs.declared.refusal.Refusal.TheVariants.{Capacity, ThreadCount, NoSuchThread, StepLimit, ClockLimit}

-- 1,000,000 steps a record; the clock is at most fffffffe.
abbrev pub step_limit : ℕ
step_limit = 1_000_000

abbrev pub clock_limit : ℕ
clock_limit = 0xffff_fffe

-- Array capacity 1 to 64.
abbrev pub capacity_fits : Flavour → ℕ → Bool
capacity_fits Zero c = true
capacity_fits Array c = nat_le 1 c && nat_le c slots

-- Threads 1 to 8; a rendezvous has at least 2.
abbrev pub fewest : Flavour → ℕ
fewest Zero = 2
fewest Array = 1

abbrev pub count_fits : Flavour → ℕ → Bool
count_fits f n = nat_le (fewest f) n && nat_le n threads

-- These bounds hold of a record's threads, steps and clock.
abbrev pub bounds_hold : Flavour → ℕ → ℕ → Tick → Bool
bounds_hold f n s c = count_fits f n && nat_le s step_limit && nat_le c.0 clock_limit

-- 2: array capacity 0 or above 64. 3: thread count 0 or above 8, or below 2 on a rendezvous.
abbrev pub making : Flavour → ℕ → ℕ → Result ⊤ Refusal
making f c n =
    if capacity_fits f c then (if count_fits f n then Ok tt else Err ThreadCount) else Err Capacity

-- 4: no such thread.
abbrev pub naming : ℕ → Thread → Result ⊤ Refusal
naming n t = if nat_le n t.0 then Err NoSuchThread else Ok tt

-- 8: 1,000,000 steps made.
abbrev pub stepping : ℕ → Result ⊤ Refusal
stepping s = if nat_le step_limit s then Err StepLimit else Ok tt

-- Every step is counted, an idle poll and a failed exchange too.
abbrev pub one_more : ℕ → ℕ
one_more s = s + 1

-- 9: clock plus ticks exceeds fffffffe.
abbrev pub later : Tick → Tick → Result Tick Refusal
later c n = if nat_lt clock_limit (c.0 + n.0) then Err ClockLimit else Ok (ticks (c.0 + n.0))
