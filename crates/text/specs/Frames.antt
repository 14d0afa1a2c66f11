-- The frame that a line spells: the rules' five forms and the failing exchange `05tt`, by their first two digits. 0x30 to 0x35 are the characters 0 to 5.
use Rattle.std.specs.Prelude.{ℕ, List, ◌==◌, length, slice_index, take, drop, if◌then◌else◌, Option, Some, None, option_map, option_and_then}
use Rattle.channel.specs.Answer.{ticks}
use Rattle.waker.specs.Context.{thread}
use Rattle.waker.specs.declared.context.Thread.{Thread}
use Rattle.text.specs.Hex.{hex_of}
use Rattle.text.specs.declared.frame.Frame.{Frame}
use Rattle.text.specs.declared.frame.Frame.TheVariants.{Header, Begin, Step, Advance, Take, Fail}

-- What follows from a number; without one the line is malformed.
abbrev pub given : Option ℕ → (ℕ → Option Frame) → Option Frame
given n f = option_and_then f n

-- `00cctt`, by what follows its first two digits; so are those below.
unfoldable pub header_of : List ℕ → Option Frame
header_of s =
    if length s == 4 then given (hex_of 0 (take 2 s)) (λ c. given (hex_of 0 (drop 2 s)) (λ n. Some (Header c n)))
    else None

-- `01ttoommmmmmmmdddddddd`
unfoldable pub begin_of : List ℕ → Option Frame
begin_of s =
    if length s == 20 then
    given (hex_of 0 (take 2 s)) (λ t.
    given (hex_of 0 (take 2 (drop 2 s))) (λ o.
    given (hex_of 0 (take 8 (drop 4 s))) (λ m.
    given (hex_of 0 (drop 12 s)) (λ d. Some (Begin (thread t) o m (ticks d))))))
    else None

-- `03nnnnnnnn`
unfoldable pub advance_of : List ℕ → Option Frame
advance_of s = if length s == 8 then given (hex_of 0 s) (λ n. Some (Advance (ticks n))) else None

-- `tt` alone, behind 02, 04 and 05
unfoldable pub thread_of : List ℕ → Option Thread
thread_of s = if length s == 2 then option_map thread (hex_of 0 s) else None

-- The second digit names the form.
unfoldable pub form_of : ℕ → List ℕ → Option Frame
form_of k s =
    if k == 0x30 then header_of s
    else if k == 0x31 then begin_of s
    else if k == 0x32 then option_map Step (thread_of s)
    else if k == 0x33 then advance_of s
    else if k == 0x34 then option_map Take (thread_of s)
    else if k == 0x35 then option_map Fail (thread_of s)
    else None

-- The first digit of every form is 0, and a malformed line spells no frame. Past its end a short line reads as byte 0, which is no digit and names no form.
unfoldable pub parse_of : List ℕ → Option Frame
parse_of l = if slice_index l 0 == 0x30 then form_of (slice_index l 1) (drop 2 l) else None

-- The thread whose step a frame is.
abbrev pub step_thread : Option Frame → Option Thread
step_thread (Some (Step t)) = Some t
step_thread _ = None
