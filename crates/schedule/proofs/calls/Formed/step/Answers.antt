-- A step on the channel relies on what the form tells of the call that goes on.
use mathlib.Core.Path.{◌≡◌}
use lib.ListN.{length}
use borrow.Author.Rules.{rules}
use Rattle.std.specs.Prelude.{Ok}
use Rattle.waker.specs.Context.{threads}
use Rattle.waker.proofs.WakerLaws.{length_mapped}
use Rattle.channel.specs.Position.{slots}
use Rattle.turns.specs.declared.Running.TheVariants.{Array, Zero}
use Rattle.schedule.specs.Calls.{running_in}
use Rattle.schedule.proofs.InFormLaws.{array_ready, zero_ready}
use Rattle.schedule.proofs.calls.Formed.step.Goals as goal

pub invariant_of-fit : goal.invariant_of-fit
invariant_of-fit c =
    let l : length c.args.self.given.array.stamps ≡ slots = search (rules, length_mapped) in
    let e : running_in c.args.self.given c.args.thread ≡ Ok (Array c.in-Ok-Array.call) =
    cc (c.running.ensures, c.in-Ok-Array.is, c.in-Ok-Array.field-0-is) in
    record { sized = (array_ready c.args.self.given c.args.self.form l c.args.thread _ e).0 }

pub make_step-requires : goal.make_step-requires
make_step-requires c =
    let l : length c.args.self.given.array.stamps ≡ slots = search (rules, length_mapped) in
    let e : running_in c.args.self.given c.args.thread ≡ Ok (Array c.in-Ok-Array.call) =
    cc (c.running.ensures, c.in-Ok-Array.is, c.in-Ok-Array.field-0-is) in
    let b = array_ready c.args.self.given c.args.self.form l c.args.thread _ e in
    record { array = b.1; saved = b.2 }

pub make_step-requires-in-Ok-Zero : goal.make_step-requires-in-Ok-Zero
make_step-requires-in-Ok-Zero c =
    let m : length c.args.self.given.zero.wakers.senders.selectors ≡ threads = search (rules, length_mapped) in
    let l : length c.args.self.given.zero.wakers.receivers.selectors ≡ threads = search (rules, length_mapped) in
    let e : running_in c.args.self.given c.args.thread ≡ Ok (Zero c.in-Ok-Zero.call) =
    cc (c.running.ensures, c.in-Ok-Zero.is, c.in-Ok-Zero.field-0-is) in
    zero_ready c.args.self.given c.args.self.form m l c.args.thread _ e
