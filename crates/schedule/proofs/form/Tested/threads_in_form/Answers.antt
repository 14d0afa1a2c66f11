-- The chain tests every thread.
use Rattle.std.proofs.Common.{rules, tests, refl}
use Rattle.std.proofs.lemmas.Iterator.{YieldsList-from_range}
use Rattle.std.proofs.lemmas.Iterator.Search.{all_from_yields_List}
use Rattle.bounds.specs.Tests.{all_below}
use Rattle.waker.specs.Context.{threads}
use Rattle.schedule.specs.Form.{thread_in_form, threads_in_form}
use Rattle.schedule.proofs.form.Tested.threads_in_form.Goals as goal

pub returns : goal.returns
unfolding threads_in_form all_below
returns c =
    all_from_yields_List (thread_in_form c.args.self.given.now) _ _ c.all.result c.all.ensures.ran
    (YieldsList-from_range 0 threads threads refl refl)
    (λ x b q k. search (rules, tests))
