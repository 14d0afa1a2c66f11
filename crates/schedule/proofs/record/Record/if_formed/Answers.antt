-- The call was made on the record in form.
use Rattle.std.proofs.Common.{rules}
use Rattle.schedule.proofs.record.Record.if_formed.Goals as goal

pub returns-in-Some-clause-made : goal.returns-in-Some-clause-made
returns-in-Some-clause-made g c = λ p. (c.in-Some.formed, (search rules, c.call.ensures))
