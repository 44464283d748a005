-- `nakvisk::plan_calls::nakvisk_convert_by_plan` meets its contract.
use Rattle.common.specs.Logic.{◌∙◌}
use Rattle.plans.specs.Records.{plan_of}
use Rattle.nakvisk.specs.Calls.{range_given}
use Rattle.nakvisk.proofs.Calls.{number-returned, zero-returned, before-left, value-left, not-done, done-by, lost-refused, lost-got}
use Rattle.nakvisk.proofs.plan_calls.nakvisk_convert_by_plan.Goals as goal

pub returns-in-Ok-clause-answer : goal.returns-in-Ok-clause-answer
returns-in-Ok-clause-answer c = zero-returned (done-by _ _ (rw (c.into.ensures, c.into-2.ensures) at c.in-Ok.ensures.answer)).1

pub returns-in-Ok-clause-lost : goal.returns-in-Ok-clause-lost
returns-in-Ok-clause-lost c =
    let d = done-by _ _ (rw (c.into.ensures, c.into-2.ensures) at c.in-Ok.ensures.answer) in
    d.2 ∙ value-left _ (lost-got (plan_of c.args.plan) c.args.source.now (range_given c.args.source_range) c.args.target.now (range_given c.args.target_range) d.1)

pub returns-in-Err-clause-answer : goal.returns-in-Err-clause-answer
returns-in-Err-clause-answer c = c.number.ensures ∙ number-returned (not-done _ _ (rw (c.into.ensures, c.into-2.ensures) at c.in-Err.ensures.answer))

pub returns-in-Err-clause-lost : goal.returns-in-Err-clause-lost
returns-in-Err-clause-lost c = before-left _ (lost-refused (plan_of c.args.plan) c.args.source.now (range_given c.args.source_range) c.args.target.now (range_given c.args.target_range) (not-done _ _ (rw (c.into.ensures, c.into-2.ensures) at c.in-Err.ensures.answer)))
