-- `nakvisk::sheet_calls::nakvisk_convert` meets its contract: the conversion by the plan that was read, and what it lost.
use Rattle.common.specs.Logic.{◌∙◌, ap, List, ℕ}
use Rattle.common.specs.Refusal.{Outcome, answer_of, left_by}
use Rattle.nakvisk.specs.Calls.{number_in, range_given}
use Rattle.nakvisk.proofs.Calls.{number-returned, before-left, conversion-refused, conversion-by, no-lost, lost-by}
use Rattle.nakvisk.proofs.sheet_calls.nakvisk_convert.Goals as goal

pub returns-in-Ok-clause-answer : goal.returns-in-Ok-clause-answer
returns-in-Ok-clause-answer c =
    c.nakvisk_convert_by_plan.ensures.answer ∙ ap (λ (o : Outcome (List ℕ)). number_in (answer_of o)) (conversion-by _ c.in-Ok.ensures c.args.source.now (range_given c.args.source_range) c.args.target.now (range_given c.args.target_range))

pub returns-in-Ok-clause-bytes : goal.returns-in-Ok-clause-bytes
returns-in-Ok-clause-bytes c =
    c.nakvisk_convert_by_plan.ensures.bytes ∙ ap (left_by c.args.target.now) (conversion-by _ c.in-Ok.ensures c.args.source.now (range_given c.args.source_range) c.args.target.now (range_given c.args.target_range))

pub returns-in-Ok-clause-lost : goal.returns-in-Ok-clause-lost
returns-in-Ok-clause-lost c =
    c.nakvisk_convert_by_plan.ensures.lost ∙ ap (left_by c.args.lost.now) (lost-by _ c.in-Ok.ensures c.args.source.now (range_given c.args.source_range) c.args.target.now (range_given c.args.target_range))

pub returns-in-Err-clause-answer : goal.returns-in-Err-clause-answer
returns-in-Err-clause-answer c = c.number.ensures ∙ number-returned (conversion-refused _ c.in-Err.ensures c.args.source.now (range_given c.args.source_range) c.args.target.now (range_given c.args.target_range))

pub returns-in-Err-clause-bytes : goal.returns-in-Err-clause-bytes
returns-in-Err-clause-bytes c = before-left _ (conversion-refused _ c.in-Err.ensures c.args.source.now (range_given c.args.source_range) c.args.target.now (range_given c.args.target_range))

pub returns-in-Err-clause-lost : goal.returns-in-Err-clause-lost
returns-in-Err-clause-lost c = before-left _ (no-lost _ c.in-Err.ensures c.args.source.now (range_given c.args.source_range) c.args.target.now (range_given c.args.target_range))
