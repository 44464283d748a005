-- `point_blocks::convert_block` meets its contract: the conversion of none of the points gives the answer, and then all of them are
-- converted into the cleared target.
use Rattle.common.specs.Logic.{◌∙◌, sym, ap, rules, List, ℕ, length}
use Rattle.common.specs.Refusal.{accepts, answered}
use Rattle.common.proofs.Refusals.{answer-refused}
use Rattle.plans.specs.Records.{plan_of}
use Rattle.buffer_conversion.specs.Lost.{lost_counts}
use Rattle.buffer_conversion.proofs.LostCounts.{refused-with}
use Rattle.point_blocks.specs.Blocks.{zeros, whole}
use Rattle.point_blocks.proofs.Checked.{none-answer, none-refused, length-left, cleared-answer, cleared-bytes}
use Rattle.point_blocks.proofs.convert_block.Goals as goal

pub returns-in_err-convert_into_range_uncounted-clause-answer : goal.returns-in_err-convert_into_range_uncounted-clause-answer
returns-in_err-convert_into_range_uncounted-clause-answer c =
    let p = plan_of c.args.plan in
    let e = c.convert_into_range_uncounted.ensures.answer ∙ none-answer p c.args.read c.args.write c.args.count c.args.source.now c.args.target.now in
    rw (← refused-with (lost_counts p (whole c.args.read c.args.count) c.args.source.now) (answer-refused _ e (ap answered c.in_err-convert_into_range_uncounted.was))) (search rules)

pub returns-in_err-convert_into_range_uncounted-clause-bytes : goal.returns-in_err-convert_into_range_uncounted-clause-bytes
returns-in_err-convert_into_range_uncounted-clause-bytes c =
    c.convert_into_range_uncounted.ensures.bytes
    ∙ none-refused (plan_of c.args.plan) c.args.read c.args.write c.args.count c.args.source.now c.args.target.now
    (ap accepts (sym c.convert_into_range_uncounted.ensures.answer ∙ ap answered c.in_err-convert_into_range_uncounted.was))

pub returns-clause-answer : goal.returns-clause-answer
returns-clause-answer c =
    let p = plan_of c.args.plan in
    let e = c.fill.ensures.after (λ y h. h) ∙ ap (λ (l : List ℕ). zeros (length l)) c.convert_into_range_uncounted.ensures.bytes ∙ ap zeros (length-left p c.args.read c.args.write c.args.count c.args.source.now c.args.target.now) in
    c.convert_by_mapping.ensures.answer ∙ cleared-answer p c.args.read c.args.write c.args.count c.args.source.now c.args.target.now e (lost_counts p (whole c.args.read c.args.count) c.args.source.now)

pub returns-clause-bytes : goal.returns-clause-bytes
returns-clause-bytes c =
    let p = plan_of c.args.plan in
    let e = c.fill.ensures.after (λ y h. h) ∙ ap (λ (l : List ℕ). zeros (length l)) c.convert_into_range_uncounted.ensures.bytes ∙ ap zeros (length-left p c.args.read c.args.write c.args.count c.args.source.now c.args.target.now) in
    c.convert_by_mapping.ensures.bytes
    ∙ cleared-bytes p c.args.read c.args.write c.args.count c.args.source.now c.args.target.now e (ap accepts (sym c.convert_into_range_uncounted.ensures.answer ∙ ap answered c.in_ok-convert_into_range_uncounted.was))
