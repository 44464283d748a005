-- `attribute_conversion::attribute::cast_attribute` meets its contract: cast, and counted where it fits.
use Rattle.common.specs.Logic.{◌∙◌, sym}
use Rattle.attribute_conversion.proofs.Lost.{lost-fits, answer-some, answer-none}
use Rattle.attribute_conversion.proofs.attribute.cast_attribute.Goals as goal

pub returns-then-cast_attribute_uncounted-clause-answer : goal.returns-then-cast_attribute_uncounted-clause-answer
returns-then-cast_attribute_uncounted-clause-answer c =
    let e = sym c.cast_attribute_uncounted.ensures.answer ∙ c.if-cast_attribute_uncounted.true in
    answer-some _ _ e (lost-fits c.args.from c.args.to _ _ e c.args.source.now c.lost_attribute.ensures)

pub returns-else-cast_attribute_uncounted-clause-answer : goal.returns-else-cast_attribute_uncounted-clause-answer
returns-else-cast_attribute_uncounted-clause-answer c = answer-none _ _ (sym c.cast_attribute_uncounted.ensures.answer ∙ c.if-cast_attribute_uncounted.false)
