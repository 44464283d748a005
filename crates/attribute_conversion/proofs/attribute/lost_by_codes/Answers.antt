-- `attribute_conversion::attribute::lost_by_codes` meets its contract: a copy loses nothing, a cast one number after the other.
use Rattle.common.specs.Logic.{◌∙◌}
use Rattle.attribute_conversion.proofs.Lost.{none-lost, codes-lost}
use Rattle.attribute_conversion.proofs.attribute.lost_by_codes.Goals as goal

pub returns-then-from-to : goal.returns-then-from-to
returns-then-from-to c = none-lost c.args.from c.args.to c.args.src.now c.if-from-to.true

pub returns : goal.returns
returns c = c.lost_each.ensures ∙ codes-lost c.args.from c.args.to c.args.src.now c.if-from-to.false c.components.ensures c.component.ensures c.component-2.ensures
