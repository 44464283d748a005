-- `attribute_conversion::attribute::cast_into` meets its contract: a copy, or one number after the other.
use Rattle.common.specs.Logic.{◌∙◌}
use Rattle.attribute_conversion.proofs.Components.{as_same, as-cast}
use Rattle.attribute_conversion.proofs.attribute.cast_into.Goals as goal

pub returns-then-from-to : goal.returns-then-from-to
returns-then-from-to c = c.copy_all.ensures ∙ as_same c.args.from c.args.to c.args.src.now c.if-from-to.true

pub returns-else-from-to : goal.returns-else-from-to
returns-else-from-to c = c.cast_each.ensures ∙ as-cast c.args.from c.args.to c.args.src.now c.if-from-to.false c.components.ensures c.component.ensures c.component-else-from-to.ensures
