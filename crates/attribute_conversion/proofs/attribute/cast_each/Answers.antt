-- `attribute_conversion::attribute::cast_each` meets its contract: after i turns the first i numbers stand in the target.
use Rattle.common.specs.Logic.{◌∙◌, zero-mul}
use Rattle.attribute_conversion.specs.Attributes.{cast_each}
use Rattle.attribute_conversion.proofs.Components.{each_turn}
use Rattle.attribute_conversion.proofs.attribute.cast_each.Goals as goal

pub loop-i-init : goal.loop-i-init
unfolding cast_each
loop-i-init c = rw (zero-mul c.width-w.result)

pub loop-i-preserved : goal.loop-i-preserved
loop-i-preserved c = (each_turn c.args.k c.args.from c.args.to c.loop-i.i c.args.src.now c.loop-i.dst _ c.width-v.ensures c.width-w.ensures c.loop-i-test.true (c.loop-i.auto.dst ∙ c.requires.1) c.loop-i.invariant c.cast_number.ensures).1
