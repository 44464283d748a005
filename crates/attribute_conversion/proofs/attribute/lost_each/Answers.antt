-- `attribute_conversion::attribute::lost_each` meets its contract: after i turns it is the sum over the first i numbers.
use Rattle.std.specs.Prelude.{◌+◌}
use Rattle.common.specs.Lists.{sum_below}
use Rattle.common.specs.Logic.{refl, arith}
use Rattle.attribute_conversion.proofs.Lost.{lost-few, lost-turn}
use Rattle.attribute_conversion.proofs.attribute.lost_each.Goals as goal

pub loop-i-init : goal.loop-i-init
unfolding sum_below
loop-i-init c = refl

pub overflow_add-lost : goal.overflow_add-lost
overflow_add-lost c = omega (arith, lost-turn c.args.from c.args.to c.args.src.now c.loop-i.i c.width-v.ensures c.loop-i.invariant c.lost_number-lost.ensures, lost-few c.args.from c.args.to c.args.src.now (c.loop-i.i + 1), c.requires.0, c.loop-i-test.true)

pub loop-i-preserved : goal.loop-i-preserved
loop-i-preserved c = lost-turn c.args.from c.args.to c.args.src.now c.loop-i.i c.width-v.ensures c.loop-i.invariant c.lost_number-lost.ensures
