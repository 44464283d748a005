-- `attribute_conversion::attribute::lost_each` meets its contract: after i turns it is the sum over the first i numbers.
use Rattle.std.specs.Prelude.{◌≡◌}
use Rattle.common.specs.Lists.{sum_below}
use Rattle.attribute_conversion.specs.Lost.{lost_component}
use Rattle.attribute_conversion.proofs.attribute.lost_each.Given as goal

abbrev pub invariant-loop-i : goal.invariant-loop-i
invariant-loop-i l = l.lost ≡ sum_below (lost_component l.from l.to l.src) l.i
