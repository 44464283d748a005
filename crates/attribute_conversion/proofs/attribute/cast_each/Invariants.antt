-- `attribute_conversion::attribute::cast_each` meets its contract: after i turns the first i numbers stand in the target.
use Rattle.std.specs.Prelude.{◌≡◌, ◌*◌}
use Rattle.common.specs.Logic.{take}
use Rattle.attribute_conversion.specs.Attributes.{cast_each}
use Rattle.attribute_conversion.proofs.attribute.cast_each.Given as goal

abbrev pub invariant-loop-i : goal.invariant-loop-i
invariant-loop-i l = take (l.i * l.w) l.dst ≡ cast_each l.i l.from l.to l.src
