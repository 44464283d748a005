-- Each part lies within the block.
use Rattle.common.specs.Logic.{arith}
use Rattle.command.proofs.Parts.{part-within}
use Rattle.command.proofs.block.PointFile.for_each_part.Goals as goal

pub overflow_add-end : goal.overflow_add-end
overflow_add-end g c = record { fits = omega (arith, part-within _ _ _ _ _ _ c.part_of.ensures c.in-Some.is) }

pub slice_bounds-transfer-end : goal.slice_bounds-transfer-end
slice_bounds-transfer-end g c = omega (arith, part-within _ _ _ _ _ _ c.part_of.ensures c.in-Some.is)
