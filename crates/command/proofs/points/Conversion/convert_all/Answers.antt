-- A block's points fit the arrays.
use Rattle.common.specs.Logic.{arith}
use Rattle.point_blocks.proofs.FilePoints.{fits-first, fits-second, fits-block}
use Rattle.command.proofs.points.Conversion.convert_all.Goals as goal

pub overflow_cast-block : goal.overflow_cast-block
overflow_cast-block c =
    record { fits = omega (arith, fits-block _ _ _ _ _ c.min-n.ensures c.points_per_block-most.ensures.number) }

pub convert_some-requires : goal.convert_some-requires
convert_some-requires c =
    let most = c.points_per_block-most.ensures.number in
    (fits-first _ _ _ _ _ c.min-n.ensures most, fits-second _ _ _ _ _ c.min-n.ensures most)
