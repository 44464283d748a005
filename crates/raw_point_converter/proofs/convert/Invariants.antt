-- `raw_point_converter::convert` meets its contract: after some turns the target is that of as many pairs.
use Rattle.std.specs.Prelude.{◌≡◌}
use Rattle.common.specs.Lists.{first}
use Rattle.strided.specs.Steps.{no_cast}
use Rattle.strided.specs.Strided.{converted}
use Rattle.raw_point_converter.proofs.convert.Given as goal

abbrev pub invariant-loop-pair : goal.invariant-loop-pair
invariant-loop-pair l = l.target ≡ converted (first no_cast l.pairs l.pair-index) l.source 1 l.initial.target
