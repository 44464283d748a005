-- `raw_point_converter::RawPointConverter::from_to` meets its contract. The invariant: the pairs of the source attributes passed.
use Rattle.common.specs.Logic.{List, flat_map, ℕ}
use Rattle.layout.specs.Records.{listed, layout_of}
use Rattle.layout.specs.declared.point_layout.PointLayout.{PointLayout}
use Rattle.strided.specs.declared.StridedCast.{StridedCast}
use Rattle.raw_point_converter.specs.Pairs.{pair_for}
use Rattle.raw_point_converter.specs.Steps.{Holds}
use Rattle.raw_point_converter.proofs.RawPointConverter.from_to.Given as goal

-- the pairs of the first i source attributes
abbrev pub passed : PointLayout → PointLayout → ℕ → List StridedCast
passed l m i = flat_map (pair_for (layout_of m).attributes) (listed l.attributes i)

abbrev pub invariant-loop-i : goal.invariant-loop-i
invariant-loop-i l = Holds (passed l.from_layout l.to_layout l.i) l.i l.made
