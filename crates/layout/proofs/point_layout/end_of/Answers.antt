-- `layout::point_layout::end_of` meets its contract: a 16-bit offset and a 16-bit size stay below 2 ^ 17.
use Rattle.common.specs.Logic.{arith}
use Rattle.layout.specs.Layout.{end_of}
use Rattle.layout.specs.Records.{definition_of, attribute_of}
use Rattle.layout.proofs.point_layout.end_of.Goals as goal

pub returns : goal.returns
unfolding end_of attribute_of definition_of
returns c = (rw c.size_of.ensures, omega arith)
