-- `layout::point_layout::PointAttributeDefinition::name_bytes` meets its contract.
use Rattle.common.specs.Logic.{sym, min, arith}
use Rattle.common.proofs.Lists.{first-take}
use Rattle.layout.proofs.point_layout.PointAttributeDefinition.name_bytes.Goals as goal

pub returns : goal.returns
returns c = rw c.least.ensures (sym (first-take 0 c.args.self.now.name (min c.args.self.now.name_len 31) (omega arith)))
