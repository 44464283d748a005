-- `layout::point_layout::first_of` meets its contract.
use Rattle.common.specs.Logic.{sym, ap, arith, map}
use Rattle.common.proofs.Lists.{first-take}
use Rattle.layout.specs.Records.{attribute_of, missing, listed}
use Rattle.layout.proofs.point_layout.first_of.Goals as goal

pub returns : goal.returns
unfolding listed
returns c = ap (map attribute_of) (sym (first-take missing c.args.members.now c.args.count (omega arith)))
