-- `decimals::digit` meets its contract.
use Rattle.common.specs.Logic.{arith}
use Rattle.decimals.proofs.Texts.{digit-bounds}
use Rattle.decimals.proofs.digit.Goals as goal

pub overflow_sub-result : goal.overflow_sub-result
overflow_sub-result c = (digit-bounds _ c.requires).0

pub returns : goal.returns
returns c = omega (arith, digit-bounds _ c.requires)
