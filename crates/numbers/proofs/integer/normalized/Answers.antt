-- `numbers::integer::normalized` meets its contract.
use Rattle.common.specs.Logic.{arith}
use lib.Ieee.Digits.{size-le}
use Rattle.numbers.proofs.Nearest.{shift_is}
use Rattle.numbers.proofs.integer.normalized.Goals as goal

pub overflow_sub-result : goal.overflow_sub-result
overflow_sub-result c = omega (arith, size-le c.args.x 64 c.ranges.x.fits)

pub returns : goal.returns
returns c = shift_is c.args.x c.ranges.x.fits c.args.k c.requires
