-- `common::significant_bits` meets its contract: the leading zeros and the digits make 64.
use Rattle.common.specs.Logic.{arith}
use Rattle.common.proofs.Digits.{size-leading}
use Rattle.common.proofs.significant_bits.Goals as goal

pub returns : goal.returns
returns c = omega (arith, size-leading 64 c.args.x c.ranges.x.fits)
