-- `numbers::integer::low_bits` meets its contract: a mask of w ones.
use Rattle.common.specs.Logic.{sym, lt_of_lt_of_le, mod-eq_of_lt}
use Rattle.std.proofs.Common.{pow_mono}
use Rattle.numbers.proofs.Closest.{rest-is}
use Rattle.numbers.proofs.integer.low_bits.Goals as goal

pub returns-then-w-ge64 : goal.returns-then-w-ge64
returns-then-w-ge64 c = sym (mod-eq_of_lt (lt_of_lt_of_le c.ranges.x.fits (pow_mono c.if-w-ge64.true)))

pub returns : goal.returns
returns c = rest-is c.args.x c.args.w c.if-w-ge64.false
