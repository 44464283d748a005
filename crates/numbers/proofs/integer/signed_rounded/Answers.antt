-- `numbers::integer::signed_rounded` meets its contract: the sign, and the distance from 0.
use Rattle.std.specs.Prelude.{◌^◌}
use Rattle.common.specs.Logic.{refl, leb}
use Rattle.numbers.specs.Casts.{format_of}
use Rattle.numbers.proofs.Machine.{either-sign, either-fits}
use Rattle.numbers.proofs.integer.signed_rounded.Goals as goal

pub overflow_add-result : goal.overflow_add-result
overflow_add-result c = record { fits = either-fits (format_of c.args.format) (leb (2 ^ 63) c.args.y) _ _ _ c.sign_bit.ensures c.unsigned_rounded.ensures }

pub returns : goal.returns
returns c = either-sign (format_of c.args.format) 64 c.args.y c.ranges.y.fits (leb (2 ^ 63) c.args.y) _ _ _ refl c.sign_bit.ensures c.distance.ensures c.unsigned_rounded.ensures
