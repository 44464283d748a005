-- `kept_casts::digits::few_digits` meets its contract.
use Rattle.kept_casts.proofs.FewDigits.{few-digits}
use Rattle.kept_casts.proofs.digits.few_digits.Goals as goal

pub returns : goal.returns
returns c = few-digits c.args.p c.args.n c.wrapping_neg.result c.ranges.n.fits c.wrapping_neg.type_inv c.wrapping_neg.ensures
