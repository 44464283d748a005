-- `kept_casts::digits::unsigned_to_float_kept` meets its contract.
use Rattle.common.specs.Logic.{false}
use Rattle.numbers.specs.Casts.{format_of}
use Rattle.kept_casts.proofs.FewDigits.{kept-cut}
use Rattle.kept_casts.proofs.digits.unsigned_to_float_kept.Goals as goal

pub returns : goal.returns
returns c = kept-cut false c.args.from c.args.x c.pattern.result c.pattern.ensures (format_of c.args.to) c.digits_kept.result c.digits_kept.ensures
