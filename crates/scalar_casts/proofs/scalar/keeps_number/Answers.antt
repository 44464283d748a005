-- `scalar_casts::scalar::keeps_number` meets its contract: by the two kinds.
use Rattle.scalar_casts.proofs.Numbers.{keeps-is}
use Rattle.scalar_casts.proofs.scalar.keeps_number.Goals as goal

pub returns : goal.returns
returns c = keeps-is c.args.from c.args.to c.args.x c.kind.ensures c.kind-2.ensures c.keeps.ensures
