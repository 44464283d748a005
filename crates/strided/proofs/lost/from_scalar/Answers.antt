-- `strided::lost::from_scalar` meets its contract: to the last of the scalars.
use Rattle.common.specs.Logic.{arith}
use Rattle.strided.proofs.Codes.{scalar-to}
use Rattle.strided.proofs.lost.from_scalar.Goals as goal

pub count-requires-in_default : goal.count-requires-in_default
count-requires-in_default g c = (c.requires.1, omega (arith, scalar-to c.args.cast.from c.args.cast.to c.requires.2.pair (omega arith)), c.requires.2)
