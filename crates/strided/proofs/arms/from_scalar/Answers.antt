-- `strided::arms::from_scalar` meets its contract: to the last of the scalars.
use Rattle.common.specs.Logic.{arith}
use Rattle.strided.proofs.Codes.{scalar-to}
use Rattle.strided.proofs.arms.from_scalar.Goals as goal

pub run-requires-in_default : goal.run-requires-in_default
run-requires-in_default g c = (c.requires.1, omega (arith, scalar-to c.args.cast.from c.args.cast.to c.requires.2.pair (omega arith)), c.requires.2)
