-- `strided::lost::from_vec3` meets its contract: to the last of the Vec3s.
use Rattle.common.specs.Logic.{arith}
use Rattle.strided.proofs.Codes.{vec3-to}
use Rattle.strided.proofs.lost.from_vec3.Goals as goal

pub count-requires-in_default : goal.count-requires-in_default
count-requires-in_default g c = (c.requires.2, omega (arith, vec3-to c.args.cast.from c.args.cast.to c.requires.3.pair (omega arith) (omega arith)), c.requires.3)
