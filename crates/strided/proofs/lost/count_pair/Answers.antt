-- `strided::lost::count_pair` meets its contract: equal codes are copied, and those from 15 on are equal.
use Rattle.common.specs.Logic.{arith}
use Rattle.strided.proofs.Codes.{own-code}
use Rattle.strided.proofs.LostPoints.{copy-loses-none}
use Rattle.strided.proofs.lost.count_pair.Goals as goal

pub returns-then-code-cast : goal.returns-then-code-cast
returns-then-code-cast c = copy-loses-none c.args.cast c.args.source.now c.requires.pair c.if-code-cast.true c.args.n

pub returns-in_default-2 : goal.returns-in_default-2
returns-in_default-2 c = copy-loses-none c.args.cast c.args.source.now c.requires.pair (own-code c.args.cast.from c.args.cast.to c.requires.pair (omega arith)) c.args.n
