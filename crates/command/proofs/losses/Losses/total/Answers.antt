-- After i turns it is the sum of the first i counts, held.
use Rattle.std.proofs.Common.{arith}
use Rattle.command.proofs.Held.{none-held, one-held, all_held}
use Rattle.command.proofs.losses.Losses.total.Goals as goal

pub loop-count-init : goal.loop-count-init
loop-count-init c = none-held c.args.self.now.counts

pub loop-count-preserved : goal.loop-count-preserved
loop-count-preserved c =
    one-held c.args.self.now.counts c.loop-count.count-index c.loop-count.invariant c.saturating_add-total.ensures

pub returns : goal.returns
returns c = all_held c.args.self.now.counts c.loop-count.count-index c.loop-count.invariant (omega arith)
