use Rattle.std.specs.Prelude.{◌≡◌}
use Rattle.command.specs.Losses.{held}
use Rattle.common.specs.Lists.{first, sum}
use Rattle.command.proofs.losses.Losses.total.Given as goal

abbrev pub invariant-loop-count : goal.invariant-loop-count
invariant-loop-count l = l.total ≡ held (sum (first 0 l.self.counts l.count-index))
