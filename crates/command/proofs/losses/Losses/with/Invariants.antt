use Rattle.std.specs.Prelude.{◌≡◌, length}
use Rattle.command.specs.Losses.{added_at}
use Rattle.common.specs.Lists.{first, tabulate}
use Rattle.command.proofs.losses.Losses.with.Given as goal

abbrev pub invariant-loop-i : goal.invariant-loop-i
invariant-loop-i l = (length l.counts ≡ 32) × (first 0 l.counts l.i ≡ tabulate (added_at l.self.counts l.more) l.i)
