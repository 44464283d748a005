-- `strided::lost::count` meets its contract: after i turns it is the sum over the first i points.
use Rattle.std.specs.Prelude.{◌≡◌}
use Rattle.strided.specs.Strided.{lost_points}
use Rattle.strided.proofs.lost.count.Given as goal

abbrev pub invariant-loop-i : goal.invariant-loop-i
invariant-loop-i l = l.lost ≡ lost_points l.cast l.source l.i
