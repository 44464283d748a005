-- `strided::arms::run` meets its contract: after i turns the target is `stored`'s after i points.
use Rattle.std.specs.Prelude.{◌≡◌}
use Rattle.strided.specs.Steps.{stored}
use Rattle.strided.proofs.arms.run.Given as goal

abbrev pub invariant-loop-i : goal.invariant-loop-i
invariant-loop-i l = l.target ≡ stored l.cast l.source l.i l.initial.target
