-- Each piece is a byte at least.
use Rattle.std.proofs.Common.{length}
use Rattle.replay.proofs.text.Line.bytes.Given as goal

abbrev pub invariant-loop-self : goal.invariant-loop-self
invariant-loop-self l = Unit {0}

abbrev pub decreases-loop-self : goal.decreases-loop-self
decreases-loop-self l = length l.self.rest.now
