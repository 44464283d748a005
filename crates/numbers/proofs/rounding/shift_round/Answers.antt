-- `numbers::rounding::shift_round` meets its contract: the one sum of `Closest.antt`.
use Rattle.numbers.proofs.Closest.{near-is, near-all}
use Rattle.numbers.proofs.rounding.shift_round.Goals as goal

pub returns-then-d-ge64 : goal.returns-then-d-ge64
returns-then-d-ge64 c = let s = c.args in near-all s.m _ s.d c.low_bits-x.ensures c.if-d-ge64.true

pub returns : goal.returns
returns c = let s = c.args in near-is s.m _ s.d c.low_bits-x.ensures c.if-d-eq0.false c.if-d-ge64.false
