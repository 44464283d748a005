-- `point_buffer::sizes_of` meets its contract.
use Rattle.common.specs.Logic.{arith}
use Rattle.point_buffer.proofs.Sums.{zero-at, interleaved-sizes}
use Rattle.point_buffer.proofs.sizes_of.Goals as goal

pub returns-in-Interleaved : goal.returns-in-Interleaved
returns-in-Interleaved c = let k = interleaved-sizes c.args.layout c.in-Interleaved.is in record { point = (k.0, omega arith); before = k.1; rest = λ j h. zero-at 32 j }
