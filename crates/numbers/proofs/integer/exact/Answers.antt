-- `numbers::integer::exact` meets its contract: the format holds the integer.
use lib.Ieee.{binary32, binary64}
use Rattle.std.proofs.Common.{w64}
use mir.ValLaws.{to_z-of_z}
use Rattle.numbers.specs.declared.format.Format.TheVariants.{Binary32, Binary64}
use Rattle.numbers.proofs.Exact.{held-is}
use Rattle.numbers.proofs.Machine.{any-number, any-fits}
use Rattle.numbers.proofs.integer.exact.Goals as goal

pub float_to_bits-result : goal.float_to_bits-result
float_to_bits-result c = any-number binary32 _

pub overflow_cast-result : goal.overflow_cast-result
overflow_cast-result c = record { fits = any-fits binary32 _ }

pub float_to_bits-result-in-Binary64 : goal.float_to_bits-result-in-Binary64
float_to_bits-result-in-Binary64 c = any-number binary64 _

pub returns-in-Binary32 : goal.returns-in-Binary32
returns-in-Binary32 c = held-is c.args.format Binary32 c.in-Binary32.is c.args.n _ (to_z-of_z w64 c.args.n c.ranges.n)

pub returns-in-Binary64 : goal.returns-in-Binary64
returns-in-Binary64 c = held-is c.args.format Binary64 c.in-Binary64.is c.args.n _ (to_z-of_z w64 c.args.n c.ranges.n)
