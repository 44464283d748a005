-- `buffer_conversion::convert::casts_of` meets its contract: after k turns the first k casts are those of the first k mappings.
use Rattle.std.specs.Prelude.{◌≡◌}
use Rattle.common.specs.Logic.{map, length}
use Rattle.common.specs.Lists.{first}
use Rattle.strided.specs.Steps.{no_cast}
use Rattle.buffer_conversion.specs.Casts.{mapping_cast}
use Rattle.plans.specs.Records.{mapped, plan_of}
use Rattle.buffer_conversion.proofs.convert.casts_of.Given as goal

abbrev pub invariant-loop-k : goal.invariant-loop-k
invariant-loop-k l = (length l.list ≡ 32) × (first no_cast l.list l.k ≡ map (mapping_cast (plan_of l.plan) l.from l.to) (mapped l.plan.mappings l.k))
