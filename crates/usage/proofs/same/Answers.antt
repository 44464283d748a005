-- `usage::same` meets its contract.
use Rattle.common.specs.Logic.{◌∙◌}
use Rattle.common.proofs.Lists.{slices-same}
use Rattle.usage.proofs.same.Goals as goal

pub returns : goal.returns
returns c = c.eq.ensures ∙ slices-same _ _
