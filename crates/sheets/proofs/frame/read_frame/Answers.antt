-- `sheets::frame::read_frame` meets its contract.
use Rattle.common.specs.Logic.{◌∙◌, arith}
use Rattle.sheets.proofs.Frames.{too_long, framed-within}
use Rattle.sheets.proofs.frame.read_frame.Goals as goal

pub returns-then-input-gt4096-clause-says : goal.returns-then-input-gt4096-clause-says
returns-then-input-gt4096-clause-says c = too_long _ (omega arith)

pub returns-clause-says : goal.returns-clause-says
returns-clause-says c = c.read_parts.ensures.says ∙ framed-within _ (omega arith)
