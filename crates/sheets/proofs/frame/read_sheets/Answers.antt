-- `sheets::frame::read_sheets` meets its contract.
use Rattle.common.specs.Logic.{◌∙◌}
use Rattle.layout_sheets.proofs.Readers.{failed}
use Rattle.sheets.proofs.Frames.{not-framed, framed-sheets}
use Rattle.sheets.proofs.frame.read_sheets.Goals as goal

pub returns-in_err-sheets : goal.returns-in_err-sheets
returns-in_err-sheets c = rw (failed _ _ c.from_residual.ensures.1) (not-framed _ c.in_err-sheets.ensures.says)

pub returns : goal.returns
returns c = c.plan_of_sheets.ensures ∙ framed-sheets _ c.in_ok-sheets.ensures.says
