-- `sheets::frame::plan_of_sheets` meets its contract.
use Rattle.common.specs.Logic.{◌∙◌}
use Rattle.layout_sheets.proofs.Readers.{failed}
use Rattle.sheets.proofs.Frames.{source-refused, target-refused, mapping-read}
use Rattle.sheets.proofs.frame.plan_of_sheets.Goals as goal

pub returns-in_err-source : goal.returns-in_err-source
returns-in_err-source c = rw (failed _ _ c.from_residual.ensures.1) (source-refused _ c.in_err-source.ensures)

pub returns-in_err-target : goal.returns-in_err-target
returns-in_err-target c = rw (failed _ _ c.from_residual-in_err-target.ensures.1) (target-refused _ c.in_ok-source.ensures c.in_err-target.ensures)

pub returns : goal.returns
returns c = c.read_mapping_sheet.ensures ∙ mapping-read _ c.in_ok-source.ensures c.in_ok-target.ensures
