-- `layout_sheets::layout_sheet::read_placed` meets its contract.
use Rattle.layout_sheets.proofs.Readers.{failed}
use Rattle.layout_sheets.proofs.Sheets.{placed-made, placed-whole, placed-stops}
use Rattle.layout_sheets.proofs.layout_sheet.read_placed.Goals as goal

pub returns-in_err-entries-clause-says : goal.returns-in_err-entries-clause-says
returns-in_err-entries-clause-says c = rw (failed _ _ c.from_residual.ensures.1) (placed-stops _ _ c.in_err-entries.ensures)

pub returns-clause-says : goal.returns-clause-says
returns-clause-says c = placed-made _ _ c.in_ok-entries.ensures

pub returns-clause-whole : goal.returns-clause-whole
returns-clause-whole c = placed-whole _ _ c.requires c.in_ok-entries.ensures
