-- `layout_sheets::layout_sheet::read_given` meets its contract.
use Rattle.layout_sheets.specs.Sheet.{given_format}
use Rattle.layout_sheets.proofs.Readers.{failed, reads-stops}
use Rattle.layout_sheets.proofs.Sheets.{given-made, given-whole, given-stops}
use Rattle.layout_sheets.proofs.layout_sheet.read_given.Goals as goal

pub returns-in_err-alignment-clause-says : goal.returns-in_err-alignment-clause-says
unfolding given_format
returns-in_err-alignment-clause-says c = rw (failed _ _ c.from_residual.ensures.1) (reads-stops _ _ _ c.in_err-alignment.ensures)

pub returns-in_err-entries-clause-says : goal.returns-in_err-entries-clause-says
returns-in_err-entries-clause-says c = rw (failed _ _ c.from_residual-in_err-entries.ensures.1) (given-stops _ _ _ c.in_ok-alignment.ensures c.in_err-entries.ensures)

pub returns-clause-says : goal.returns-clause-says
returns-clause-says c = given-made _ _ _ c.in_ok-alignment.ensures c.in_ok-entries.ensures

pub returns-clause-whole : goal.returns-clause-whole
returns-clause-whole c = given-whole _ _ c.requires c.in_ok-entries.ensures
