-- `layout_sheets::layout_sheet::check_first_attributes` meets its contract.
use Rattle.layout_sheets.proofs.Readers.{failed}
use Rattle.layout_sheets.proofs.Sheets.{first-stops, first-refused, first-accepted}
use Rattle.layout_sheets.proofs.layout_sheet.check_first_attributes.Goals as goal

pub returns-in_err-contents : goal.returns-in_err-contents
returns-in_err-contents c = rw (failed _ _ c.from_residual.ensures.1) (first-stops _ _ (rw c.new-reader.ensures at c.in_err-contents.ensures.says))

pub returns-in_err-layout_from : goal.returns-in_err-layout_from
returns-in_err-layout_from c =
    rw (failed _ _ c.from_residual-in_err-layout_from.ensures.1) (first-refused _ _ (rw c.new-reader.ensures at c.in_ok-contents.ensures.says) c.in_err-layout_from.ensures)

pub returns : goal.returns
returns c = first-accepted _ _ (rw c.new-reader.ensures at c.in_ok-contents.ensures.says) c.in_ok-layout_from.ensures
