-- `layout_sheets::layout_sheet::read_array` meets its contract.
use Rattle.layout_sheets.specs.Sheet.{array_format}
use Rattle.layout_sheets.proofs.Readers.{failed, end-read, reads-then, reads-stops}
use Rattle.layout_sheets.proofs.layout_sheet.read_array.Goals as goal

pub returns-in_err-length : goal.returns-in_err-length
unfolding array_format
returns-in_err-length c = rw (failed _ _ c.from_residual.ensures.1) (reads-stops _ _ _ c.in_err-length.ensures)

pub returns : goal.returns
unfolding array_format
returns c = rw c.byte_array.ensures (reads-then _ _ _ c.in_ok-length.ensures (end-read _ _))
