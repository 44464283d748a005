-- `layout_sheets::layout_sheet::read_array_length` meets its contract.
use Rattle.common.specs.Logic.{eq-eqb, ne_eqb}
use Rattle.layout_sheets.specs.Sheet.{array_length}
use Rattle.layout_sheets.proofs.Readers.{failed, end-read, reads-then, reads-stops}
use Rattle.layout_sheets.proofs.layout_sheet.read_array_length.Goals as goal

pub returns-in_err-length : goal.returns-in_err-length
unfolding array_length
returns-in_err-length c = rw (failed _ _ c.from_residual.ensures.1) (reads-stops _ _ _ c.in_err-length.ensures)

pub returns-then-length-eq0 : goal.returns-then-length-eq0
unfolding array_length
returns-then-length-eq0 c = reads-then _ _ _ c.in_ok-length.ensures (rw (eq-eqb _ 0 c.if-length-eq0.true) c.field_from.ensures)

pub returns-else-length-eq0 : goal.returns-else-length-eq0
unfolding array_length
returns-else-length-eq0 c = reads-then _ _ _ c.in_ok-length.ensures (rw (ne_eqb _ 0 c.if-length-eq0.false) (end-read _ _))
