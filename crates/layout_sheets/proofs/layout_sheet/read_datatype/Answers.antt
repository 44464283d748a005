-- `layout_sheets::layout_sheet::read_datatype` meets its contract.
use Rattle.common.specs.Logic.{arith}
use Rattle.layout_sheets.specs.Sheet.{datatype, datatype_over}
use Rattle.layout_sheets.proofs.Readers.{failed, from-small, reads-then, reads-stops}
use Rattle.layout_sheets.proofs.layout_sheet.read_datatype.Goals as goal

pub returns-in_err-code : goal.returns-in_err-code
unfolding datatype datatype_over
returns-in_err-code c = rw (failed _ _ c.from_residual.ensures.1) (reads-stops _ _ _ c.in_err-code.ensures)

pub overflow_cast-code : goal.overflow_cast-code
overflow_cast-code c = let l = from-small _ _ _ _ _ c.in_ok-code.ensures in omega (arith, l.1)

pub returns : goal.returns
unfolding datatype datatype_over
returns c = reads-then _ _ _ c.in_ok-code.ensures c.read_after_code.ensures
