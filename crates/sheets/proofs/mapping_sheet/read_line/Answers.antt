-- `sheets::mapping_sheet::read_line` meets its contract.
use Rattle.common.specs.Logic.{arith}
use Rattle.layout_sheets.proofs.Readers.{failed, bits-small, end-read, reads-then, reads-stops}
use Rattle.sheets.specs.Mapping.{sheet_line}
use Rattle.sheets.proofs.mapping_sheet.read_line.Goals as goal

pub returns-in_err-source : goal.returns-in_err-source
unfolding sheet_line
returns-in_err-source c = rw (failed _ _ c.from_residual.ensures.1) (reads-stops _ _ _ c.in_err-source.ensures)

pub returns-in_err-target : goal.returns-in_err-target
unfolding sheet_line
returns-in_err-target c = rw (failed _ _ c.from_residual-in_err-target.ensures.1) (reads-then _ _ _ c.in_ok-source.ensures (reads-stops _ _ _ c.in_err-target.ensures))

pub overflow_cast-result : goal.overflow_cast-result
overflow_cast-result c = omega (arith, bits-small _ _ c.in_ok-source.ensures)

pub overflow_cast-result-2 : goal.overflow_cast-result-2
overflow_cast-result-2 c = omega (arith, bits-small _ _ c.in_ok-target.ensures)

pub returns : goal.returns
unfolding sheet_line
returns c = reads-then _ _ _ c.in_ok-source.ensures (reads-then _ _ _ c.in_ok-target.ensures (end-read _ _))
