-- `layout_sheets::layout_sheet::read_custom` meets its contract.
use Rattle.common.specs.Logic.{arith}
use Rattle.layout_sheets.specs.Sheet.{custom_format}
use Rattle.layout_sheets.proofs.Readers.{failed, bits-small, end-read, reads-then, reads-stops}
use Rattle.layout_sheets.proofs.layout_sheet.read_custom.Goals as goal

pub returns-in_err-size : goal.returns-in_err-size
unfolding custom_format
returns-in_err-size c = rw (failed _ _ c.from_residual.ensures.1) (reads-stops _ _ _ c.in_err-size.ensures)

pub returns-in_err-alignment : goal.returns-in_err-alignment
unfolding custom_format
returns-in_err-alignment c = rw (failed _ _ c.from_residual-in_err-alignment.ensures.1) (reads-then _ _ _ c.in_ok-size.ensures (reads-stops _ _ _ c.in_err-alignment.ensures))

pub returns-in_err-name_high : goal.returns-in_err-name_high
unfolding custom_format
returns-in_err-name_high c =
    rw (failed _ _ c.from_residual-in_err-name_high.ensures.1) (reads-then _ _ _ c.in_ok-size.ensures (reads-then _ _ _ c.in_ok-alignment.ensures (reads-stops _ _ _ c.in_err-name_high.ensures)))

pub returns-in_err-name_low : goal.returns-in_err-name_low
unfolding custom_format
returns-in_err-name_low c =
    rw (failed _ _ c.from_residual-in_err-name_low.ensures.1)
    (reads-then _ _ _ c.in_ok-size.ensures (reads-then _ _ _ c.in_ok-alignment.ensures (reads-then _ _ _ c.in_ok-name_high.ensures (reads-stops _ _ _ c.in_err-name_low.ensures))))

pub overflow_cast-alignment : goal.overflow_cast-alignment
overflow_cast-alignment c = omega (arith, bits-small _ _ c.in_ok-alignment.ensures)

pub returns : goal.returns
unfolding custom_format
returns c =
    rw c.custom.ensures
    (reads-then _ _ _ c.in_ok-size.ensures (reads-then _ _ _ c.in_ok-alignment.ensures (reads-then _ _ _ c.in_ok-name_high.ensures (reads-then _ _ _ c.in_ok-name_low.ensures (end-read _ _)))))
