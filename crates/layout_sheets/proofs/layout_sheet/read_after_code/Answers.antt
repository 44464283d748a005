-- `layout_sheets::layout_sheet::read_after_code` meets its contract.
use Rattle.common.specs.Logic.{eq-eqb, ne_eqb}
use Rattle.layout_sheets.specs.Sheet.{after_code}
use Rattle.layout_sheets.proofs.Readers.{end-read}
use Rattle.layout_sheets.proofs.layout_sheet.read_after_code.Goals as goal

pub returns-then-code-eq16 : goal.returns-then-code-eq16
unfolding after_code
returns-then-code-eq16 c = rw (eq-eqb _ 16 c.if-code-eq16.true) c.read_array.ensures

pub returns-then-code-eq17 : goal.returns-then-code-eq17
unfolding after_code
returns-then-code-eq17 c = rw (ne_eqb _ 16 c.if-code-eq16.false, eq-eqb _ 17 c.if-code-eq17.true) c.read_custom.ensures

pub returns-else-code-eq17 : goal.returns-else-code-eq17
unfolding after_code
returns-else-code-eq17 c = rw (c.plain.ensures, ne_eqb _ 16 c.if-code-eq16.false, ne_eqb _ 17 c.if-code-eq17.false) (end-read _ _)
