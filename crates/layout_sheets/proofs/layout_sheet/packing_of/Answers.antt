-- `layout_sheets::layout_sheet::packing_of` meets its contract.
use Rattle.common.specs.Logic.{eq-eqb, ne_eqb}
use Rattle.layout_sheets.specs.Sheet.{packing}
use Rattle.layout_sheets.proofs.layout_sheet.packing_of.Goals as goal

pub returns-then-number-eq0 : goal.returns-then-number-eq0
unfolding packing
returns-then-number-eq0 c = rw (eq-eqb _ _ c.if-number-eq0.true)

pub returns-else-number-eq0 : goal.returns-else-number-eq0
unfolding packing
returns-else-number-eq0 c = rw (ne_eqb _ _ c.if-number-eq0.false)
