-- `layout_sheets::layout_sheet::read_layout_sheet` meets its contract.
use Rattle.common.specs.Logic.{◌∙◌}
use Rattle.layout_sheets.proofs.Readers.{failed}
use Rattle.layout_sheets.proofs.Sheets.{whole-stops, whole-ends, whole-made}
use Rattle.layout_sheets.proofs.layout_sheet.read_layout_sheet.Goals as goal

pub returns-in_err-contents : goal.returns-in_err-contents
returns-in_err-contents c = rw (failed _ _ c.from_residual.ensures.1) (whole-stops _ (rw c.new-reader.ensures at c.in_err-contents.ensures.says))

pub returns-then-not-ends : goal.returns-then-not-ends
returns-then-not-ends c = whole-ends _ (rw c.new-reader.ensures at c.in_ok-contents.ensures.says) c.ends.ensures c.if-not-ends.true

pub returns : goal.returns
returns c = c.layout_from.ensures ∙ whole-made _ (rw c.new-reader.ensures at c.in_ok-contents.ensures.says) c.ends.ensures c.if-not-ends.false
