-- `sheets::mapping_sheet::read_mapping_sheet` meets its contract.
use Rattle.common.specs.Logic.{◌∙◌}
use Rattle.layout_sheets.proofs.Readers.{failed}
use Rattle.sheets.proofs.Plans.{whole-unsound, whole-stops, whole-goes-on, whole-made}
use Rattle.sheets.proofs.mapping_sheet.read_mapping_sheet.Goals as goal

pub returns-in_err-check_layouts : goal.returns-in_err-check_layouts
returns-in_err-check_layouts c = rw (failed _ _ c.from_residual.ensures.1) (whole-unsound _ _ _ c.in_err-check_layouts.ensures)

pub returns-in_err-contents : goal.returns-in_err-contents
returns-in_err-contents c =
    rw (failed _ _ c.from_residual-in_err-contents.ensures.1) (whole-stops _ _ _ c.in_ok-check_layouts.ensures (rw c.new-reader.ensures at c.in_err-contents.ensures.says))

pub returns-then-not-ends : goal.returns-then-not-ends
returns-then-not-ends c = whole-goes-on _ _ _ c.in_ok-check_layouts.ensures (rw c.new-reader.ensures at c.in_ok-contents.ensures.says) c.ends.ensures c.if-not-ends.true

pub returns : goal.returns
returns c =
    c.plan_from.ensures ∙ whole-made _ _ _ c.in_ok-check_layouts.ensures (rw c.new-reader.ensures at c.in_ok-contents.ensures.says) c.ends.ensures c.if-not-ends.false
