-- `sheets::mapping_sheet::check_first_lines` meets its contract.
use Rattle.layout_sheets.proofs.Readers.{failed}
use Rattle.sheets.proofs.Plans.{first-unsound, first-stops, first-refused, first-accepted}
use Rattle.sheets.proofs.mapping_sheet.check_first_lines.Goals as goal

pub returns-in_err-check_layouts : goal.returns-in_err-check_layouts
returns-in_err-check_layouts c = rw (failed _ _ c.from_residual.ensures.1) (first-unsound _ _ _ _ c.in_err-check_layouts.ensures)

pub returns-in_err-contents : goal.returns-in_err-contents
returns-in_err-contents c =
    rw (failed _ _ c.from_residual-in_err-contents.ensures.1) (first-stops _ _ _ _ c.in_ok-check_layouts.ensures (rw c.new-reader.ensures at c.in_err-contents.ensures.says))

pub returns-in_err-plan_from : goal.returns-in_err-plan_from
returns-in_err-plan_from c =
    rw (failed _ _ c.from_residual-in_err-plan_from.ensures.1)
    (first-refused _ _ _ _ c.in_ok-check_layouts.ensures (rw c.new-reader.ensures at c.in_ok-contents.ensures.says) c.in_err-plan_from.ensures)

pub returns : goal.returns
returns c = first-accepted _ _ _ _ c.in_ok-check_layouts.ensures (rw c.new-reader.ensures at c.in_ok-contents.ensures.says) c.in_ok-plan_from.ensures
