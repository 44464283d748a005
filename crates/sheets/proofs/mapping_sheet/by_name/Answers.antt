-- `sheets::mapping_sheet::by_name` meets its contract.
use Rattle.common.specs.Logic.{◌∙◌, refl, arith}
use Rattle.sheets.proofs.Plans.{every-name, found-names}
use Rattle.sheets.proofs.mapping_sheet.by_name.Goals as goal

pub returns-in-Refuse : goal.returns-in-Refuse
returns-in-Refuse c = rw c.in-Refuse.is (c.for_layouts.ensures ∙ every-name _ _ refl)

pub returns-in-PassOver : goal.returns-in-PassOver
returns-in-PassOver c = rw c.in-PassOver.is (c.for_layouts_with_default.ensures ∙ found-names _ _ (λ e. omega arith))
