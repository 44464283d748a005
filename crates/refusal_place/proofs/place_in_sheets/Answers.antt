-- `refusal_place::place_in_sheets` meets its contract.
use Rattle.common.specs.Logic.{◌∙◌, ap}
use Rattle.std.specs.Prelude.{Some}
use Rattle.refusal_place.specs.declared.RefusalPlace.{RefusalPlace}
use Rattle.refusal_place.proofs.Places.{source-refused, target-refused, mapping-read}
use Rattle.refusal_place.proofs.place_in_sheets.Goals as goal

pub returns-in-Err : goal.returns-in-Err
returns-in-Err c = ap (λ (p : RefusalPlace). Some p) c.attribute_place.ensures ∙ source-refused _ c.in-Err.ensures

pub returns-in-Err-read_layout_sheet : goal.returns-in-Err-read_layout_sheet
returns-in-Err-read_layout_sheet c =
    ap (λ (p : RefusalPlace). Some p) c.attribute_place-in-Err-read_layout_sheet.ensures ∙ target-refused _ c.in-Ok.ensures c.in-Err-read_layout_sheet.ensures

pub returns-in-Ok-read_layout_sheet : goal.returns-in-Ok-read_layout_sheet
returns-in-Ok-read_layout_sheet c = c.mapping_place.ensures ∙ mapping-read _ c.in-Ok.ensures c.in-Ok-read_layout_sheet.ensures
