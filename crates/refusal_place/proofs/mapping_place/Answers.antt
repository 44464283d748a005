-- `refusal_place::mapping_place` meets its contract.
use Rattle.common.specs.Logic.{◌∙◌, ap}
use Rattle.std.specs.Prelude.{Some}
use Rattle.refusal_place.specs.declared.RefusalPlace.{RefusalPlace}
use Rattle.refusal_place.proofs.Places.{mapping-accepted, mapping-refused}
use Rattle.refusal_place.proofs.mapping_place.Goals as goal

pub returns-in-Ok : goal.returns-in-Ok
returns-in-Ok c = mapping-accepted _ _ _ c.in-Ok.ensures

pub returns-in-Err : goal.returns-in-Err
returns-in-Err c = ap (λ (p : RefusalPlace). Some p) c.line_place.ensures ∙ mapping-refused _ _ _ c.in-Err.ensures
