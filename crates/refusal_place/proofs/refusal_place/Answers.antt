-- `refusal_place::refusal_place` meets its contract.
use Rattle.common.specs.Logic.{◌∙◌}
use Rattle.refusal_place.proofs.Places.{not-framed, framed-place}
use Rattle.refusal_place.proofs.refusal_place.Goals as goal

pub returns-in-Err : goal.returns-in-Err
returns-in-Err c = not-framed _ c.in-Err.ensures.says

pub returns-in-Ok : goal.returns-in-Ok
returns-in-Ok c = c.place_in_sheets.ensures ∙ framed-place _ c.in-Ok.ensures.says
