-- `refusal_place::first_targets` meets its contract.
use Rattle.refusal_place.proofs.Least.{targets-cut}
use Rattle.refusal_place.proofs.first_targets.Goals as goal

pub returns : goal.returns
returns c = targets-cut _ _ _ c.least.ensures
