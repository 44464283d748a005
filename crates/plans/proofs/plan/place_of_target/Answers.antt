-- `plans::plan::place_of_target` meets its contract.
use Rattle.std.proofs.Common.{rules, tests}
use Rattle.std.proofs.lemmas.Iterator.{YieldsList-from_slice}
use Rattle.std.proofs.lemmas.Iterator.Adapters.{position_from-zero}
use Rattle.std.proofs.lemmas.Iterator.Search.{position_from_yields_List}
use Rattle.common.specs.Logic.{◌∙◌}
use Rattle.plans.specs.Makers.{has_target}
use Rattle.plans.proofs.Slots.{position-place}
use Rattle.plans.proofs.plan.place_of_target.Goals as goal

pub returns : goal.returns
unfolding has_target
returns c =
    let xs = c.args.mappings.now in
    let p = has_target c.args.target in
    position_from_yields_List p _ _ _ c.position.ensures.ran (YieldsList-from_slice xs cc) (λ x b q k. search (rules, tests)) ∙ position_from-zero p xs ∙ position-place p 0 xs
