-- `plans::plan::all_fit` meets its contract. The invariant: both tests of the mappings passed.
use Rattle.std.specs.Prelude.{◌≡◌}
use Rattle.common.specs.Logic.{true}
use Rattle.common.specs.Lists.{all, pairwise}
use Rattle.layout.specs.Records.{layout_of}
use Rattle.plans.specs.Plan.{other_target}
use Rattle.plans.specs.Records.{mapped}
use Rattle.plans.specs.Steps.{fits}
use Rattle.plans.proofs.plan.all_fit.Given as goal

abbrev pub invariant-loop-i : goal.invariant-loop-i
invariant-loop-i l =
    (all (fits (layout_of l.source) (layout_of l.target)) (mapped l.mappings l.i) ≡ true) × (pairwise other_target (mapped l.mappings l.i) ≡ true)
