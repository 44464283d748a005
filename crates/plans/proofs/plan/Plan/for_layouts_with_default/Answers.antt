-- `plans::plan::Plan::for_layouts_with_default` meets its contract.
use Rattle.plans.specs.Makers.{for_layouts_with_default}
use Rattle.plans.specs.Records.{with_default_answer}
use Rattle.plans.specs.Steps.{lines_by, lines_for, by_name_answer}
use Rattle.plans.proofs.plan.Plan.for_layouts_with_default.Goals as goal

pub returns : goal.returns
unfolding with_default_answer for_layouts_with_default by_name_answer lines_for lines_by
returns c = c.plan_by_name.ensures
