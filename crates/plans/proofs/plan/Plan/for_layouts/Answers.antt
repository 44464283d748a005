-- `plans::plan::Plan::for_layouts` meets its contract.
use Rattle.plans.specs.Makers.{for_layouts}
use Rattle.plans.specs.Records.{for_layouts_answer}
use Rattle.plans.specs.Steps.{lines_by, lines_for, by_name_answer}
use Rattle.plans.proofs.plan.Plan.for_layouts.Goals as goal

pub returns : goal.returns
unfolding for_layouts_answer for_layouts by_name_answer lines_for lines_by
returns c = c.plan_by_name.ensures
