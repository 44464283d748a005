-- `plans::plan::plan_by_name` meets its contract. The invariant: what it says of the targets passed.
use Rattle.layout.specs.Records.{layout_of}
use Rattle.plans.proofs.Defaults.{Made}
use Rattle.plans.proofs.plan.plan_by_name.Given as goal

abbrev pub invariant-loop-j : goal.invariant-loop-j
invariant-loop-j l = Made l.missing (layout_of l.source) l.target l.j l.mappings l.count
