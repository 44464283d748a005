-- What the records of the code stand for, and what the makers hand back.
use Rattle.std.specs.Prelude.{◌++◌, ◌-◌}
use Rattle.common.specs.Logic.{List, None, Some, Option, ℕ, length, set, replicate}
use Rattle.common.specs.Lists.{first, place_from}
use Rattle.common.specs.Refusal.{Outcome, got, refused}
use Rattle.layout.specs.Records.{layout_of, empty_point_layout}
use Rattle.layout.specs.declared.point_layout.PointLayout.{PointLayout}
use Rattle.plans.specs.Makers.{has_target, default_plan, for_layouts, for_layouts_with_default, set_custom_mapping}
use Rattle.plans.specs.Plan.{Plan}
use Rattle.plans.specs.declared.plan.Mapping.{Mapping}
use Rattle.plans.specs.declared.plan.Plan.{Plan as PlanRecord}

-- what a slot that holds no mapping reads as
abbrev pub no_mapping : Mapping
no_mapping = record { source = 0; target = 0 }

-- the first mappings of an array; a count past the array gives a list that is too long
unfoldable pub mapped : List Mapping → ℕ → List Mapping
mapped ms count = first no_mapping ms count

unfoldable pub plan_of : PlanRecord → Plan
plan_of p = record { source = layout_of p.source; target = layout_of p.target; mappings = mapped p.mappings p.count }

-- ---- what the makers hand back

-- a list in an array of 32 slots
unfoldable pub filled : List Mapping → List Mapping
filled xs = xs ++ replicate (32 - length xs) no_mapping

-- the plan between two empty layouts, without a mapping
unfoldable pub empty_plan : PlanRecord
empty_plan = record { source = empty_point_layout; target = empty_point_layout; mappings = replicate 32 no_mapping; count = 0 }

-- document 01's number, or the plan between the two layouts with its mappings in an array
unfoldable pub plan_answer : PointLayout → PointLayout → List Mapping → Outcome Plan → Outcome PlanRecord
plan_answer l m ms (got k) = got (record { source = l; target = m; mappings = ms; count = length k.mappings })
plan_answer l m ms (refused n) = refused n

-- the mappings of the default plan in an array
unfoldable pub default_slots : PointLayout → PointLayout → List Mapping
default_slots l m = filled (default_plan (layout_of l) (layout_of m)).mappings

unfoldable pub for_layouts_answer : PointLayout → PointLayout → Outcome PlanRecord
for_layouts_answer l m = plan_answer l m (default_slots l m) (for_layouts (layout_of l) (layout_of m))

unfoldable pub with_default_answer : PointLayout → PointLayout → Outcome PlanRecord
with_default_answer l m = plan_answer l m (default_slots l m) (for_layouts_with_default (layout_of l) (layout_of m))

-- the slot of the mapping of a target place, or the next one of k
unfoldable pub slot_in : ℕ → Option ℕ → ℕ
slot_in k None = k
slot_in k (Some i) = i

unfoldable pub slot_of : List Mapping → ℕ → ℕ → ℕ
slot_of ms k j = slot_in k (place_from 0 (has_target j) (mapped ms k))

unfoldable pub custom_answer : PlanRecord → ℕ → ℕ → Outcome PlanRecord
custom_answer p i j =
    plan_answer p.source p.target (set p.mappings (slot_of p.mappings p.count j) (record { source = i; target = j })) (set_custom_mapping (plan_of p) i j)
