-- What the private steps of the makers give; no public contract cites it.
use Rattle.std.specs.Prelude.{◌&&◌, ◌++◌}
use Rattle.common.specs.Logic.{Bool, List, flat_map, Option, ℕ}
use Rattle.common.specs.Lists.{all, pairwise}
use Rattle.common.specs.Refusal.{Line, Outcome, check, passes}
use Rattle.layout.specs.Layout.{Attribute, Layout}
use Rattle.layout.specs.Records.{layout_of}
use Rattle.layout.specs.declared.point_layout.PointLayout.{PointLayout}
use Rattle.plans.specs.Makers.{pair_lines, target_lines, default_plan, layouts_lines, mapping_lines, source_of}
use Rattle.plans.specs.Plan.{other_target}
use Rattle.plans.specs.Records.{plan_answer, default_slots}
use Rattle.plans.specs.declared.plan.Mapping.{Mapping}
use Rattle.plans.specs.declared.plan.MissingSource.{MissingSource}
use Rattle.plans.specs.declared.plan.MissingSource.TheVariants.{Refuse, PassOver}
use Rattle.plans.specs.declared.plan.Plan.{Plan as PlanRecord}

-- neither 13 nor 14 holds of the mapping
unfoldable pub fits : Layout → Layout → Mapping → Bool
fits l m x = passes (mapping_lines l m x)

unfoldable pub all_fit : Layout → Layout → List Mapping → Bool
all_fit l m xs = all (fits l m) xs && pairwise other_target xs

-- 12 and 14 where a missing source is refused, else 14 alone
unfoldable pub lines_by : MissingSource → Layout → Attribute → List Line
lines_by Refuse = target_lines
lines_by PassOver = pair_lines

-- the source place of one target attribute, or a refusal
unfoldable pub source_answer : MissingSource → Layout → Attribute → Outcome (Option ℕ)
source_answer missing l a = check (lines_by missing l a) (source_of l a)

unfoldable pub lines_for : MissingSource → Layout → Layout → List Line
lines_for missing l m = layouts_lines l m ++ flat_map (lines_by missing l) m.attributes

unfoldable pub by_name_answer : MissingSource → PointLayout → PointLayout → Outcome PlanRecord
by_name_answer missing l m =
    plan_answer l m (default_slots l m) (check (lines_for missing (layout_of l) (layout_of m)) (default_plan (layout_of l) (layout_of m)))
