-- Document 02, point 8: "The conversion reports how many components were lost in the range, summed over the mappings, proved equal to that count taken
-- from source bytes and storage, plan and range alone." No target is in the types of these counts.
use Rattle.std.specs.Prelude.{◌+◌}
use Rattle.common.specs.Logic.{List, map, ℕ}
use Rattle.common.specs.Lists.{first, sum_below, sum}
use Rattle.common.specs.Refusal.{Outcome, got, refused}
use Rattle.attribute_conversion.specs.Lost.{lost_in}
use Rattle.point_buffer.specs.Places.{datatype_at, bytes_at, length_of}
use Rattle.point_buffer.specs.declared.PointRange.{PointRange}
use Rattle.plans.specs.Plan.{Plan}
use Rattle.plans.specs.declared.plan.Mapping.{Mapping}

-- one mapping, at point i of the source range: how many components of the source attribute the cast to the target attribute's datatype loses
unfoldable pub lost_at_point : Plan → PointRange → List ℕ → Mapping → ℕ → ℕ
lost_at_point p from src x i =
    lost_in (datatype_at p.source x.source) (datatype_at p.target x.target) (bytes_at p.source from x.source (from.start + i) src)

-- over the points of the range
unfoldable pub lost_of : Plan → PointRange → List ℕ → Mapping → ℕ
lost_of p from src x = sum_below (lost_at_point p from src x) (length_of from)

-- one count for each mapping, in the plan's order, and their sum
unfoldable pub lost_by_mapping : Plan → PointRange → List ℕ → List ℕ
lost_by_mapping p from src = map (lost_of p from src) p.mappings

unfoldable pub lost_over : Plan → PointRange → List ℕ → ℕ
lost_over p from src = sum (lost_by_mapping p from src)

-- ---- how they are handed back

-- what a call hands back that is carried out, or the number of the refusal
unfoldable pub converted_answer : {X Y : Type 0} → Outcome X → Y → Outcome Y
converted_answer (got x) lost = got lost
converted_answer (refused n) lost = refused n

-- the counts of the mappings and then zeros, 32 in all
unfoldable pub lost_counts : Plan → PointRange → List ℕ → List ℕ
lost_counts p from src = first 0 (lost_by_mapping p from src) 32
