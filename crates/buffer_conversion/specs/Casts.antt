-- The strided casts that the code makes of a plan's mappings; no public contract cites it.
use Rattle.std.specs.Prelude.{◌≡◌, ◌&&◌, ◌≤◌, ◌*◌}
use Rattle.common.specs.Logic.{Bool, cond, List, map, ℕ, min, ltb, length, get_or}
use Rattle.common.specs.Lists.{first, tabulate}
use Rattle.datatype.specs.Datatype.{size_of}
use Rattle.layout.specs.declared.point_layout.PointAttributeMember.{PointAttributeMember}
use Rattle.layout.specs.declared.point_layout.PointLayout.{PointLayout}
use Rattle.writes.specs.Writes.{starting_at}
use Rattle.writes.specs.declared.Strided.{Strided}
use Rattle.strided.specs.Steps.{no_cast}
use Rattle.strided.specs.Strided.{lost_points}
use Rattle.strided.specs.declared.StridedCast.{StridedCast}
use Rattle.point_buffer.specs.Places.{datatype_at, point_bytes, place_in}
use Rattle.point_buffer.specs.Records.{layout_in, before_in}
use Rattle.point_buffer.specs.declared.PointRange.{PointRange}
use Rattle.point_buffer.specs.declared.Storage.{Storage}
use Rattle.point_buffer.specs.declared.Storage.TheVariants.{Interleaved, Columns}
use Rattle.plans.specs.Plan.{Plan}
use Rattle.plans.specs.declared.plan.Mapping.{Mapping}

-- one mapping, from the starts of the two ranges on
unfoldable pub mapping_cast : Plan → PointRange → PointRange → Mapping → StridedCast
mapping_cast p from to x =
    record {
      from = datatype_at p.source x.source;
      to = datatype_at p.target x.target;
      source = starting_at from.start (place_in p.source from x.source);
      target = starting_at to.start (place_in p.target to x.target);
    }

-- a member in a buffer of count points, by the point size and the sizes before it
unfoldable pub member_place : PointAttributeMember → ℕ → ℕ → Storage → ℕ → Strided
member_place a size before Interleaved count = record { base = a.offset; stride = size }
member_place a size before Columns count = record { base = count * before; stride = size_of a.attribute_definition.datatype }

-- an array has the sizes before each place, and the sum of all is small
pub record HasSizes (l : PointLayout) (s : Storage) (xs : List ℕ) : Type 0 where
  pub are : first 0 xs (min l.count 32) ≡ tabulate (before_in (layout_in l) s) (min l.count 32)
  pub small : point_bytes (layout_in l) s ≤ 32 * 65535

unfoldable pub casts : Plan → PointRange → PointRange → List StridedCast
casts p from to = map (mapping_cast p from to) p.mappings

-- what the cast at place j of the list has lost after n points, where that is counted
unfoldable pub lost_before : Bool → List StridedCast → List ℕ → ℕ → ℕ → ℕ
lost_before counted list src n j = cond (counted && ltb j (length list)) (lost_points (get_or list j no_cast) src n) 0
