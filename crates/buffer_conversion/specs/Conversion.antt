-- Document 01, section Plan, and document 02, points 1 and 2: what `convert_into_range` gives, by one write for each mapping.
use Rattle.std.specs.Prelude.{◌||◌, ◌∷◌, ◌+◌, ◌*◌}
use Rattle.common.specs.Logic.{not, List, [], map, ℕ, eqb, ltb, length}
use Rattle.common.specs.Refusal.{Line, line, Outcome, check}
use Rattle.attribute_conversion.specs.Attributes.{cast_bytes}
use Rattle.writes.specs.Writes.{starting_at, Write, written}
use Rattle.point_buffer.specs.Places.{datatype_at, size_at, point_bytes, place_in, bytes_at, is_backward, length_of}
use Rattle.point_buffer.specs.declared.PointRange.{PointRange}
use Rattle.point_buffer.specs.declared.Storage.{Storage}
use Rattle.point_buffer.specs.declared.Storage.TheVariants.{Interleaved, Columns}
use Rattle.plans.specs.Plan.{Plan, is_sound_plan}
use Rattle.plans.specs.declared.plan.Mapping.{Mapping}

-- one mapping: its target attribute in each point of the target range gets the cast of its source attribute in the matching point, the
-- one equally far from the start of the source range
unfoldable pub write_of : Plan → List ℕ → PointRange → PointRange → Mapping → Write
write_of p src from to x =
    record {
      place = starting_at to.start (place_in p.target to x.target);
      size = size_at p.target x.target;
      value = λ i. cast_bytes (datatype_at p.source x.source) (datatype_at p.target x.target) (bytes_at p.source from x.source (from.start + i) src);
    }

-- 22 takes the place of 15 or 16 on a side of columns
unfoldable pub length_number : ℕ → Storage → ℕ
length_number n Interleaved = n
length_number n Columns = 22

-- a buffer of so many bytes is not count times the size long that its storage gives a point
abbrev pub length_line : ℕ → ℕ → PointRange → ℕ → Line
length_line n size r bytes = line (length_number n r.storage) (not (eqb bytes (r.count * size)))

-- the six buffer checks, of a source of a bytes and a target of b, by the sizes of their points
unfoldable pub buffer_lines : ℕ → ℕ → PointRange → ℕ → ℕ → PointRange → List Line
buffer_lines x a from y b to =
    length_line 15 x from a
    ∷ length_line 16 y to b
    ∷ line 21 (is_backward from || is_backward to)
    ∷ line 17 (not (eqb (length_of from) (length_of to)))
    ∷ line 18 (ltb from.count from.end)
    ∷ line 19 (ltb to.count to.end)
    ∷ []

-- 1, and then they
unfoldable pub conversion_lines : Plan → ℕ → PointRange → ℕ → PointRange → List Line
conversion_lines p a from b to =
    line 1 (not (is_sound_plan p)) ∷ buffer_lines (point_bytes p.source from.storage) a from (point_bytes p.target to.storage) b to

-- the numbers of the six, in their order
unfoldable pub buffer_checks : Storage → Storage → List ℕ
buffer_checks Interleaved Interleaved = 15 ∷ 16 ∷ 21 ∷ 17 ∷ 18 ∷ 19 ∷ []
buffer_checks Interleaved Columns = 15 ∷ 22 ∷ 21 ∷ 17 ∷ 18 ∷ 19 ∷ []
buffer_checks Columns Interleaved = 22 ∷ 16 ∷ 21 ∷ 17 ∷ 18 ∷ 19 ∷ []
buffer_checks Columns Columns = 22 ∷ 22 ∷ 21 ∷ 17 ∷ 18 ∷ 19 ∷ []

-- the target after the call
unfoldable pub convert_into_range : Plan → List ℕ → PointRange → List ℕ → PointRange → Outcome (List ℕ)
convert_into_range p src from t to =
    check (conversion_lines p (length src) from (length t) to) (written (map (write_of p src from to) p.mappings) (length_of to) t)
