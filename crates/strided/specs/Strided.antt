-- One attribute of each of n points, cast from a source into a target. Point i's attribute begins at base + i * stride: nothing here asks
-- whether points are interleaved.
use Rattle.std.specs.Prelude.{◌&&◌, ◌||◌, ◌+◌, ◌-◌}
use Rattle.common.specs.Logic.{Bool, List, map, ℕ, eqb, leb, take, drop}
use Rattle.common.specs.Lists.{sum_below}
use Rattle.datatype.specs.Datatype.{size_of}
use Rattle.attribute_conversion.specs.Attributes.{cast_bytes}
use Rattle.attribute_conversion.specs.Lost.{lost_in}
use Rattle.pairs.specs.Pairs.{pair_of, has_entry}
use Rattle.writes.specs.Writes.{begins, starting_at, Write, written}
use Rattle.writes.specs.declared.Strided.{Strided}
use Rattle.strided.specs.declared.StridedCast.{StridedCast}

-- what the target's attribute of point i is to hold: the cast of the source's attribute of point i, or its copy
unfoldable pub value_of : StridedCast → List ℕ → ℕ → List ℕ
value_of c src i = cast_bytes c.from c.to (take (size_of c.from) (drop (begins c.source i) src))

-- what a cast from that source writes
abbrev pub as_write : List ℕ → StridedCast → Write
as_write src c = record { place = c.target; size = size_of c.to; value = value_of c src }

-- the whole target: each cast of each of n points written, and every other byte as before
unfoldable pub converted : List StridedCast → List ℕ → ℕ → List ℕ → List ℕ
converted cs src n t = written (map (as_write src) cs) n t

-- document 02, point 8: how many components of point i's attribute the cast loses, and of those of n points
unfoldable pub lost_at : StridedCast → List ℕ → ℕ → ℕ
lost_at c src i = lost_in c.from c.to (take (size_of c.from) (drop (begins c.source i) src))

unfoldable pub lost_points : StridedCast → List ℕ → ℕ → ℕ
lost_points c src n = sum_below (lost_at c src) n

-- the same attributes, without the first d points
abbrev pub points_from : ℕ → StridedCast → StridedCast
points_from d c = record { from = c.from; to = c.to; source = starting_at d c.source; target = starting_at d c.target }

-- ---- what a cast asks for

-- size bytes of each of n points lie within len bytes: those of the last do, if there is one
unfoldable pub within : Strided → ℕ → ℕ → ℕ → Bool
within a size n len = eqb n 0 || leb (begins a (n - 1) + size) len

-- the target's attributes do not overlap; all lie within a source of a bytes and a target of b; the pair is copy or cast
unfoldable pub strided_fits : StridedCast → ℕ → ℕ → ℕ → Bool
strided_fits c n a b =
    leb (size_of c.to) c.target.stride
    && (within c.source (size_of c.from) n a && (within c.target (size_of c.to) n b && has_entry (pair_of c.from c.to)))
