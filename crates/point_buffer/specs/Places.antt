-- Where the attributes of a buffer's points lie. Interleaved: "Buffers hold count times point size bytes, point after point." Columns: "for
-- each attribute in list order, the values of all points one after another, without padding."
use Rattle.std.specs.Prelude.{◌≤◌, ◌<◌, ◌+◌, ◌-◌, ◌*◌}
use Rattle.common.specs.Logic.{Bool, List, ℕ, zero, suc, ltb, length, take, drop}
use Rattle.datatype.specs.Datatype.{size_of}
use Rattle.datatype.specs.declared.datatype.Datatype.{Datatype}
use Rattle.layout.specs.Layout.{Attribute, at, Layout}
use Rattle.writes.specs.Writes.{begins}
use Rattle.writes.specs.declared.Strided.{Strided}
use Rattle.point_buffer.specs.declared.PointRange.{PointRange}
use Rattle.point_buffer.specs.declared.Storage.{Storage}
use Rattle.point_buffer.specs.declared.Storage.TheVariants.{Interleaved, Columns}

-- the datatype of the attribute at place j, and its size
abbrev pub datatype_at : Layout → ℕ → Datatype
datatype_at l j = (at l.attributes j).definition.datatype

abbrev pub size_at : Layout → ℕ → ℕ
size_at l j = size_of (datatype_at l j)

-- the sum of the sizes of the attributes before place j
unfoldable pub sizes_before : List Attribute → ℕ → ℕ
sizes_before list zero = 0
sizes_before list (suc j) = sizes_before list j + size_of (at list j).definition.datatype

-- what a buffer has for each of its points: the point size, or the sum of attribute sizes
unfoldable pub point_bytes : Layout → Storage → ℕ
point_bytes l Interleaved = l.size
point_bytes l Columns = sizes_before l.attributes (length l.attributes)

-- in a buffer of count points: where the attribute at place j begins in the first one, and how far it is to the next point's. No contract
-- says it otherwise.
unfoldable pub located : Layout → Storage → ℕ → ℕ → Strided
located l Interleaved count j = record { base = (at l.attributes j).offset; stride = l.size }
located l Columns count j = record { base = count * sizes_before l.attributes j; stride = size_at l j }

-- the same in the buffer of a range
abbrev pub place_in : Layout → PointRange → ℕ → Strided
place_in l r j = located l r.storage r.count j

-- where the attribute at place j begins in point i
abbrev pub begins_at : Layout → PointRange → ℕ → ℕ → ℕ
begins_at l r j i = begins (place_in l r j) i

-- the bytes of that attribute in that point
abbrev pub bytes_at : Layout → PointRange → ℕ → ℕ → List ℕ → List ℕ
bytes_at l r j i bytes = take (size_at l j) (drop (begins_at l r j i) bytes)

-- byte k of the buffer is one of them
abbrev pub LiesAt : Layout → PointRange → ℕ → ℕ → ℕ → Type 0
LiesAt l r j i k = (begins_at l r j i ≤ k) × (k < begins_at l r j i + size_at l j)

-- a range that starts after its end
abbrev pub is_backward : PointRange → Bool
is_backward r = ltb r.end r.start

-- how many points a range has that is not backward
abbrev pub length_of : PointRange → ℕ
length_of r = r.end - r.start
