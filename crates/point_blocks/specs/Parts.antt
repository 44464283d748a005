-- Where the bytes of a block lie in a file: those of interleaved points in one part; of columns in one part for each attribute, which has
-- that attribute's values of the block's points.
use Rattle.std.specs.Prelude.{◌&&◌, ◌+◌, ◌*◌}
use Rattle.common.specs.Logic.{Bool, cond, List, flat_map, None, Some, Option, ℕ, leb, ltb, length, take, drop}
use Rattle.common.specs.Lists.{tabulate}
use Rattle.layout.specs.Layout.{Layout}
use Rattle.writes.specs.Writes.{begins}
use Rattle.point_buffer.specs.Places.{size_at, point_bytes, located}
use Rattle.point_buffer.specs.declared.Storage.{Storage}
use Rattle.point_buffer.specs.declared.Storage.TheVariants.{Interleaved, Columns}
use Rattle.point_blocks.specs.declared.Part.{Part}

-- how many parts a block has
unfoldable pub part_count : Layout → Storage → ℕ
part_count l Interleaved = 1
part_count l Columns = length l.attributes

-- part k of the block of count points from the point first on, of a file of so many points
unfoldable pub part_at : Layout → Storage → ℕ → ℕ → ℕ → ℕ → Part
part_at l Interleaved points first count k = record { at = first * l.size; start = 0; length = count * l.size }
part_at l Columns points first count k =
    record { at = begins (located l Columns points k) first; start = (located l Columns count k).base; length = count * size_at l k }

-- of points of so many bytes: the block lies within the file's points; a file can have its points' bytes; the block has at most 262,144
unfoldable pub is_block : ℕ → ℕ → ℕ → ℕ → Bool
is_block size points first count = leb (first + count) points && (leb (points * size) 9223372036854775807 && leb (count * size) 262144)

unfoldable pub part_of : Layout → Storage → ℕ → ℕ → ℕ → ℕ → Option Part
part_of l s points first count k =
    cond (is_block (point_bytes l s) points first count && ltb k (part_count l s)) (Some (part_at l s points first count k)) None

-- the bytes of a part, in the file
abbrev pub part_in : List ℕ → Part → List ℕ
part_in file part = take part.length (drop part.at file)

-- the block: the bytes of its parts, one after another
unfoldable pub block_in : Layout → Storage → ℕ → ℕ → ℕ → List ℕ → List ℕ
block_in l s points first count file = flat_map (part_in file) (tabulate (part_at l s points first count) (part_count l s))

-- a part as the code makes it, by the bytes of a point in it and those before it; no public contract cites it
unfoldable pub stretch : ℕ → ℕ → ℕ → ℕ → ℕ → Part
stretch size before points first count = record { at = points * before + first * size; start = count * before; length = count * size }
