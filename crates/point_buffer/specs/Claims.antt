-- What a reader has to believe of each storage, whole, with its conditions; the proof is in proofs/.
use Rattle.std.specs.Prelude.{◌≡◌, ◌≤◌, ◌<◌, ◌+◌, ◌*◌}
use Rattle.common.specs.Logic.{true, List, ℕ, length}
use Rattle.layout.specs.Layout.{at, Layout, is_sound}
use Rattle.writes.specs.Writes.{begins}
use Rattle.point_buffer.specs.Places.{size_at, point_bytes, located}
use Rattle.point_buffer.specs.declared.PointRange.{PointRange}
use Rattle.point_buffer.specs.declared.Storage.{Storage}
use Rattle.point_buffer.specs.declared.Storage.TheVariants.{Interleaved, Columns}

-- byte k of a buffer of count points lies in the attribute at place j of point i
pub record InAttribute (l : Layout) (s : Storage) (count j i k : ℕ) : Type 0 where
  pub place : j < length l.attributes
  pub point : i < count
  pub first : begins (located l s count j) i ≤ k
  pub last : k < begins (located l s count j) i + size_at l j

-- every attribute of every point lies within the buffer, and no byte lies in two
pub record Laid (l : Layout) (s : Storage) (count : ℕ) : Type 0 where
  pub within : (j i : ℕ) → j < length l.attributes → i < count → begins (located l s count j) i + size_at l j ≤ count * point_bytes l s
  pub same_place : (j m i e k : ℕ) → InAttribute l s count j i k → InAttribute l s count m e k → j ≡ m
  pub same_point : (j m i e k : ℕ) → InAttribute l s count j i k → InAttribute l s count m e k → i ≡ e

-- each storage of a sound layout
abbrev pub StorageClaim : Type 0
StorageClaim = (l : Layout) (s : Storage) (count : ℕ) → is_sound l ≡ true → Laid l s count

-- "Buffers hold count times point size bytes, point after point."
pub record InterleavedPoints (l : Layout) (count : ℕ) : Type 0 where
  pub begins : (j i : ℕ) → begins (located l Interleaved count j) i ≡ i * l.size + (at l.attributes j).offset
  pub bytes : point_bytes l Interleaved ≡ l.size

-- "Columns: for each attribute in list order, the values of all points one after another, without padding."
pub record ColumnsInOrder (l : Layout) (count : ℕ) : Type 0 where
  -- the first column begins with the buffer, each other one where the one before it ends, and the last ends with the buffer
  pub first : begins (located l Columns count 0) 0 ≡ 0
  pub next : (j : ℕ) → begins (located l Columns count (j + 1)) 0 ≡ begins (located l Columns count j) count
  pub last : (j : ℕ) → j + 1 ≡ length l.attributes → begins (located l Columns count j) count ≡ count * point_bytes l Columns
  -- within one each value begins where the one before it ends
  pub values : (j i : ℕ) → begins (located l Columns count j) (i + 1) ≡ begins (located l Columns count j) i + size_at l j

pub record PlacesClaim : Type 0 where
  pub interleaved : (l : Layout) (count : ℕ) → InterleavedPoints l count
  pub columns : (l : Layout) (count : ℕ) → ColumnsInOrder l count

-- a buffer of the length that its storage asks for, and a range of its points that does not start after its end
pub record RangeOf (l : Layout) (r : PointRange) (bytes : List ℕ) : Type 0 where
  pub long : length bytes ≡ r.count * point_bytes l r.storage
  pub forward : r.start ≤ r.end
  pub inside : r.end ≤ r.count
