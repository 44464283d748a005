-- What a reader has to believe of the points of a file in blocks, whole; the proofs are in proofs/.
use Rattle.std.specs.Prelude.{◌≡◌, ◌≤◌, ◌<◌, ◌+◌, ◌*◌}
use Rattle.common.specs.Logic.{true, List, None, Some, ℕ, suc, length, get_or}
use Rattle.common.specs.Lists.{sum}
use Rattle.common.specs.Refusal.{got}
use Rattle.layout.specs.Layout.{Layout, is_sound}
use Rattle.writes.specs.Writes.{begins}
use Rattle.buffer_conversion.specs.Claims.{CarriedOut, IsMapped}
use Rattle.buffer_conversion.specs.Lost.{lost_of, lost_over}
use Rattle.plans.specs.Claims.{mapping_at}
use Rattle.plans.specs.Plan.{Plan, is_sound_plan}
use Rattle.point_buffer.specs.Places.{size_at, point_bytes, located, LiesAt}
use Rattle.point_buffer.specs.declared.Storage.{Storage}
use Rattle.point_buffer.specs.declared.Storage.TheVariants.{Interleaved, Columns}
use Rattle.point_blocks.specs.Blocks.{points_in, point_size_of, points_per_block, zeros, whole, block_of, added_up}
use Rattle.point_blocks.specs.Parts.{part_count, part_at, part_of, block_in}
use Rattle.point_blocks.specs.declared.Part.{Part}

-- ---- how many points

-- a file is taken exactly where it has whole points only
pub record PointsClaim : Type 0 where
  pub whole : (length size n : ℕ) → points_in length size ≡ Some n → n * size ≡ length
  pub broken : (length size n : ℕ) → points_in length size ≡ None → n * size ≡ length → ⊥

-- a block holds some points, and they fit its bytes
pub record PerBlockClaim (source target : ℕ) : Type 0 where
  pub some : source < 65536 → target < 65536 → 0 < points_per_block source target
  pub source_fits : points_per_block source target * source ≤ 262144
  pub target_fits : points_per_block source target * target ≤ 262144

-- of a sound layout: `point_size` is what a file has for each point, of either storage; columns have no more than interleaved points
pub record PointSizeClaim : Type 0 where
  pub is : (l : Layout) (s : Storage) → is_sound l ≡ true → point_size_of l s ≡ point_bytes l s
  pub columns : (l : Layout) → is_sound l ≡ true → point_bytes l Columns ≤ point_bytes l Interleaved

-- ---- one block, of either storage into either

-- each mapped attribute holds the cast of its source, and every other byte is zero
pub record BlockConverted (p : Plan) (a b : Storage) (n : ℕ) (source r : List ℕ) : Type 0 where
  pub carried-out : CarriedOut p source (whole a n) (zeros (n * point_bytes p.target b)) (whole b n) r
  pub zero :
      (k : ℕ) → ((i target from : ℕ) → i < n → IsMapped p target from → LiesAt p.target (whole b n) target i k → ⊥) → get_or r k 0 ≡ 0

-- a block of n whole points is never refused
abbrev pub BlockClaim : Type 0
BlockClaim =
    (p : Plan) (a b : Storage) (n : ℕ) (source : List ℕ) → is_sound_plan p ≡ true → length source ≡ n * point_bytes p.source a
    → (r : List ℕ) × BlockConverted p a b n source r

-- ---- the parts of a block: count points from the point first on, of a file of so many

module _ (l : Layout) (s : Storage) (points first count : ℕ) where
  abbrev part : ℕ → Part
  part k = part_at l s points first count k

  -- byte x of the attribute at place j, of the block's point e and of the same point of the file, is byte y of part k
  pub record InPart (j e x : ℕ) : Type 0 where
    pub k : ℕ
    pub y : ℕ
    pub listed : k < part_count l s
    pub inside : y < (part k).length
    pub in_block : begins (located l s count j) e + x ≡ (part k).start + y
    pub in-file : begins (located l s points j) (first + e) + x ≡ (part k).at + y

  pub record Parts : Type 0 where
    -- in the block they lie one after another without gap, from its first byte to its last
    pub first_part : 0 < part_count l s → (part 0).start ≡ 0
    pub next-part : (k : ℕ) → suc k < part_count l s → (part (suc k)).start ≡ (part k).start + (part k).length
    pub last-part : (k : ℕ) → part_count l s ≡ suc k → (part k).start + (part k).length ≡ count * point_bytes l s
    pub no_part : part_count l s ≡ 0 → count * point_bytes l s ≡ 0
    -- they lie within the file
    pub within : (k : ℕ) → k < part_count l s → (part k).at + (part k).length ≤ points * point_bytes l s
    -- every attribute of the block's points lies in them, in the block as in the file
    pub attributes : (j e x : ℕ) → j < length l.attributes → e < count → x < size_at l j → InPart j e x

abbrev pub PartsClaim : Type 0
PartsClaim = (l : Layout) (s : Storage) (points first count : ℕ) → is_sound l ≡ true → first + count ≤ points → Parts l s points first count

-- `part_of` finds all of them, and no others, where the block lies within the file's points, a file can have these, and the block has at most
-- 262,144 bytes
pub record FoundClaim : Type 0 where
  pub found :
      (l : Layout) (s : Storage) (points first count k : ℕ) → first + count ≤ points → points * point_bytes l s ≤ 9223372036854775807
      → count * point_bytes l s ≤ 262144 → k < part_count l s → part_of l s points first count k ≡ Some (part_at l s points first count k)
  pub only :
      (l : Layout) (s : Storage) (points first count k : ℕ) (q : Part) → part_of l s points first count k ≡ Some q
      → (k < part_count l s) × (q ≡ part_at l s points first count k)

-- no byte of the file lies in two: of blocks one behind the other, or two of one block or of any two
pub record ApartClaim : Type 0 where
  pub blocks :
      (l : Layout) (s : Storage) (points first count next more k y j x : ℕ) → first + count ≤ next → next + more ≤ points
      → k < part_count l s → y < (part_at l s points first count k).length → j < part_count l s → x < (part_at l s points next more j).length
      → (part_at l s points first count k).at + y ≡ (part_at l s points next more j).at + x → ⊥
  pub parts :
      (l : Layout) (s : Storage) (points first count next more k y j x : ℕ) → first + count ≤ points → next + more ≤ points
      → k < j → j < part_count l s → y < (part_at l s points first count k).length → x < (part_at l s points next more j).length
      → (part_at l s points first count k).at + y ≡ (part_at l s points next more j).at + x → ⊥

-- ---- all blocks of a source file of so many points

module _ (p : Plan) (a : Storage) (points : ℕ) (source : List ℕ) where
  -- the components that its block of count points from the point first on loses, by the mapping m and by all
  abbrev pub lost_in_block : ℕ → ℕ → ℕ → ℕ
  lost_in_block m first count = lost_of p (whole a count) (block_in p.source a points first count source) (mapping_at p m)

  abbrev pub all_lost_in_block : ℕ → ℕ → ℕ
  all_lost_in_block first count = lost_over p (whole a count) (block_in p.source a points first count source)

  -- however its points are parted into blocks, the blocks' numbers add up to that of all points: each mapping's, and those of all
  pub record LostInBlocks : Type 0 where
    pub each : (counts : List ℕ) → sum counts ≡ points → (m : ℕ) → m < length p.mappings → added_up (lost_in_block m) 0 counts ≡ lost_of p (whole a points) source (mapping_at p m)
    pub all : (counts : List ℕ) → sum counts ≡ points → added_up all_lost_in_block 0 counts ≡ lost_over p (whole a points) source

module _ (p : Plan) (a b : Storage) (points : ℕ) (source : List ℕ) where
  -- its points, converted in one, are t
  abbrev pub AllGive : List ℕ → Type 0
  AllGive t = block_of p a b points source (points * point_bytes p.target b) ≡ got t

  -- its block of count points from the point first on, converted, is that block of t
  abbrev pub BlockGives : ℕ → ℕ → List ℕ → Type 0
  BlockGives first count t =
      block_of p a b count (block_in p.source a points first count source) (count * point_bytes p.target b) ≡ got (block_in p.target b points first count t)

  -- such a block has the point e
  pub record BlockWith (t : List ℕ) (e : ℕ) : Type 0 where
    pub first : ℕ
    pub count : ℕ
    pub from : first ≤ e
    pub to : e < first + count
    pub inside : first + count ≤ points
    pub converted : BlockGives first count t

  -- block after block, each part at its own place, it is converted as if in one
  pub record InBlocks : Type 0 where
    -- each block gives that block of what all points give
    pub each : (first count : ℕ) (t : List ℕ) → first + count ≤ points → AllGive t → BlockGives first count t
    -- a target of the right length, each of whose points is in such a block, is what all points give
    pub all : (t : List ℕ) → length t ≡ points * point_bytes p.target b → ((e : ℕ) → e < points → BlockWith t e) → AllGive t
    -- the blocks lose what all points lose
    pub lost : LostInBlocks p a points source

abbrev pub BlocksClaim : Type 0
BlocksClaim =
    (p : Plan) (a b : Storage) (points : ℕ) (source : List ℕ) → is_sound_plan p ≡ true → length source ≡ points * point_bytes p.source a
    → InBlocks p a b points source
