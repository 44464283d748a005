-- The parts of a block: what the code makes is what the definition says.
use Rattle.std.specs.Prelude.{◌≡◌, ◌≤◌, ◌<◌, ◌+◌, ◌*◌}
use Rattle.common.specs.Logic.{◌∙◌, sym, ap, refl, true, false, List, None, Some, ℕ, min, mul-zero, mul-le-mul_left, zero-add, arith, leb-true, lt-ltb, le-ltb, leb, length, get_or}
use Rattle.common.specs.Lists.{first, tabulate}
use Rattle.common.proofs.Lists.{and_left, and_right}
use Rattle.datatype.specs.Datatype.{size_of}
use Rattle.layout.specs.Layout.{Attribute, absent, Layout}
use Rattle.layout.specs.Records.{attribute_of, definition_of, missing}
use Rattle.layout.specs.declared.point_layout.PointLayout.{PointLayout}
use Rattle.layout.proofs.Listed.{listed_at}
use Rattle.point_buffer.specs.Places.{size_at, sizes_before, point_bytes, located}
use Rattle.point_buffer.specs.Records.{layout_in, before_in}
use Rattle.point_buffer.specs.declared.Storage.{Storage}
use Rattle.point_buffer.specs.declared.Storage.TheVariants.{Interleaved, Columns}
use Rattle.point_buffer.proofs.Laid.{column-ends}
use Rattle.point_buffer.proofs.Sums.{length-in-array, before_at}
use Rattle.point_blocks.specs.Parts.{part_count, part_at, is_block, part_of, stretch}
use Rattle.point_blocks.specs.declared.Part.{Part}

-- ---- a block

module _ (size points first count : ℕ) where
  pub record Block : Type 0 where
    pub inside : first + count ≤ points
    pub possible : points * size ≤ 9223372036854775807
    pub short : count * size ≤ 262144

  pub is_block_lem : is_block size points first count ≡ true → Block
  unfolding is_block
  is_block_lem h =
      let a = leb (first + count) points in
      let b = leb (points * size) 9223372036854775807 in
      let r = and_right a _ h in
      record { inside = leb-true _ _ (and_left a _ h); possible = leb-true _ _ (and_left b _ r); short = leb-true _ _ (and_right b _ r) }

-- ---- a part

module _ (l : Layout) (s : Storage) (points first count k : ℕ) where
  pub no_block : is_block (point_bytes l s) points first count ≡ false → None ≡ part_of l s points first count k
  unfolding part_of
  no_block h = rw h

  pub past-last : is_block (point_bytes l s) points first count ≡ true → part_count l s ≤ k → None ≡ part_of l s points first count k
  unfolding part_of
  past-last b h = rw (b, le-ltb k (part_count l s) h)

  pub found : {q : Part} → is_block (point_bytes l s) points first count ≡ true → k < part_count l s → q ≡ part_at l s points first count k → Some q ≡ part_of l s points first count k
  unfolding part_of
  found b h e = rw (b, lt-ltb k (part_count l s) h, e)

-- the stretches that parts are
module _ (l : Layout) (points first count : ℕ) where
  pub one-stretch : (k : ℕ) → stretch l.size 0 points first count ≡ part_at l Interleaved points first count k
  unfolding stretch part_at
  one-stretch k = simp (mul-zero, zero-add)

  pub column-stretch : (k : ℕ) → stretch (size_at l k) (sizes_before l.attributes k) points first count ≡ part_at l Columns points first count k
  unfolding stretch part_at located
  column-stretch k = refl

-- ---- past the last

module _ (l : Layout) {s : Storage} (e : s ≡ Interleaved) (points first count : ℕ) (b : is_block (point_bytes l s) points first count ≡ true) where
  pub past_one : {k : ℕ} → (k ≡ 0 → ⊥) → None ≡ part_of l s points first count k
  unfolding part_count
  past_one {k} n = past-last l s points first count k b (rw e (omega arith))

module _ (l : PointLayout) {s : Storage} (e : s ≡ Columns) (points first count : ℕ) (b : is_block (point_bytes (layout_in l) s) points first count ≡ true) where
  pub past-columns : {k : ℕ} → min l.count 32 ≤ k → None ≡ part_of (layout_in l) s points first count k
  unfolding part_count
  past-columns {k} h = past-last (layout_in l) s points first count k b (rw e (omega (arith, length-in-array l)))

-- ---- the column of an array's member, by its size and the sizes before it

module _ (l : PointLayout) {s : Storage} {k : ℕ} (e : s ≡ Columns) (h : k < min l.count 32) (xs : List ℕ) {size : ℕ}
    (X : first 0 xs (min l.count 32) ≡ tabulate (before_in (layout_in l) s) (min l.count 32)) (S : size ≡ size_of (get_or l.attributes k missing).attribute_definition.datatype) where
  before-is : get_or xs k 0 ≡ sizes_before (layout_in l).attributes k
  unfolding before_in
  before-is = before_at l s xs k h X ∙ rw e

  size_is : size ≡ size_at (layout_in l) k
  unfolding layout_in attribute_of definition_of
  size_is = S ∙ sym (ap (λ (a : Attribute). size_of a.definition.datatype) (listed_at l.attributes k (min l.count 32) absent h))

  within-point : get_or xs k 0 + size ≤ point_bytes (layout_in l) s
  unfolding point_bytes
  within-point = rw e (omega (arith, before-is, size_is, column-ends (layout_in l) k (length (layout_in l).attributes) (omega (arith, length-in-array l))))

  module _ (points first count : ℕ) (b : is_block (point_bytes (layout_in l) s) points first count ≡ true) where
    pub column_fits : (first ≤ points) × (points * (get_or xs k 0 + size) ≤ 9223372036854775807) × (count * (get_or xs k 0 + size) ≤ 262144)
    column_fits =
        let B = is_block_lem (point_bytes (layout_in l) s) points first count b in
        (omega (arith, B.inside), omega (arith, B.possible, mul-le-mul_left points within-point), omega (arith, B.short, mul-le-mul_left count within-point))

    pub column-found : {q : Part} → q ≡ stretch size (get_or xs k 0) points first count → Some q ≡ part_of (layout_in l) s points first count k
    unfolding part_count
    column-found q =
        found (layout_in l) s points first count k b (rw e (omega (arith, h, length-in-array l)))
        (q ∙ rw (size_is, before-is, e) (column-stretch (layout_in l) points first count k))

-- ---- the one part of interleaved points

module _ (l : PointLayout) {s : Storage} (e : s ≡ Interleaved) (points first count : ℕ) (b : is_block (point_bytes (layout_in l) s) points first count ≡ true) where
  pub one-fits : (first ≤ points) × (points * (0 + l.size) ≤ 9223372036854775807) × (count * (0 + l.size) ≤ 262144)
  unfolding point_bytes layout_in
  one-fits =
      let B = is_block_lem l.size points first count (rw e at b) in
      rw (zero-add l.size) (omega (arith, B.inside), B.possible, B.short)

  pub one_found : {k : ℕ} {q : Part} → k ≡ 0 → q ≡ stretch l.size 0 points first count → Some q ≡ part_of (layout_in l) s points first count k
  unfolding part_count layout_in
  one_found {k} z q = found (layout_in l) s points first count k b (rw e (omega arith)) (q ∙ rw e (one-stretch (layout_in l) points first count k))
