-- The parts of a block cover it and lie within the file, and the attributes of its points lie in them.
use Rattle.std.specs.Prelude.{◌≡◌, ◌≤◌, ◌<◌, ◌+◌, ◌-◌, ◌*◌, ◌/◌, ◌%◌}
use Rattle.common.specs.Logic.{◌∙◌, sym, ap, refl, subst, true, ℕ, zero, suc, mul-zero, mul-le-mul_left, mul-le-mul_right, add-mul, suc-mul, zero-add, div-add-mod', mod-lt, arith, length}
use native.Mathlib.Nat.{mul-add, lt_of_mul-lt-mul_right, div-lt_iff_lt-mul}
use Rattle.layout.specs.Layout.{at, Layout, is_sound}
use Rattle.writes.specs.Writes.{begins}
use Rattle.point_buffer.specs.Claims.{InAttribute}
use Rattle.point_buffer.specs.Places.{size_at, sizes_before, point_bytes, located}
use Rattle.point_buffer.specs.declared.Storage.{Storage}
use Rattle.point_buffer.specs.declared.Storage.TheVariants.{Interleaved, Columns}
use Rattle.point_buffer.proofs.Laid.{column-ends, storage-claim}
use Rattle.point_blocks.specs.Claims.{InPart, Parts, PartsClaim}
use Rattle.point_blocks.specs.Parts.{part_count, part_at}

module _ (l : Layout) (sound : is_sound l ≡ true) (points first count : ℕ) (h : first + count ≤ points) where
  -- ---- interleaved points: one part
  interleaved-attribute : (j e x : ℕ) → j < length l.attributes → e < count → x < size_at l j → InPart l Interleaved points first count j e x
  unfolding part_count part_at located point_bytes
  interleaved-attribute j e x hj he hx =
      record {
        k = 0;
        y = begins (located l Interleaved count j) e + x;
        listed = omega arith;
        inside = omega (arith, (storage-claim l Interleaved count sound).within j e hj he);
        in_block = sym (zero-add _);
        in-file = omega (arith, add-mul first e l.size);
      }

  interleaved-parts : Parts l Interleaved points first count
  unfolding part_count part_at point_bytes
  interleaved-parts =
      record {
        first_part = λ q. refl;
        next-part = λ k q. absurd (omega arith);
        last-part = λ k q. zero-add _;
        no_part = λ q. absurd (omega arith);
        within = λ k q. omega (arith, add-mul first count l.size, mul-le-mul_right l.size h);
        attributes = interleaved-attribute;
      }

  -- ---- columns: one part for each attribute
  column-attribute : (j e x : ℕ) → j < length l.attributes → e < count → x < size_at l j → InPart l Columns points first count j e x
  unfolding part_count part_at located
  column-attribute j e x hj he hx =
      record {
        k = j;
        y = e * size_at l j + x;
        listed = hj;
        inside = omega (arith, mul-le-mul_right (size_at l j) he, suc-mul e (size_at l j));
        in_block = omega arith;
        in-file = omega (arith, add-mul first e (size_at l j));
      }

  columns-within : (k : ℕ) → k < length l.attributes → (part_at l Columns points first count k).at + (part_at l Columns points first count k).length ≤ points * point_bytes l Columns
  unfolding part_at located point_bytes
  columns-within k q =
      omega (
        arith,
        add-mul first count (size_at l k),
        mul-le-mul_right (size_at l k) h,
        mul-add points (sizes_before l.attributes k) (size_at l k),
        mul-le-mul_left points (column-ends l k (length l.attributes) q),
      )

  column-parts : Parts l Columns points first count
  unfolding part_count part_at located point_bytes sizes_before
  column-parts =
      record {
        first_part = λ q. mul-zero count;
        next-part = λ k q. mul-add count (sizes_before l.attributes k) (size_at l k);
        last-part = λ k q. rw q (sym (mul-add count (sizes_before l.attributes k) (size_at l k)));
        no_part = λ q. rw q (mul-zero count);
        within = columns-within;
        attributes = column-attribute;
      }

  pub parts-of : (s : Storage) → Parts l s points first count
  parts-of Interleaved = interleaved-parts
  parts-of Columns = column-parts

  -- ---- back from the file to the block
  inside : (m : ℕ) → m < length l.attributes → (at l.attributes m).offset + size_at l m ≤ l.size
  unfolding located point_bytes
  inside m q = omega (arith, (storage-claim l Interleaved 1 sound).within m 0 q (omega arith))

  interleaved-back : (k y j i : ℕ) → y < (part_at l Interleaved points first count k).length → InAttribute l Interleaved points j i ((part_at l Interleaved points first count k).at + y)
      → (first ≤ i) × InAttribute l Interleaved count j (i - first) ((part_at l Interleaved points first count k).start + y)
  unfolding part_at located
  interleaved-back k y j i hy x =
      let s : size_at l j + (at l.attributes j).offset ≤ l.size = omega (arith, inside j x.place) in
      let low : first < suc i = lt_of_mul-lt-mul_right l.size (omega (arith, x.last, suc-mul i l.size)) in
      let high : i < first + count = lt_of_mul-lt-mul_right l.size (omega (arith, x.first, add-mul first count l.size)) in
      let e : i ≡ first + (i - first) = omega arith in
      let d : i * l.size ≡ first * l.size + (i - first) * l.size = ap (λ (z : ℕ). z * l.size) e ∙ add-mul first (i - first) l.size in
      (omega arith, record { place = x.place; point = omega arith; first = omega (arith, x.first); last = omega (arith, x.last) })

  columns-back : (k y j i : ℕ) → k < length l.attributes → y < (part_at l Columns points first count k).length → InAttribute l Columns points j i ((part_at l Columns points first count k).at + y)
      → (first ≤ i) × InAttribute l Columns count j (i - first) ((part_at l Columns points first count k).start + y)
  unfolding part_at located
  columns-back k y j i hk hy x =
      let size : ℕ = size_at l k in
      let e : ℕ = y / size in
      let d = div-add-mod' y size in
      let some : 0 < size = positive size hy in
      let m : y % size < size = mod-lt y some in
      let few : e < count = (div-lt_iff_lt-mul {k = size} some).1 hy in
      let there : InAttribute l Columns points k (first + e) (points * sizes_before l.attributes k + first * size + y) =
      record { place = hk; point = omega arith; first = omega (arith, add-mul first e size); last = omega (arith, add-mul first e size) } in
      let L = storage-claim l Columns points sound in
      let p : k ≡ j = L.same_place k j (first + e) i _ there x in
      let q : first + e ≡ i = L.same_point k j (first + e) i _ there x in
      let here : InAttribute l Columns count k (i - first) (count * sizes_before l.attributes k + y) =
      subst (λ (z : ℕ). InAttribute l Columns count k z (count * sizes_before l.attributes k + y)) (omega arith)
      (record { place = hk; point = few; first = omega arith; last = omega arith }) in
      (omega arith, subst (λ (z : ℕ). InAttribute l Columns count z (i - first) (count * sizes_before l.attributes k + y)) p here)
    where
      positive : (size : ℕ) → y < count * size → 0 < size
      positive zero q = absurd (omega (arith, mul-zero count))
      positive (suc n) q = omega arith

  -- a byte of a part that lies in an attribute of the file's point i does so in the block, of the point i - first
  pub back : (s : Storage) (k y j i : ℕ) → k < part_count l s → y < (part_at l s points first count k).length → InAttribute l s points j i ((part_at l s points first count k).at + y)
      → (first ≤ i) × InAttribute l s count j (i - first) ((part_at l s points first count k).start + y)
  unfolding part_count
  back Interleaved k y j i hk hy x = interleaved-back k y j i hy x
  back Columns k y j i hk hy x = columns-back k y j i hk hy x

pub parts-claim : PartsClaim
parts-claim l s points first count sound h = parts-of l sound points first count h s
