-- Each storage: in a sound layout's buffer every attribute of every point lies within, and no byte lies in two.
use Rattle.std.specs.Prelude.{◌≡◌, ◌≤◌, ◌<◌, ◌+◌, ◌-◌, ◌*◌, ◌%◌}
use Rattle.common.specs.Logic.{◌∙◌, sym, ap, refl, subst, true, [], ⊎_elim, ℕ, zero, suc, mul-zero, mul-le-mul_right, mul-le-mul_left, suc-mul, le_of_suc-le-suc, not-suc-le-zero, eq-or-lt_of_le, arith, length}
use native.Mathlib.Nat.{mul-add}
use native.Mathlib.Numerals.{add-one}
use lib.Arith.{digits_mod}
use Rattle.common.proofs.Lists.{order, equal}
use Rattle.layout.specs.Layout.{at, end_of, HasByte, Layout, is_sound}
use Rattle.layout.proofs.Bytes.{sound-disjoint}
use Rattle.writes.specs.Claims.{Hits}
use Rattle.writes.specs.Writes.{Write, begins}
use Rattle.writes.proofs.Hits.{one-point}
use Rattle.point_buffer.specs.Claims.{InAttribute, Laid, StorageClaim, PlacesClaim}
use Rattle.point_buffer.specs.Places.{size_at, sizes_before, point_bytes, located}
use Rattle.point_buffer.specs.declared.Storage.{Storage}
use Rattle.point_buffer.specs.declared.Storage.TheVariants.{Interleaved, Columns}

-- ---- columns

-- an attribute's sizes end before those of the later ones begin
pub column-ends : (l : Layout) (j m : ℕ) → j < m → sizes_before l.attributes j + size_at l j ≤ sizes_before l.attributes m
unfolding sizes_before
column-ends l j zero h = absurd (not-suc-le-zero h)
column-ends l j (suc m) h =
    ⊎_elim (λ e. subst (λ (x : ℕ). sizes_before l.attributes j + size_at l j ≤ sizes_before l.attributes x + size_at l x) e (omega arith))
    (λ q. omega (arith, column-ends l j m q)) (eq-or-lt_of_le (le_of_suc-le-suc h))

-- the values of count points, one after another
in-column : (count before size i : ℕ) → i < count → count * before + i * size + size ≤ count * (before + size)
in-column count before size i h = omega (arith, mul-le-mul_right size h, suc-mul i size, mul-add count before size)

module _ (l : Layout) (sound : is_sound l ≡ true) where
  end-within : (j : ℕ) → j < length l.attributes → (at l.attributes j).offset + size_at l j ≤ l.size
  unfolding end_of
  end-within j h = (sound-disjoint l sound).within j h

  -- an attribute is no longer than the way to the next point's
  pub spaced : (s : Storage) (count j : ℕ) → j < length l.attributes → size_at l j ≤ (located l s count j).stride
  unfolding located
  spaced Interleaved count j h = omega (arith, end-within j h)
  spaced Columns count j h = omega arith

  module _ (count : ℕ) where
    within : (s : Storage) (j i : ℕ) → j < length l.attributes → i < count → begins (located l s count j) i + size_at l j ≤ count * point_bytes l s
    unfolding located point_bytes
    within Interleaved j i hj hi = omega (arith, end-within j hj, mul-le-mul_right l.size hi, suc-mul i l.size)
    within Columns j i hj hi =
        omega (arith, in-column count (sizes_before l.attributes j) (size_at l j) i hi, mul-le-mul_left count (column-ends l j (length l.attributes) hj))

    -- two columns have no byte in common
    apart : (j m i e k : ℕ) → j < m → InAttribute l Columns count j i k → InAttribute l Columns count m e k → ⊥
    unfolding located
    apart j m i e k h x y =
        omega (arith, x.last, y.first, in-column count (sizes_before l.attributes j) (size_at l j) i x.point, mul-le-mul_left count (column-ends l j m h))

    -- the byte of its point that a byte of interleaved points is
    byte-in : (j i k : ℕ) → InAttribute l Interleaved count j i k → HasByte (at l.attributes j) (k % l.size)
    unfolding located end_of
    byte-in j i k x =
        let b : ℕ = k - i * l.size in
        let q : k ≡ i * l.size + b = omega (arith, x.first) in
        let r : k % l.size ≡ b = ap (λ (y : ℕ). y % l.size) q ∙ digits_mod i {m = l.size} {r = b} (omega (arith, x.last, end-within j x.place)) in
        (omega (arith, r, x.first), omega (arith, r, x.last))

    same_place : (s : Storage) (j m i e k : ℕ) → InAttribute l s count j i k → InAttribute l s count m e k → j ≡ m
    same_place Interleaved j m i e k x y =
        equal j m (λ n. (sound-disjoint l sound).unshared j m (k % l.size) x.place y.place n (byte-in j i k x) (byte-in m e k y))
    same_place Columns j m i e k x y =
        ⊎_elim (λ a. ⊎_elim (λ b. omega arith) (λ b. absurd (apart j m i e k b x y)) (order m j)) (λ a. absurd (apart m j e i k a y x)) (order j m)

    abbrev stores : Storage → ℕ → Write
    stores s j = record { place = located l s count j; size = size_at l j; value = λ i. [] }

    -- a byte of an attribute is one of the write that stores it in each point
    hits : (s : Storage) (j i k : ℕ) → InAttribute l s count j i k → Hits (stores s j) count k i (k - begins (located l s count j) i)
    hits s j i k x = record { point = x.point; byte = omega (arith, x.first, x.last); place = omega (arith, x.first) }

    pub laid : (s : Storage) → Laid l s count
    laid s =
        record {
          within = within s;
          same_place = same_place s;
          same_point = λ j m i e k x y.
              let z = subst (λ (n : ℕ). InAttribute l s count n e k) (sym (same_place s j m i e k x y)) y in
              one-point (stores s j) count (spaced s count j x.place) (hits s j i k x) (hits s j e k z);
        }

pub storage-claim : StorageClaim
storage-claim l s count h = laid l h count s

pub places-claim : PlacesClaim
unfolding located point_bytes sizes_before
places-claim =
    record {
      interleaved = λ l count. record { begins = λ j i. omega arith; bytes = refl };
      columns = λ l count.
          record {
            first = omega (arith, mul-zero count);
            next = λ j. rw add-one (omega (arith, mul-add count (sizes_before l.attributes j) (size_at l j)));
            last = λ j e. rw (← e, add-one) (omega (arith, mul-add count (sizes_before l.attributes j) (size_at l j)));
            values = λ j i. rw add-one (omega (arith, suc-mul i (size_at l j)));
          };
    }
