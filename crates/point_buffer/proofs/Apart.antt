-- The sizes of a sound layout's attributes sum to at most its size: each byte of a point lies in one attribute at most, so that the bytes
-- of the attributes, counted on from one attribute to the next, are different numbers below the size.
use Rattle.std.specs.Prelude.{◌≡◌, ◌≤◌, ◌<◌, ◌+◌, ◌-◌}
use Rattle.common.specs.Logic.{◌∙◌, sym, ap, true, cond, ⊎_elim, ℕ, zero, suc, not-suc-le-zero, arith, lt-ltb, le-ltb, ltb, length}
use Rattle.common.proofs.Lists.{order, equal}
use Rattle.common.proofs.Pigeonhole.{pigeonhole}
use Rattle.layout.specs.Layout.{at, end_of, Layout, is_sound}
use Rattle.layout.proofs.Bytes.{sound-disjoint}
use Rattle.layout.proofs.Soundness.{sound-has}
use Rattle.point_buffer.specs.Places.{size_at, sizes_before, point_bytes}
use Rattle.point_buffer.specs.declared.Storage.{Storage}
use Rattle.point_buffer.specs.declared.Storage.TheVariants.{Interleaved, Columns}

module _ (l : Layout) where
  -- the byte of a point that the byte i of the first n attributes is
  unfoldable byte_of : ℕ → ℕ → ℕ
  byte_of zero i = 0
  byte_of (suc n) i = cond (ltb i (sizes_before l.attributes n)) (byte_of n i) ((at l.attributes n).offset + (i - sizes_before l.attributes n))

  -- it is the byte b of the attribute at place j
  record Counted (n i : ℕ) : Type 0 where
    j : ℕ
    b : ℕ
    listed : j < n
    within : b < size_at l j
    counted : i ≡ sizes_before l.attributes j + b
    is : byte_of n i ≡ (at l.attributes j).offset + b

  counted-byte : (n i : ℕ) → i < sizes_before l.attributes n → Counted n i
  unfolding byte_of sizes_before
  counted-byte zero i h = absurd (not-suc-le-zero h)
  counted-byte (suc n) i h =
      ⊎_elim
      (λ (e : sizes_before l.attributes n ≤ i).
      record { j = n; b = i - sizes_before l.attributes n; listed = omega arith; within = omega arith; counted = omega arith; is = rw (le-ltb i (sizes_before l.attributes n) e) })
      (λ (e : i < sizes_before l.attributes n).
      let c = counted-byte n i e in
      record { j = c.j; b = c.b; listed = omega (arith, c.listed); within = c.within; counted = c.counted; is = rw (lt-ltb i (sizes_before l.attributes n) e) c.is })
      (order (sizes_before l.attributes n) i)

  module _ (sound : is_sound l ≡ true) where
    abbrev sum : ℕ
    sum = sizes_before l.attributes (length l.attributes)

    below : (i : ℕ) → i < sum → byte_of (length l.attributes) i < l.size
    unfolding end_of
    below i h =
        let c = counted-byte (length l.attributes) i h in
        omega (arith, c.is, c.within, (sound-disjoint l sound).within c.j c.listed)

    different : (i e : ℕ) → i < sum → e < sum → byte_of (length l.attributes) i ≡ byte_of (length l.attributes) e → i ≡ e
    unfolding end_of
    different i e h k q =
        let c = counted-byte (length l.attributes) i h in
        let d = counted-byte (length l.attributes) e k in
        let s : (at l.attributes c.j).offset + c.b ≡ (at l.attributes d.j).offset + d.b = sym c.is ∙ q ∙ d.is in
        let z : c.j ≡ d.j =
        equal c.j d.j
        (λ n. (sound-disjoint l sound).unshared c.j d.j ((at l.attributes c.j).offset + c.b) c.listed d.listed n (omega arith, omega (arith, c.within)) (omega (arith, s), omega (arith, s, d.within))) in
        let o = ap (λ (x : ℕ). (at l.attributes x).offset) z in
        let f = ap (λ (x : ℕ). sizes_before l.attributes x) z in
        omega (arith, c.counted, d.counted, s, o, f)

    -- no more than the size
    pub sum-within : sum ≤ l.size
    sum-within =
        ⊎_elim (λ a. a)
        (λ a. absurd (pigeonhole l.size (byte_of (length l.attributes)) (λ i h. below i (omega arith)) (λ i e h k. different i e (omega arith) (omega arith))))
        (order sum l.size)

    pub point-small : (s : Storage) → point_bytes l s ≤ 65535
    unfolding point_bytes
    point-small Interleaved = omega (arith, (sound-has l sound).small)
    point-small Columns = omega (arith, sum-within, (sound-has l sound).small)
