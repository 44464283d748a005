-- The block of a file, byte by byte: which byte of the file each is, and that the blocks of a file tell it.
use Rattle.std.specs.Prelude.{◌≡◌, ◌&&◌, ◌≤◌, ◌<◌, ◌+◌, ◌-◌, ◌*◌, ◌/◌, ◌%◌}
use Rattle.common.specs.Logic.{◌∙◌, sym, ap, refl, subst, true, false, Bool, cond, List, flat_map, ⊎_elim, None, Some, ℕ, zero, suc, mul-zero, add-mul, suc-mul, mul-le-mul_left, mul-le-mul_right, div-add-mod', mod-lt, div-lt_iff_lt-mul, eq-or-lt_of_le, arith, le-leb, lt-ltb, ltb-true, ltb, length, get_or, take, drop, length-take, length-drop}
use native.Mathlib.Nat.{mul-add}
use lib.Seq.{ext_get_or, get_or-take, get_or-drop}
use Rattle.common.specs.Lists.{tabulate}
use Rattle.common.proofs.Lists.{order}
use Rattle.layout.specs.Layout.{Layout, is_sound}
use Rattle.layout.specs.declared.point_layout.PointLayout.{PointLayout}
use Rattle.writes.specs.Writes.{begins}
use Rattle.point_buffer.specs.Places.{size_at, point_bytes, located, bytes_at}
use Rattle.point_buffer.specs.Records.{layout_in, before_in}
use Rattle.point_buffer.specs.declared.Storage.{Storage}
use Rattle.point_buffer.specs.declared.Storage.TheVariants.{Interleaved, Columns}
use Rattle.point_buffer.proofs.Sums.{length-in-array}
use Rattle.point_buffer.proofs.Laid.{column-ends, storage-claim}
use Rattle.point_blocks.specs.Blocks.{whole}
use Rattle.point_blocks.specs.Claims.{Parts, FoundClaim, ApartClaim}
use Rattle.point_blocks.specs.Parts.{part_count, part_at, is_block, part_of, block_in}
use Rattle.point_blocks.specs.declared.Part.{Part}
use Rattle.point_blocks.proofs.Parts.{is_block_lem}
use Rattle.point_blocks.proofs.Chained.{joined, Chain, with_part, byte_of, Found, find}
use Rattle.point_blocks.proofs.Covered.{parts-of}

-- ---- the block of a file

module _ (l : Layout) (sound : is_sound l ≡ true) (s : Storage) (points first count : ℕ) (h : first + count ≤ points) (file : List ℕ) (long : length file ≡ points * point_bytes l s) where
  abbrev part : ℕ → Part
  part k = part_at l s points first count k

  parts : Parts l s points first count
  parts = parts-of l sound points first count h s

  chain : Chain part file (part_count l s)
  chain = record { first_part = parts.first_part; next-part = parts.next-part; within = λ k q. omega (arith, long, parts.within k q) }

  length-by : (n : ℕ) → part_count l s ≡ n → length (joined part file n) ≡ count * point_bytes l s
  unfolding tabulate flat_map
  length-by zero e = sym (parts.no_part e)
  length-by (suc k) e = with_part part file (part_count l s) chain k (omega arith) ∙ parts.last-part k e

  pub block-length : length (block_in l s points first count file) ≡ count * point_bytes l s
  unfolding block_in
  block-length = length-by (part_count l s) refl

  pub block-byte : (k y : ℕ) → k < part_count l s → y < (part k).length → get_or (block_in l s points first count file) ((part k).start + y) 0 ≡ get_or file ((part k).at + y) 0
  unfolding block_in
  block-byte k y hk hy = (byte_of part file (part_count l s) chain (part_count l s) k y hk (omega arith) hy).1

  pub in-part : (z : ℕ) → z < length (block_in l s points first count file) → Found part (part_count l s) z
  unfolding block_in
  in-part z hz = find part file (part_count l s) chain (part_count l s) z (omega arith) hz

  -- an attribute of a point of the block
  pub same_byte : (j e x : ℕ) → j < length l.attributes → e < count → x < size_at l j
      → get_or (block_in l s points first count file) (begins (located l s count j) e + x) 0 ≡ get_or file (begins (located l s points j) (first + e) + x) 0
  same_byte j e x hj he hx =
      let i = parts.attributes j e x hj he hx in
      ap (λ (z : ℕ). get_or (block_in l s points first count file) z 0) i.in_block ∙ block-byte i.k i.y i.listed i.inside ∙ ap (λ (z : ℕ). get_or file z 0) (sym i.in-file)

  pub same_bytes_lem : (j e : ℕ) → j < length l.attributes → e < count → bytes_at l (whole s count) j e (block_in l s points first count file) ≡ bytes_at l (whole s points) j (first + e) file
  same_bytes_lem j e hj he =
      let b = block_in l s points first count file in
      let u = (storage-claim l s count sound).within j e hj he in
      let v = (storage-claim l s points sound).within j (first + e) hj (omega arith) in
      let m : length (take (size_at l j) (drop (begins (located l s count j) e) b)) ≡ size_at l j = simp (length-take, length-drop) (omega (arith, block-length)) in
      let n : length (take (size_at l j) (drop (begins (located l s points j) (first + e)) file)) ≡ size_at l j = simp (length-take, length-drop) (omega arith) in
      ext_get_or 0 _ _ (m ∙ sym n)
      (λ x q.
      let hx : x < size_at l j = omega (arith, m) in
      get_or-take (size_at l j) (drop (begins (located l s count j) e) b) x 0 hx ∙ get_or-drop (begins (located l s count j) e) b x 0
      ∙ same_byte j e x hj he hx
      ∙ sym (get_or-take (size_at l j) (drop (begins (located l s points j) (first + e)) file) x 0 hx ∙ get_or-drop (begins (located l s points j) (first + e)) file x 0))

-- ---- a part by what each point has in it

-- the bytes of a point in part k
unfoldable unit : Layout → Storage → ℕ → ℕ
unit l Interleaved k = l.size
unit l Columns k = size_at l k

module _ (l : Layout) (points first count : ℕ) where
  at-is : (s : Storage) (k : ℕ) → (part_at l s points first count k).at ≡ points * before_in l s k + first * unit l s k
  unfolding part_at located before_in unit
  at-is Interleaved k = omega (arith, mul-zero points)
  at-is Columns k = refl

  start_is : (s : Storage) (k : ℕ) → (part_at l s points first count k).start ≡ count * before_in l s k
  unfolding part_at located before_in
  start_is Interleaved k = sym (mul-zero count)
  start_is Columns k = refl

  length-is : (s : Storage) (k : ℕ) → (part_at l s points first count k).length ≡ count * unit l s k
  unfolding part_at unit
  length-is Interleaved k = refl
  length-is Columns k = refl

-- ---- a part that is found, of any layout

-- each part's bytes are some of the point's
in-point : (l : Layout) (s : Storage) (k : ℕ) → k < part_count l s → before_in l s k + unit l s k ≤ point_bytes l s
unfolding part_count before_in unit point_bytes
in-point l Interleaved k h = omega arith
in-point l Columns k h = column-ends l k (length l.attributes) h

-- it lies within the block and within the file, and neither is too long
pub record PartFits (l : Layout) (s : Storage) (points count k : ℕ) (q : Part) : Type 0 where
  pub listed : k < part_count l s
  pub in_block : q.start + q.length ≤ count * point_bytes l s
  pub block-short : count * point_bytes l s ≤ 262144
  pub in-file : q.at + q.length ≤ points * point_bytes l s
  pub file-possible : points * point_bytes l s ≤ 9223372036854775807

module _ (l : Layout) (s : Storage) (points first count k : ℕ) where
  told-by : (b c : Bool) (r q : Part) → cond (b && c) (Some r) None ≡ Some q → (b ≡ true) × (c ≡ true) × (r ≡ q)
  told-by true true r q e = (refl, refl, (cc))
  told-by true false r q e = absurd (let z : ◌≡◌ {A = ℕ} 0 1 = cc in omega arith)
  told-by false c r q e = absurd (let z : ◌≡◌ {A = ℕ} 0 1 = cc in omega arith)

  fits-at : k < part_count l s → is_block (point_bytes l s) points first count ≡ true → PartFits l s points count k (part_at l s points first count k)
  fits-at h b =
      let B = is_block_lem (point_bytes l s) points first count b in
      let p = in-point l s k h in
      let n = length-is l points first count s k in
      record {
        listed = h;
        in_block = omega (arith, start_is l points first count s k, mul-add count (before_in l s k) (unit l s k), mul-le-mul_left count p);
        block-short = B.short;
        in-file = omega (
          arith,
          at-is l points first count s k,
          add-mul first count (unit l s k),
          mul-le-mul_right (unit l s k) B.inside,
          mul-add points (before_in l s k) (unit l s k),
          mul-le-mul_left points p,
        );
        file-possible = B.possible;
      }

  pub part-fits : (q : Part) → part_of l s points first count k ≡ Some q → PartFits l s points count k q
  unfolding part_of
  part-fits q e =
      let t = told-by (is_block (point_bytes l s) points first count) (ltb k (part_count l s)) (part_at l s points first count k) q e in
      subst (PartFits l s points count k) t.2 (fits-at (ltb-true k (part_count l s) t.1) t.0)

-- an array has at most 32
pub parts-few : (l : PointLayout) (s : Storage) → part_count (layout_in l) s ≤ 32
unfolding part_count
parts-few l Interleaved = omega arith
parts-few l Columns = omega (arith, length-in-array l)

-- ---- parts one after another

-- what lies before a later part
later : (l : Layout) (s : Storage) (k j : ℕ) → k < j → j < part_count l s → before_in l s k + unit l s k ≤ before_in l s j
unfolding part_count before_in unit
later l Interleaved k j h g = absurd (omega arith)
later l Columns k j h g = column-ends l k j h

positive : (n y u : ℕ) → y < n * u → 0 < u
positive n y zero h = absurd (omega (arith, mul-zero n))
positive n y (suc u) h = omega arith

-- ---- the blocks of a file

module _ (l : Layout) (s : Storage) (points : ℕ) where
  -- a byte of a part ends before those of a later part begin
  ends-before : (first count k y j : ℕ) → first + count ≤ points → k < j → j < part_count l s → y < (part_at l s points first count k).length
      → (part_at l s points first count k).at + y < points * before_in l s j
  ends-before first count k y j h q g hy =
      omega (
        arith,
        at-is l points first count s k,
        length-is l points first count s k,
        add-mul first count (unit l s k),
        mul-le-mul_right (unit l s k) h,
        mul-add points (before_in l s k) (unit l s k),
        mul-le-mul_left points (later l s k j q g),
      )

  apart : (first count next more k y j x : ℕ) → first + count ≤ next → next + more ≤ points → k < part_count l s → y < (part_at l s points first count k).length → j < part_count l s
      → x < (part_at l s points next more j).length → (part_at l s points first count k).at + y ≡ (part_at l s points next more j).at + x → ⊥
  apart first count next more k y j x h g hk hy hj hx e =
      let u = at-is l points first count s k in
      let v = at-is l points next more s j in
      ⊎_elim
      (λ (q : k ≤ j).
      ⊎_elim
      (λ (z : k ≡ j).
      let b = ap (before_in l s) z in
      let c = ap (λ (i : ℕ). points * before_in l s i + next * unit l s i) z in
      omega (arith, length-is l points first count s k, add-mul first count (unit l s k), mul-le-mul_right (unit l s k) h))
      (λ (z : k < j). omega (arith, ends-before first count k y j (omega arith) z hj hy)) (eq-or-lt_of_le q))
      (λ (q : j < k). omega (arith, ends-before next more j x k g q hk hx)) (order k j)

-- a block that has the point e, the same in two files of so many points
pub record SameBlock (l : Layout) (s : Storage) (points e : ℕ) (file other : List ℕ) : Type 0 where
  pub first : ℕ
  pub count : ℕ
  pub from : first ≤ e
  pub to : e < first + count
  pub inside : first + count ≤ points
  pub same : block_in l s points first count file ≡ block_in l s points first count other

module _ (l : Layout) (sound : is_sound l ≡ true) (s : Storage) (points : ℕ) (file other : List ℕ) (long : length file ≡ points * point_bytes l s) (as_long : length other ≡ points * point_bytes l s) where
  byte-in : (k y : ℕ) → k < part_count l s → y < points * unit l s k → ((e : ℕ) → e < points → SameBlock l s points e file other) → get_or file (points * before_in l s k + y) 0 ≡ get_or other (points * before_in l s k + y) 0
  byte-in k y hk hy S =
      let u : ℕ = unit l s k in
      let some = positive points y u hy in
      let e : ℕ = y / u in
      let d = div-add-mod' y u in
      let m : y % u < u = mod-lt y some in
      let B = S e ((div-lt_iff_lt-mul {k = u} some).1 hy) in
      let x : ℕ = y - B.first * u in
      let low = mul-le-mul_right u B.from in
      let high = mul-le-mul_right u B.to in
      let hx : x < (part_at l s points B.first B.count k).length =
      omega (arith, length-is l points B.first B.count s k, add-mul B.first B.count u, suc-mul e u) in
      let z : points * before_in l s k + y ≡ (part_at l s points B.first B.count k).at + x = omega (arith, at-is l points B.first B.count s k) in
      ap (λ (i : ℕ). get_or file i 0) z ∙ sym (block-byte l sound s points B.first B.count B.inside file long k x hk hx)
      ∙ ap (λ (xs : List ℕ). get_or xs ((part_at l s points B.first B.count k).start + x) 0) B.same
      ∙ block-byte l sound s points B.first B.count B.inside other as_long k x hk hx ∙ ap (λ (i : ℕ). get_or other i 0) (sym z)

  -- the whole file is a block of its own
  pub told : ((e : ℕ) → e < points → SameBlock l s points e file other) → file ≡ other
  told S =
      ext_get_or 0 file other (long ∙ sym as_long)
      (λ z hz.
      let h : 0 + points ≤ points = omega arith in
      let f = in-part l sound s points 0 points h file long z (omega (arith, block-length l sound s points 0 points h file long)) in
      let q : z ≡ points * before_in l s f.k + f.y = omega (arith, f.is, start_is l points 0 points s f.k) in
      ap (λ (i : ℕ). get_or file i 0) q ∙ byte-in f.k f.y f.listed (omega (arith, f.inside, length-is l points 0 points s f.k)) S ∙ ap (λ (i : ℕ). get_or other i 0) (sym q))

pub apart-claim : ApartClaim
apart-claim =
    record {
      blocks = apart;
      parts = λ l s points first count next more k y j x h g q hj hy hx e.
          omega (arith, ends-before l s points first count k y j h q hj hy, at-is l points next more s j);
    }

pub found-claim : FoundClaim
unfolding is_block part_of
found-claim =
    record {
      found = λ l s points first count k h g q hk. rw (le-leb _ _ h, le-leb _ _ g, le-leb _ _ q, lt-ltb _ _ hk);
      only = λ l s points first count k q e.
          let t = told-by l s points first count k (is_block (point_bytes l s) points first count) (ltb k (part_count l s)) (part_at l s points first count k) q e in
          (ltb-true k (part_count l s) t.1, sym t.2);
    }
