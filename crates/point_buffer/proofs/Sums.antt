-- The sums of the sizes of an array's members, one after another.
use Rattle.std.specs.Prelude.{◌≡◌, ◌≤◌, ◌<◌, ◌+◌}
use Rattle.common.specs.Logic.{◌∙◌, sym, refl, List, ℕ, zero, suc, min, min-eq_left, arith, length, get_or, set, replicate}
use native.Mathlib.Numerals.{add-one}
use lib.Seq.{get_or-set_other}
use Rattle.common.specs.Lists.{first, tabulate}
use Rattle.common.proofs.Lists.{first-set, first-at, tabulate-at}
use Rattle.datatype.specs.Datatype.{size_of}
use Rattle.layout.specs.Layout.{absent, Layout}
use Rattle.layout.specs.Records.{attribute_of, definition_of, missing, layout_of}
use Rattle.layout.specs.declared.point_layout.PointLayout.{PointLayout}
use Rattle.layout.proofs.Listed.{listed_at, length-listed}
use Rattle.point_buffer.specs.Places.{sizes_before, point_bytes}
use Rattle.point_buffer.specs.Records.{layout_in, before_in}
use Rattle.point_buffer.specs.declared.Storage.{Storage}
use Rattle.point_buffer.specs.declared.Storage.TheVariants.{Interleaved, Columns}
use Rattle.point_buffer.proofs.Laid.{column-ends}

-- ---- the array that grows

module _ (l : PointLayout) where
  pub no-sum : 0 ≡ before_in (layout_in l) Columns 0
  unfolding before_in sizes_before
  no-sum = refl

  -- the next sum, of what is at hand and the next size
  pub one_more : (k : ℕ) {sum size : ℕ} → k < min l.count 32 → sum ≡ before_in (layout_in l) Columns k → size ≡ size_of (get_or l.attributes k missing).attribute_definition.datatype
      → sum + size ≡ before_in (layout_in l) Columns (k + 1)
  unfolding before_in layout_in sizes_before attribute_of definition_of
  one_more k h e g = rw (e, g, add-one, listed_at l.attributes k (min l.count 32) absent h)

-- an element more in the array
pub stored : (f : ℕ → ℕ) (xs : List ℕ) (k x : ℕ) → k < length xs → first 0 xs k ≡ tabulate f k → x ≡ f k → first 0 (set xs k x) (k + 1) ≡ tabulate f (k + 1)
unfolding tabulate
stored f xs k x h e g = first-set 0 xs k x h ∙ rw (e, g, add-one)

-- it changes none of the rest
pub rest-stored : (xs : List ℕ) (k x : ℕ) → ((j : ℕ) → k ≤ j → get_or xs j 0 ≡ 0) → (j : ℕ) → k + 1 ≤ j → get_or (set xs k x) j 0 ≡ 0
rest-stored xs k x h j g = get_or-set_other xs k j x 0 (λ e. omega arith) ∙ h j (omega arith)

-- none
pub none-stored : (f : ℕ → ℕ) (xs : List ℕ) → first 0 xs 0 ≡ tabulate f 0
unfolding first tabulate
none-stored f xs = refl

-- ---- what a layout of the array has

-- one that counts no more than the array has
pub in_array : (l : PointLayout) → l.count ≤ 32 → layout_in l ≡ layout_of l
unfolding layout_in layout_of
in_array l h = rw (min-eq_left h)

pub length-in-array : (l : PointLayout) → length (layout_in l).attributes ≡ min l.count 32
unfolding layout_in
length-in-array l = length-listed l.attributes (min l.count 32)

-- all its sizes
pub column-bytes : (l : PointLayout) {n sum : ℕ} → n ≡ min l.count 32 → sum ≡ before_in (layout_in l) Columns n → sum ≡ point_bytes (layout_in l) Columns
unfolding point_bytes before_in
column-bytes l g e = rw (length-in-array l, ← g, e)

-- no sum passes that of all
pub before_small : (l : Layout) (s : Storage) (j : ℕ) → j < length l.attributes → before_in l s j ≤ point_bytes l s
unfolding before_in point_bytes
before_small l Interleaved j h = omega arith
before_small l Columns j h = omega (arith, column-ends l j (length l.attributes) h)

-- the sum in the array
pub before_at : (l : PointLayout) (s : Storage) (xs : List ℕ) (j : ℕ) → j < min l.count 32 → first 0 xs (min l.count 32) ≡ tabulate (before_in (layout_in l) s) (min l.count 32)
    → get_or xs j 0 ≡ before_in (layout_in l) s j
before_at l s xs j h e =
    sym (first-at 0 xs j (min l.count 32) 0 h) ∙ rw e (tabulate-at (before_in (layout_in l) s) (min l.count 32) j 0 h)

-- ---- interleaved points

pub zero-at : (m k : ℕ) → ◌≡◌ {A = ℕ} (get_or (replicate m 0) k 0) 0
zero-at zero k = refl
zero-at (suc m) zero = refl
zero-at (suc m) (suc k) = zero-at m k

-- zeros are their sums
zeros-before : (l : Layout) (m n : ℕ) → first 0 (replicate m 0) n ≡ tabulate (before_in l Interleaved) n
unfolding first tabulate before_in
zeros-before l m zero = refl
zeros-before l m (suc n) = rw (zeros-before l m n, zero-at m n)

pub interleaved-sizes : (l : PointLayout) {s : Storage} → s ≡ Interleaved
    → (l.size ≡ point_bytes (layout_in l) s) × (first 0 (replicate 32 0) (min l.count 32) ≡ tabulate (before_in (layout_in l) s) (min l.count 32))
unfolding point_bytes layout_in
interleaved-sizes l e = rw e (refl, zeros-before _ 32 (min l.count 32))
