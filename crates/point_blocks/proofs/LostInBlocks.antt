-- The components that the blocks of a file lose add up to those of all its points: a block's point has the attribute bytes of the file's.
use Rattle.std.specs.Prelude.{◌≡◌, ◌∷◌, ◌≤◌, ◌<◌, ◌+◌, ◌*◌}
use Rattle.common.specs.Logic.{ap, refl, true, List, [], map, ℕ, suc, zero-add, arith, length, get_or}
use native.Mathlib.Numerals.{unary_clauses}
use Rattle.common.specs.Lists.{sum_below, sum}
use Rattle.common.proofs.Sums.{sum-apart}
use Rattle.attribute_conversion.specs.Lost.{lost_in}
use Rattle.plans.specs.Claims.{mapping_at, Facts}
use Rattle.plans.specs.Plan.{Plan, is_sound_plan}
use Rattle.plans.specs.Records.{no_mapping}
use Rattle.plans.specs.declared.plan.Mapping.{Mapping}
use Rattle.plans.proofs.Facts.{sound-facts}
use Rattle.buffer_conversion.specs.Lost.{lost_at_point, lost_of, lost_by_mapping, lost_over}
use Rattle.point_buffer.specs.Places.{datatype_at, point_bytes}
use Rattle.point_buffer.specs.declared.PointRange.{PointRange}
use Rattle.point_buffer.specs.declared.Storage.{Storage}
use Rattle.point_blocks.specs.Blocks.{whole, added_up}
use Rattle.point_blocks.specs.Claims.{lost_in_block, all_lost_in_block, LostInBlocks}
use Rattle.point_blocks.specs.Parts.{block_in}
use Rattle.point_blocks.proofs.BlockBytes.{same_bytes_lem}

-- sums of sums, at the places of a list
sum-places : (f g h : Mapping → ℕ) (xs : List Mapping) → ((k : ℕ) → k < length xs → h (get_or xs k no_mapping) ≡ f (get_or xs k no_mapping) + g (get_or xs k no_mapping))
    → sum (map h xs) ≡ sum (map f xs) + sum (map g xs)
unfolding sum
sum-places f g h [] e = refl
sum-places f g h (x ∷ xs) e = omega (arith, e 0 (omega arith), sum-places f g h xs (λ k l. e (suc k) (omega arith)))

-- what each block adds is added up
added-up : (f : ℕ → ℕ → ℕ) (g : ℕ → ℕ) (points : ℕ) → ((first count : ℕ) → first + count ≤ points → g (first + count) ≡ g first + f first count)
    → (counts : List ℕ) (first : ℕ) → first + sum counts ≤ points → g first + added_up f first counts ≡ g (first + sum counts)
unfolding sum added_up
added-up f g points h [] first l = simp unary_clauses refl
added-up f g points h (n ∷ ns) first l =
    let e : first + (n + sum ns) ≡ first + n + sum ns = omega arith in
    omega (arith, added-up f g points h ns (first + n) (omega (arith, e)), h first n (omega arith), ap g e)

-- of n points those before the point k
abbrev points_before : Storage → ℕ → ℕ → PointRange
points_before s n k = record { storage = s; count = n; start = 0; end = k }

module _ (p : Plan) (a : Storage) (points : ℕ) (source : List ℕ) where
  -- the components that the points before the point k lose by the mapping m, and by all mappings
  abbrev lost_to : ℕ → ℕ → ℕ
  lost_to m k = lost_of p (points_before a points k) source (mapping_at p m)

  abbrev all_lost_to : ℕ → ℕ
  all_lost_to k = lost_over p (points_before a points k) source

  none-lost : (m : ℕ) → lost_to m 0 ≡ 0
  unfolding lost_of sum_below
  none-lost m = refl

  none_of : (xs : List Mapping) → sum (map (lost_of p (points_before a points 0) source) xs) ≡ 0
  unfolding sum lost_of sum_below
  none_of [] = refl
  none_of (x ∷ xs) = omega (arith, none_of xs)

  all-none-lost : all_lost_to 0 ≡ 0
  unfolding lost_over lost_by_mapping
  all-none-lost = none_of p.mappings

module _ (p : Plan) (sound : is_sound_plan p ≡ true) (a : Storage) (points : ℕ) (source : List ℕ) (long : length source ≡ points * point_bytes p.source a) where
  facts : Facts p
  facts = sound-facts p sound

  module _ (first count : ℕ) (h : first + count ≤ points) where
    abbrev inner : List ℕ
    inner = block_in p.source a points first count source

    at-point : (m i : ℕ) → m < length p.mappings → i < count
        → lost_at_point p (whole a count) inner (mapping_at p m) i ≡ lost_at_point p (points_before a points (first + count)) source (mapping_at p m) (first + i)
    unfolding lost_at_point
    at-point m i hm hi =
        let x = mapping_at p m in
        rw (zero-add i, zero-add (first + i))
        (ap (lost_in (datatype_at p.source x.source) (datatype_at p.target x.target))
        (same_bytes_lem p.source facts.source a points first count h source long x.source i (facts.source-listed m hm) hi))

    more-lost : (m : ℕ) → m < length p.mappings → lost_to p a points source m (first + count) ≡ lost_to p a points source m first + lost_in_block p a points source m first count
    unfolding lost_of lost_at_point
    more-lost m hm =
        simp unary_clauses
        (sum-apart (lost_at_point p (points_before a points (first + count)) source (mapping_at p m)) (lost_at_point p (whole a count) inner (mapping_at p m)) first count
        (λ i l. at-point m i hm l))

    all-more-lost : all_lost_to p a points source (first + count) ≡ all_lost_to p a points source first + all_lost_in_block p a points source first count
    unfolding lost_over lost_by_mapping
    all-more-lost =
        sum-places (lost_of p (points_before a points first) source) (lost_of p (whole a count) inner) (lost_of p (points_before a points (first + count)) source) p.mappings more-lost

  -- from no point to all of them
  whole_sum : (f : ℕ → ℕ → ℕ) (g : ℕ → ℕ) → ((first count : ℕ) → first + count ≤ points → g (first + count) ≡ g first + f first count)
      → g 0 ≡ 0 → (counts : List ℕ) → sum counts ≡ points → added_up f 0 counts ≡ g points
  whole_sum f g h z counts e =
      let u : 0 + sum counts ≡ points = omega (arith, e) in
      omega (arith, added-up f g points h counts 0 (omega (arith, e)), z, ap g u)

  pub lost-in-blocks : LostInBlocks p a points source
  lost-in-blocks =
      record {
        each = λ counts e m hm. whole_sum (lost_in_block p a points source m) (lost_to p a points source m) (λ first count h. more-lost first count h m hm) (none-lost p a points source m) counts e;
        all = λ counts e. whole_sum (all_lost_in_block p a points source) (all_lost_to p a points source) all-more-lost (all-none-lost p a points source) counts e;
      }
