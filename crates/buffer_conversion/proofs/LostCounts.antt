-- How many components are lost: cast by cast over the blocks, by each mapping of the plan, and in all.
use Rattle.std.specs.Prelude.{◌≡◌, ◌&&◌, ◌∷◌, ◌≤◌, ◌<◌, ◌+◌, ◌*◌}
use Rattle.common.specs.Logic.{◌∙◌, sym, ap, refl, true, Bool, false, cond, not, List, [], map, ⊎_elim, ℕ, zero, suc, suc-mul, arith, lt-ltb, le-ltb, eqb, ltb, length, get_or, set, replicate, length-map, length-replicate, get_or-eq_default}
use lib.ListN.{get_or-replicate}
use Rattle.std.specs.List.{sum as sum_all}
use Rattle.std.proofs.lemmas.List.Sums.{sum_by-cons}
use lib.Seq.{get_or-set_same, get_or-set_other, ext_get_or}
use Rattle.common.specs.Lists.{first, sum_below, sum}
use Rattle.common.specs.Refusal.{Outcome, got, refused}
use Rattle.common.proofs.Lists.{order, first-at, length-first, map_at}
use Rattle.common.proofs.Sums.{sum-le, sum_same, sum_first}
use Rattle.attribute_conversion.proofs.Lost.{lost-in-few}
use Rattle.writes.proofs.Hits.{starts-at}
use Rattle.strided.specs.Steps.{no_cast}
use Rattle.strided.specs.Strided.{lost_at, lost_points, points_from}
use Rattle.strided.specs.declared.StridedCast.{StridedCast}
use Rattle.strided.proofs.LostPoints.{lost-none, lost-points-few, lost-apart}
use Rattle.point_buffer.specs.Places.{length_of}
use Rattle.point_buffer.specs.declared.PointRange.{PointRange}
use Rattle.plans.specs.Plan.{Plan}
use Rattle.plans.specs.Records.{no_mapping}
use Rattle.plans.specs.declared.plan.Mapping.{Mapping}
use Rattle.buffer_conversion.specs.Casts.{mapping_cast, casts, lost_before}
use Rattle.buffer_conversion.specs.Lost.{lost_at_point, lost_of, lost_by_mapping, lost_over, lost_counts, converted_answer}

-- ---- over the blocks

-- whether a const parameter says that what is lost is counted
abbrev pub counts : ℕ → Bool
counts n = not (eqb n 0)

pub zeros-at : (j : ℕ) → get_or {A = ℕ} (replicate 32 0) j 0 ≡ 0
zeros-at j = ⊎_elim (λ (h : 32 ≤ j). get_or-eq_default (replicate 32 0) 0 h) (λ (h : j < 32). get_or-replicate 32 j 0 0 h) (order 32 j)

module _ (counted : Bool) (list : List StridedCast) (src : List ℕ) where
  -- before the first point nothing is lost
  pub none_before : (j : ℕ) → lost_before counted list src 0 j ≡ 0
  unfolding lost_before
  none_before j = go (counted && ltb j (length list))
    where
      go : (b : Bool) → cond b (lost_points (get_or list j no_cast) src 0) 0 ≡ 0
      go true = lost-none (get_or list j no_cast) src
      go false = refl

  pub before-few : (n j : ℕ) → lost_before counted list src n j ≤ n * 3
  unfolding lost_before
  before-few n j = go (counted && ltb j (length list))
    where
      go : (b : Bool) → cond b (lost_points (get_or list j no_cast) src n) 0 ≤ n * 3
      go true = lost-points-few (get_or list j no_cast) src n
      go false = omega arith

  -- past the casts nothing is
  none-past : (n j : ℕ) → length list ≤ j → lost_before counted list src n j ≡ 0
  unfolding lost_before
  none-past n j h = go counted
    where
      go : (b : Bool) → cond (b && ltb j (length list)) (lost_points (get_or list j no_cast) src n) 0 ≡ 0
      go true = rw (le-ltb j (length list) h)
      go false = refl

  first-is : (n : ℕ) → length list ≡ 1 → lost_before counted list src n 0 ≡ cond counted (lost_points (get_or list 0 no_cast) src n) 0
  unfolding lost_before
  first-is n e = go counted
    where
      go : (b : Bool) → cond (b && ltb 0 (length list)) (lost_points (get_or list 0 no_cast) src n) 0 ≡ cond b (lost_points (get_or list 0 no_cast) src n) 0
      go true = rw (lt-ltb 0 (length list) (omega arith))
      go false = refl

  -- one cast over all points at once
  pub whole-lost : (n : ℕ) {l : ℕ} → length list ≡ 1 → l ≡ cond counted (lost_points (get_or list 0 no_cast) src n) 0
      → (j : ℕ) → get_or (set (replicate 32 0) 0 l) j 0 ≡ lost_before counted list src n j
  whole-lost n {l} e L zero = L ∙ sym (first-is n e)
  whole-lost n {l} e L (suc j) = zeros-at (suc j) ∙ sym (none-past n (suc j) (omega arith))

  -- m points more of one cast
  pub block_more : (d m j : ℕ) {l : ℕ} → j < length list → l ≡ cond counted (lost_points (points_from d (get_or list j no_cast)) src m) 0
      → lost_before counted list src d j + l ≡ lost_before counted list src (d + m) j
  unfolding lost_before
  block_more d m j {l} h = go counted
    where
      go : (b : Bool) → l ≡ cond b (lost_points (points_from d (get_or list j no_cast)) src m) 0
          → cond (b && ltb j (length list)) (lost_points (get_or list j no_cast) src d) 0 + l ≡ cond (b && ltb j (length list)) (lost_points (get_or list j no_cast) src (d + m)) 0
      go true e = rw (lt-ltb j (length list) h, e) (sym (lost-apart (get_or list j no_cast) src d m))
      go false e = rw e

  -- within a block of m points after the first d: the first k casts have passed over it
  abbrev pub lost_within : ℕ → ℕ → ℕ → ℕ → ℕ
  lost_within d m k j = cond (ltb j k) (lost_before counted list src (d + m) j) (lost_before counted list src d j)

  pub within-start : (d m j : ℕ) → lost_before counted list src d j ≡ lost_within d m 0 j
  within-start d m j = rw (le-ltb j 0 (omega arith))

  pub within_end : (d m k j : ℕ) → k ≡ length list → lost_within d m k j ≡ lost_before counted list src (d + m) j
  within_end d m k j e =
      ⊎_elim (λ (h : k ≤ j). rw (le-ltb j k h) (none-past d j (omega arith) ∙ sym (none-past (d + m) j (omega arith)))) (λ (h : j < k). rw (lt-ltb j k h)) (order k j)

  -- one cast more
  module _ (d m k : ℕ) (lost : List ℕ) {l : ℕ} (few : k < length lost) (I : (j : ℕ) → get_or lost j 0 ≡ lost_within d m k j) (h : k < length list)
      (L : l ≡ cond counted (lost_points (points_from d (get_or list k no_cast)) src m) 0) where
    pub turn_is : get_or lost k 0 + l ≡ lost_before counted list src (d + m) k
    turn_is = ap (λ (x : ℕ). x + l) (I k ∙ rw (le-ltb k k (omega arith))) ∙ block_more d m k h L

    pub within-turn : (j : ℕ) → get_or (set lost k (get_or lost k 0 + l)) j 0 ≡ lost_within d m (k + 1) j
    within-turn j =
        ⊎_elim
        (λ (e : k ≤ j). ⊎_elim
        (λ (g : j ≤ k).
        let z : j ≡ k = omega arith in
        rw (lt-ltb j (k + 1) (omega arith), z) (get_or-set_same lost k (get_or lost k 0 + l) 0 few ∙ turn_is))
        (λ (g : k < j). rw (le-ltb j (k + 1) (omega arith)) (get_or-set_other lost k j (get_or lost k 0 + l) 0 (λ z. omega arith) ∙ I j ∙ rw (le-ltb j k e)))
        (order j k))
        (λ (g : j < k). rw (lt-ltb j (k + 1) (omega arith)) (get_or-set_other lost k j (get_or lost k 0 + l) 0 (λ z. omega arith) ∙ I j ∙ rw (lt-ltb j k g)))
        (order k j)

-- ---- by each mapping

module _ (p : Plan) (from to : PointRange) (src : List ℕ) where
  -- a cast loses what its mapping does
  mapping-lost : (x : Mapping) → length_of from ≡ length_of to → lost_points (mapping_cast p from to x) src (length_of to) ≡ lost_of p from src x
  unfolding lost_points lost_at lost_of lost_at_point mapping_cast
  mapping-lost x e =
      ap (sum_below (lost_at (mapping_cast p from to x) src)) (sym e)
      ∙ sum_same (lost_at (mapping_cast p from to x) src) (lost_at_point p from src x) (length_of from) (λ i l. rw (starts-at _ from.start i))

  few-lost : (x : Mapping) → lost_of p from src x ≤ length_of from * 3
  unfolding lost_of lost_at_point
  few-lost x = sum-le (lost_at_point p from src x) 3 (length_of from) (λ i. lost-in-few _ _ _)

  -- the count at each place: that of the mapping there, and past the mappings 0
  at_place : (j : ℕ) → j < length p.mappings → get_or (lost_by_mapping p from src) j 0 ≡ lost_of p from src (get_or p.mappings j no_mapping)
  unfolding lost_by_mapping
  at_place j h = map_at (lost_of p from src) p.mappings j no_mapping 0 h

  past-places : (j : ℕ) → length p.mappings ≤ j → get_or (lost_by_mapping p from src) j 0 ≡ 0
  unfolding lost_by_mapping
  past-places j h = get_or-eq_default (map (lost_of p from src) p.mappings) 0 (omega (arith, length-map p.mappings (lost_of p from src)))

  length-by-mapping : length (lost_by_mapping p from src) ≡ length p.mappings
  unfolding lost_by_mapping
  length-by-mapping = length-map p.mappings (lost_of p from src)

  -- 32 counts of which each is the mapping's
  are-counts : (lost : List ℕ) → length lost ≡ 32 → ((j : ℕ) → j < 32 → get_or lost j 0 ≡ get_or (lost_by_mapping p from src) j 0) → lost ≡ first 0 (lost_by_mapping p from src) 32
  are-counts lost l h =
      ext_get_or 0 lost _ (l ∙ sym (length-first 0 (lost_by_mapping p from src) 32))
      (λ j k. let f : j < 32 = omega (arith, l) in h j f ∙ sym (first-at 0 (lost_by_mapping p from src) j 32 0 f))

  -- the blocks leave these counts
  pub blocks-counted : (list : List StridedCast) (lost : List ℕ) → list ≡ casts p from to → length_of from ≡ length_of to → length lost ≡ 32
      → ((j : ℕ) → get_or lost j 0 ≡ lost_before true list src (length_of to) j) → lost ≡ lost_counts p from src
  unfolding casts lost_before lost_counts
  blocks-counted list lost E e l h =
      let n : length list ≡ length p.mappings = ap length E ∙ length-map p.mappings (mapping_cast p from to) in
      are-counts lost l
      (λ j f.
      h j
      ∙ ⊎_elim (λ (g : length list ≤ j). rw (le-ltb j (length list) g) (sym (past-places j (omega (arith, n)))))
      (λ (g : j < length list).
      rw (lt-ltb j (length list) g)
      (ap (λ (c : StridedCast). lost_points c src (length_of to)) (ap (λ (cs : List StridedCast). get_or cs j no_cast) E ∙ map_at (mapping_cast p from to) p.mappings j no_mapping no_cast (omega (arith, n)))
      ∙ mapping-lost (get_or p.mappings j no_mapping) e ∙ sym (at_place j (omega (arith, n)))))
      (order (length list) j))

  -- of no point nothing is lost
  pub none-counted : length_of from ≡ 0 → replicate 32 0 ≡ lost_counts p from src
  unfolding lost_counts
  none-counted e =
      are-counts (replicate 32 0) (length-replicate {A = ℕ} 32 0)
      (λ j f.
      get_or-replicate 32 j 0 0 f
      ∙ ⊎_elim (λ (g : length p.mappings ≤ j). sym (past-places j g))
      (λ (g : j < length p.mappings).
      let x = get_or p.mappings j no_mapping in
      let z : lost_of p from src x ≡ 0 = omega (arith, few-lost x, ap (λ (k : ℕ). k * 3) e) in
      sym (at_place j g ∙ z))
      (order (length p.mappings) j))

  -- what all mappings lose is at most this
  few-by-all : (xs : List Mapping) → sum (map (lost_of p from src) xs) ≤ length xs * (length_of from * 3)
  unfolding sum
  few-by-all [] = omega arith
  few-by-all (x ∷ xs) = rw (suc-mul (length xs) (length_of from * 3)) (omega (arith, few-lost x, few-by-all xs))

  pub lost-few : lost_over p from src ≤ length p.mappings * (length_of from * 3)
  unfolding lost_over lost_by_mapping
  lost-few = few-by-all p.mappings

  -- their sum
  pub counts-sum : length p.mappings ≤ 32 → sum (lost_counts p from src) ≡ lost_over p from src
  unfolding lost_over lost_counts
  counts-sum h = sum_first (lost_by_mapping p from src) 32 (omega (arith, length-by-mapping))

-- the sum, as the library adds them up
pub sum-all : (xs : List ℕ) → sum_all xs ≡ sum xs
unfolding sum
sum-all [] = refl
sum-all (x ∷ xs) = sum_by-cons (λ (n : ℕ). n) x xs ∙ ap (λ (n : ℕ). x + n) (sum-all xs)

-- ---- what is handed back, by the outcome

module _ {X Y : Type 0} {o : Outcome X} (y : Y) where
  pub done-with : {x : X} → o ≡ got x → got y ≡ converted_answer o y
  unfolding converted_answer
  done-with e = rw e

  pub refused-with : {n : ℕ} → o ≡ refused n → refused n ≡ converted_answer o y
  unfolding converted_answer
  refused-with e = rw e

-- what is handed back was the one thing that is
pub got-with : {X Y : Type 0} (o : Outcome X) {y z : Y} → converted_answer o y ≡ got z → (x : X) × (o ≡ got x) × (z ≡ y)
unfolding converted_answer
got-with (got x) e = (x, refl, cc)
got-with (refused n) e = absurd (let z : ◌≡◌ {A = ℕ} 0 1 = cc in omega arith)

pub refusal-with : {X Y : Type 0} (o : Outcome X) (y : Y) {n : ℕ} → converted_answer o y ≡ refused n → o ≡ refused n
unfolding converted_answer
refusal-with (got x) y e = absurd (let z : ◌≡◌ {A = ℕ} 0 1 = cc in omega arith)
refusal-with (refused m) y e = cc
