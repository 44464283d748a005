-- The slot of a mapping: found by its target, or the next one; and arrays of 32 slots.
use Rattle.std.specs.Prelude.{◌≡◌, ◌∷◌, ◌++◌, ◌≤◌, ◌<◌, ◌+◌, ◌-◌}
use Rattle.common.specs.Logic.{◌∙◌, sym, ap, refl, Bool, cond, not, List, [], append_assoc, ⊎_elim, Some, ℕ, suc, arith, eqb, length, get_or, take, set, length-append, replicate}
use lib.Seq.{set-append_seam}
use native.Mathlib.Numerals.{add-one}
use Rattle.std.specs.List.{position_from}
use Rattle.common.specs.Lists.{all, against, place_from}
use Rattle.common.proofs.Lists.{decide, place_found, length-first, first-none, first_more, first-take, first-split}
use Rattle.layout.specs.Lookup.{is_found}
use Rattle.plans.specs.Makers.{has_target}
use Rattle.plans.specs.Plan.{other_target}
use Rattle.plans.specs.Records.{no_mapping, mapped, filled}
use Rattle.plans.specs.declared.plan.Mapping.{Mapping}

-- ---- the first mappings of an array

pub mapped-none : (ms : List Mapping) → mapped ms 0 ≡ []
unfolding mapped
mapped-none ms = first-none no_mapping ms

pub mapped-more : (ms : List Mapping) (k : ℕ) → mapped ms (k + 1) ≡ mapped ms k ++ (get_or ms k no_mapping ∷ [])
unfolding mapped
mapped-more ms k = first_more no_mapping ms k

pub length-mapped : (ms : List Mapping) (k : ℕ) → length (mapped ms k) ≡ k
unfolding mapped
length-mapped ms k = length-first no_mapping ms k

pub mapped-split : (ms : List Mapping) (i k : ℕ) → i < k → (rest : List Mapping) × (mapped ms k ≡ mapped ms i ++ (get_or ms i no_mapping ∷ rest))
unfolding mapped
mapped-split ms i k h = first-split no_mapping ms i k h

-- as a part of the array
pub mapped-take : (ms : List Mapping) (k : ℕ) → k ≤ length ms → mapped ms k ≡ take k ms
unfolding mapped
mapped-take ms k h = first-take no_mapping ms k h

-- ---- the slot of a target

-- no mapping has the target where all have others
pub found-other : (n : ℕ) (x : Mapping) (xs : List Mapping) → is_found (place_from n (has_target x.target) xs) ≡ not (all (against other_target x) xs)
unfolding place_from all is_found has_target against other_target
found-other n x [] = refl
found-other n x (y ∷ ys) = ⊎_elim (λ e. rw e) (λ e. rw e (found-other (suc n) x ys)) (decide (eqb y.target x.target))

-- a place that was found is among the first k
pub slot-found : (ms : List Mapping) (k j i : ℕ) → place_from 0 (has_target j) (mapped ms k) ≡ Some i → i < k
slot-found ms k j i h = omega (arith, (place_found (has_target j) (mapped ms k) i no_mapping h).0, length-mapped ms k)

-- the place, as the library's search tells it
pub position-place : (p : Mapping → Bool) (n : ℕ) (xs : List Mapping) → position_from p n xs ≡ place_from n p xs
unfolding place_from
position-place p n [] = refl
position-place p n (x ∷ xs) = ap (cond (p x) (Some n)) (ap (λ (k : ℕ). position_from p k xs) (add-one n) ∙ position-place p (suc n) xs)

-- ---- an array of 32 slots

pub filled_none : filled [] ≡ replicate 32 no_mapping
unfolding filled
filled_none = refl

pub filled_more : (xs : List Mapping) (x : Mapping) → length xs < 32 → set (filled xs) (length xs) x ≡ filled (xs ++ (x ∷ []))
unfolding filled
filled_more xs x h =
    let k = 31 - length xs in
    let a : 32 - length xs ≡ suc k = omega arith in
    let b : 32 - length (xs ++ (x ∷ [])) ≡ k = omega (arith, length-append xs (x ∷ [])) in
    rw (a, b) (set-append_seam xs no_mapping (replicate k no_mapping) x ∙ sym (append_assoc xs (x ∷ []) (replicate k no_mapping)))
