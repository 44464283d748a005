-- A mapping put into a sound plan: the plan stays sound, and there is a slot for it.
use Rattle.std.specs.Prelude.{◌≡◌, ◌∷◌, ◌+◌}
use Rattle.common.specs.Logic.{◌∙◌, sym, ap, refl, true, Bool, false, not, List, [], map, None, Some, Option, ℕ, suc, zero, eqb-true, eqb, length, get_or, set, length-append, length-set}
use lib.Seq.{map-set_same}
use Rattle.common.specs.Lists.{all, pairwise, against, place_from}
use Rattle.common.proofs.Lists.{and_left, and_right, all_snoc, pairwise-snoc, place_found}
use Rattle.layout.specs.Lookup.{is_found}
use Rattle.plans.specs.Makers.{has_target, placed_at, with_mapping, custom_plan}
use Rattle.plans.specs.Plan.{Plan, is_listed, has_pair, other_target}
use Rattle.plans.specs.Records.{no_mapping, mapped, slot_in, slot_of}
use Rattle.plans.specs.declared.plan.Mapping.{Mapping}
use Rattle.plans.proofs.Mappings.{SoundPlan}
use Rattle.plans.proofs.Slots.{found-other, length-mapped}

-- ---- an element replaced

all_set : (p : Mapping → Bool) (xs : List Mapping) (i : ℕ) (a : Mapping) → all p xs ≡ true → p a ≡ true → all p (set xs i a) ≡ true
unfolding all
all_set p [] i a h k = refl
all_set p (x ∷ xs) zero a h k = rw (k, and_right (p x) (all p xs) h)
all_set p (x ∷ xs) (suc i) a h k = rw (and_left (p x) (all p xs) h, all_set p xs i a (and_right (p x) (all p xs) h) k)

unfoldable target_of : Mapping → ℕ
target_of x = x.target

unfoldable differs : ℕ → ℕ → Bool
differs a b = not (eqb a b)

all-targets : (x : Mapping) (xs : List Mapping) → all (other_target x) xs ≡ all (differs x.target) (map target_of xs)
unfolding all other_target differs target_of
all-targets x [] = refl
all-targets x (y ∷ ys) = rw (all-targets x ys)

pairwise-targets : (xs : List Mapping) → pairwise other_target xs ≡ pairwise differs (map target_of xs)
unfolding pairwise target_of
pairwise-targets [] = refl
pairwise-targets (x ∷ xs) = rw (all-targets x xs, pairwise-targets xs)

pairwise-set : (xs : List Mapping) (i : ℕ) (a : Mapping) → a.target ≡ (get_or xs i no_mapping).target → pairwise other_target (set xs i a) ≡ pairwise other_target xs
unfolding target_of
pairwise-set xs i a e = pairwise-targets (set xs i a) ∙ ap (pairwise differs) (map-set_same target_of xs i a no_mapping e) ∙ sym (pairwise-targets xs)

-- ---- the list with the mapping

module _ (xs : List Mapping) (x : Mapping) where
  all_placed : (p : Mapping → Bool) (o : Option ℕ) → all p xs ≡ true → p x ≡ true → all p (placed_at xs x o) ≡ true
  unfolding placed_at
  all_placed p None h k = all_snoc p xs x ∙ rw (h, k)
  all_placed p (Some i) h k = all_set p xs i x h k

  distinct-placed : (o : Option ℕ) → place_from 0 (has_target x.target) xs ≡ o → pairwise other_target xs ≡ true → pairwise other_target (placed_at xs x o) ≡ true
  unfolding placed_at has_target is_found
  distinct-placed None e d =
      let n : not (all (against other_target x) xs) ≡ false = sym (found-other 0 x xs) ∙ rw e in
      pairwise-snoc other_target xs x ∙ rw (d, all_true (all (against other_target x) xs) n)
    where
      all_true : (b : Bool) → not b ≡ false → b ≡ true
      all_true true h = refl
      all_true false h = sym h
  distinct-placed (Some i) e d =
      pairwise-set xs i x (sym (eqb-true _ _ (place_found (has_target x.target) xs i no_mapping e).1)) ∙ d

-- ---- the plan

pub custom-sound : (p : Plan) (x : Mapping) → SoundPlan p → is_listed p.source p.target x ≡ true → has_pair p.source p.target x ≡ true → SoundPlan (custom_plan p x)
unfolding custom_plan with_mapping
custom-sound p x s l h =
    record {
      source = s.source;
      target = s.target;
      listed = all_placed p.mappings x (is_listed p.source p.target) _ s.listed l;
      distinct = distinct-placed p.mappings x _ refl s.distinct;
      pairs = all_placed p.mappings x (has_pair p.source p.target) _ s.pairs h;
    }

-- ---- its slot and its count

module _ (ms : List Mapping) (k : ℕ) (x : Mapping) where
  pub joined-slot : place_from 0 (has_target x.target) (mapped ms k) ≡ None → slot_of ms k x.target ≡ k
  unfolding slot_of slot_in
  joined-slot e = rw e

  pub joined-count : place_from 0 (has_target x.target) (mapped ms k) ≡ None → length (with_mapping (mapped ms k) x) ≡ k + 1
  unfolding with_mapping placed_at
  joined-count e = rw e (length-append (mapped ms k) (x ∷ []) ∙ rw (length-mapped ms k))

  pub replaced-slot : {i : ℕ} → place_from 0 (has_target x.target) (mapped ms k) ≡ Some i → slot_of ms k x.target ≡ i
  unfolding slot_of slot_in
  replaced-slot e = rw e

  pub replaced-count : {i : ℕ} → place_from 0 (has_target x.target) (mapped ms k) ≡ Some i → length (with_mapping (mapped ms k) x) ≡ k
  unfolding with_mapping placed_at
  replaced-count {i} e = rw e (length-set (mapped ms k) i x ∙ length-mapped ms k)
