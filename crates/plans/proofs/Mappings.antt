-- What a sound plan has, fact by fact; and that distinct targets are no more than the target's attributes.
use Rattle.std.specs.Prelude.{◌≡◌, ◌&&◌, ◌∷◌, ◌≤◌, ◌<◌}
use Rattle.common.specs.Logic.{sym, refl, true, Bool, false, not, List, [], ⊎_elim, Some, ℕ, arith, eq-eqb, not-true, ltb-true, ltb, length, get_or}
use Rattle.common.specs.Lists.{all, pairwise, place_from, every}
use Rattle.common.specs.Refusal.{passes, not_holding}
use Rattle.common.proofs.Lists.{and_left, and_right, clash, decide, order, every-cons, all-at, pairwise-at, place_found, first-at}
use Rattle.common.proofs.Pigeonhole.{pigeonhole}
use Rattle.layout.specs.Layout.{Layout, is_sound}
use Rattle.layout.proofs.Soundness.{sound-has}
use Rattle.plans.specs.Makers.{has_target, mapping_lines}
use Rattle.plans.specs.Plan.{Plan, is_listed, has_pair, other_target, is_sound_plan}
use Rattle.plans.specs.Records.{no_mapping, mapped}
use Rattle.plans.specs.Steps.{fits, all_fit}
use Rattle.plans.specs.declared.plan.Mapping.{Mapping}
use Rattle.plans.proofs.Slots.{length-mapped}

-- ---- lists of which 13 and 14 hold of none

fits_both : (l m : Layout) (x : Mapping) → fits l m x ≡ (is_listed l m x && has_pair l m x)
unfolding fits mapping_lines passes all not_holding
fits_both l m x = go (is_listed l m x) (has_pair l m x)
  where
    go : (a b : Bool) → (not (not a) && (not (not b) && true)) ≡ (a && b)
    go true true = refl
    go true false = refl
    go false b = refl

all_both : (l m : Layout) (xs : List Mapping) → all (fits l m) xs ≡ (all (is_listed l m) xs && all (has_pair l m) xs)
unfolding all
all_both l m [] = refl
all_both l m (x ∷ xs) =
    rw (fits_both l m x, all_both l m xs) (swap (is_listed l m x) (has_pair l m x) (all (is_listed l m) xs) (all (has_pair l m) xs))
  where
    swap : (a b c d : Bool) → ((a && b) && (c && d)) ≡ ((a && c) && (b && d))
    swap true true c d = refl
    swap true false true d = refl
    swap true false false d = refl
    swap false b c d = refl

pub fit-sound : (p : Plan) → is_sound p.source ≡ true → is_sound p.target ≡ true → all_fit p.source p.target p.mappings ≡ is_sound_plan p
unfolding all_fit is_sound_plan every
fit-sound p s t =
    rw (s, t, all_both p.source p.target p.mappings)
    (regroup (all (is_listed p.source p.target) p.mappings) (all (has_pair p.source p.target) p.mappings) (pairwise other_target p.mappings))
  where
    regroup : (a b c : Bool) → ((a && b) && c) ≡ (a && (c && (b && true)))
    regroup true true true = refl
    regroup true true false = refl
    regroup true false true = refl
    regroup true false false = refl
    regroup false b c = refl

-- one mapping that does not fit, or whose target stands before it
module _ (l m : Layout) (xs : List Mapping) (i : ℕ) (h : i < length xs) where
  pub unfit : fits l m (get_or xs i no_mapping) ≡ false → false ≡ all_fit l m xs
  unfolding all_fit
  unfit e =
      ⊎_elim (λ a. clash (all-at (fits l m) xs i no_mapping (and_left (all (fits l m) xs) (pairwise other_target xs) a) h) e) sym
      (decide (all (fits l m) xs && pairwise other_target xs))

  pub repeated : {k : ℕ} → place_from 0 (has_target (get_or xs i no_mapping).target) (mapped xs i) ≡ Some k → false ≡ all_fit l m xs
  unfolding all_fit has_target other_target mapped
  repeated {k} e =
      let f = place_found (has_target (get_or xs i no_mapping).target) (mapped xs i) k no_mapping e in
      let b : k < i = omega (arith, f.0, length-mapped xs i) in
      ⊎_elim
      (λ a. clash (rw (first-at no_mapping xs k i no_mapping b) at f.1) (not-true _ (pairwise-at other_target xs k i no_mapping (and_right (all (fits l m) xs) (pairwise other_target xs) a) b h))) sym
      (decide (all (fits l m) xs && pairwise other_target xs))

-- ---- what a sound plan has

pub record SoundPlan (p : Plan) : Type 0 where
  pub source : is_sound p.source ≡ true
  pub target : is_sound p.target ≡ true
  pub listed : all (is_listed p.source p.target) p.mappings ≡ true
  pub distinct : pairwise other_target p.mappings ≡ true
  pub pairs : all (has_pair p.source p.target) p.mappings ≡ true

pub plan-has : (p : Plan) → is_sound_plan p ≡ true → SoundPlan p
unfolding is_sound_plan
plan-has p h =
    let a = every-cons _ _ h in
    let b = every-cons _ _ a.1 in
    let c = every-cons _ _ b.1 in
    let d = every-cons _ _ c.1 in
    record { source = a.0; target = b.0; listed = c.0; distinct = d.0; pairs = (every-cons _ _ d.1).0 }

pub plan-from : (p : Plan) → SoundPlan p → is_sound_plan p ≡ true
unfolding is_sound_plan every
plan-from p s = rw (s.source, s.target, s.listed, s.distinct, s.pairs)

pub not-sound-plan : (p : Plan) → (SoundPlan p → ⊥) → is_sound_plan p ≡ false
not-sound-plan p n = ⊎_elim (λ e. absurd (n (plan-has p e))) (λ e. e) (decide (is_sound_plan p))

-- ---- distinct targets below n are at most n

unfoldable pub target_below : ℕ → Mapping → Bool
target_below n x = ltb x.target n

two-onto-one : (xs : List Mapping) (i j : ℕ) → pairwise other_target xs ≡ true → i < j → j < length xs
    → (get_or xs i no_mapping).target ≡ (get_or xs j no_mapping).target → ⊥
unfolding other_target
two-onto-one xs i j d l h e = clash (eq-eqb _ _ e) (not-true _ (pairwise-at other_target xs i j no_mapping d l h))

pub distinct-few : (n : ℕ) (xs : List Mapping) → pairwise other_target xs ≡ true → all (target_below n) xs ≡ true → length xs ≤ n
unfolding target_below
distinct-few n xs d h =
    ⊎_elim (λ l. l)
    (λ l.
    absurd
    (pigeonhole n (λ i. (get_or xs i no_mapping).target)
    (λ i a. ltb-true _ n (all-at (target_below n) xs i no_mapping h (omega arith)))
    (λ i j a b e.
    ⊎_elim (λ p. ⊎_elim (λ q. omega arith) (λ q. absurd (two-onto-one xs i j d q (omega arith) e)) (order j i))
    (λ p. absurd (two-onto-one xs j i d p (omega arith) (sym e))) (order i j))))
    (order (length xs) n)

-- a listed mapping's target is below the number of the target's attributes
listed_below : (l m : Layout) (xs : List Mapping) → all (is_listed l m) xs ≡ true → all (target_below (length m.attributes)) xs ≡ true
unfolding all is_listed target_below
listed_below l m [] h = refl
listed_below l m (x ∷ xs) h =
    let r = listed_below l m xs (and_right (is_listed l m x) (all (is_listed l m) xs) h) in
    rw (and_right (ltb x.source (length l.attributes)) (ltb x.target (length m.attributes)) (and_left (is_listed l m x) (all (is_listed l m) xs) h), r)

-- so a sound plan has at most as many mappings as its target has attributes, and those are at most 32
pub listed-few : (l m : Layout) (xs : List Mapping) → all (is_listed l m) xs ≡ true → pairwise other_target xs ≡ true → length xs ≤ length m.attributes
listed-few l m xs h d = distinct-few (length m.attributes) xs d (listed_below l m xs h)

pub few-mappings : (p : Plan) → SoundPlan p → length p.mappings ≤ 32
few-mappings p s = omega (arith, listed-few p.source p.target p.mappings s.listed s.distinct, (sound-has p.target s.target).few)
