-- Of which attributes a pair is; and that in sound layouts no two pairs share a byte of the target: their names differ, so their places in the target do.
use Rattle.std.specs.Prelude.{◌≡◌, ◌&&◌, ◌∷◌, ◌++◌, ◌⊎◌, ◌<◌}
use Rattle.common.specs.Logic.{◌∙◌, sym, ap, refl, subst, true, Bool, false, List, [], flat_map, ⊎_elim, inl, inr, None, Some, Option, ℕ, not-suc-le-zero, arith, length, get_or}
use Rattle.common.specs.Lists.{all, pairwise, place_from}
use Rattle.common.proofs.Lists.{and_left, and_right, decide, all_none, all_append, place_found, same-eq, flat_map-at, at-flat_map}
use Rattle.datatype.specs.Datatype.{same_datatype}
use Rattle.layout.specs.Layout.{Attribute, absent, at, end_of, disjoint, other_name, Layout, is_sound}
use Rattle.layout.specs.Lookup.{named}
use Rattle.layout.proofs.Bytes.{unshared, shares-byte}
use Rattle.layout.proofs.Comparing.{same_names}
use Rattle.layout.proofs.Soundness.{sound-has}
use Rattle.strided.specs.Steps.{no_cast, cast_at}
use Rattle.strided.specs.declared.StridedCast.{StridedCast}
use Rattle.raw_point_converter.specs.Pairs.{single, pair_of_two, pair_with, pair_for, pairs}

-- the source attribute a has a pair among the target's attributes ys
pub record Found (ys : List Attribute) (a : Attribute) : Type 0 where
  pub place : ℕ
  pub listed : place < length ys
  pub name : (at ys place).definition.name ≡ a.definition.name
  pub unequal : same_datatype a.definition.datatype (at ys place).definition.datatype ≡ false
  pub is : pair_for ys a ≡ pair_of_two a (at ys place) ∷ []

abbrev pub made : (ys : List Attribute) (a : Attribute) → Found ys a → StridedCast
made ys a f = pair_of_two a (at ys f.place)

module _ (ys : List Attribute) (a : Attribute) where
  pub pair-skipped : {j : ℕ} → place_from 0 (named a.definition.name) ys ≡ Some j → same_datatype a.definition.datatype (at ys j).definition.datatype ≡ true → pair_for ys a ≡ []
  unfolding pair_for pair_with
  pair-skipped {j} e d = ap (pair_with ys a) e ∙ rw d

  pub pair_made : {j : ℕ} → place_from 0 (named a.definition.name) ys ≡ Some j → same_datatype a.definition.datatype (at ys j).definition.datatype ≡ false → pair_for ys a ≡ pair_of_two a (at ys j) ∷ []
  unfolding pair_for pair_with
  pair_made {j} e d = ap (pair_with ys a) e ∙ rw d

  pub pair-none : place_from 0 (named a.definition.name) ys ≡ None → pair_for ys a ≡ []
  unfolding pair_for pair_with
  pair-none e = ap (pair_with ys a) e

  -- it has none, or one
  one-or-none : (pair_for ys a ≡ []) ⊎ Found ys a
  unfolding named
  one-or-none = go (place_from 0 (named a.definition.name) ys) refl
    where
      go : (o : Option ℕ) → place_from 0 (named a.definition.name) ys ≡ o → (pair_for ys a ≡ []) ⊎ Found ys a
      go None e = inl (pair-none e)
      go (Some j) e =
          let f = place_found (named a.definition.name) ys j absent e in
          ⊎_elim (λ d. inl (pair-skipped e d))
          (λ d. inr (record { place = j; listed = f.0; name = same-eq _ _ f.1; unequal = d; is = pair_made e d }))
          (decide (same_datatype a.definition.datatype (at ys j).definition.datatype))

-- ---- the pairs, place by place

-- the pair p is that of the source attribute at a place
pub record Comes (ys xs : List Attribute) (p : StridedCast) : Type 0 where
  pub place : ℕ
  pub listed : place < length xs
  pub found : Found ys (at xs place)
  pub is : p ≡ made ys (at xs place) found

module _ (ys xs : List Attribute) where
  pub comes : (q : ℕ) → q < length (flat_map (pair_for ys) xs) → Comes ys xs (cast_at (flat_map (pair_for ys) xs) q)
  comes q h =
      let r = flat_map-at (pair_for ys) absent no_cast xs q h in
      ⊎_elim (λ e. absurd (not-suc-le-zero (subst (λ (ps : List StridedCast). r.1 < length ps) e r.3)))
      (λ f. record { place = r.0; listed = r.2; found = f; is = r.4 ∙ only r.1 f r.3 })
      (one-or-none ys (at xs r.0))
    where
      only : {a : Attribute} (n : ℕ) (f : Found ys a) → n < length (pair_for ys a) → get_or (pair_for ys a) n no_cast ≡ made ys a f
      only {a} n f l =
          let z : n ≡ 0 = omega (arith, ap length f.is) in
          ap (λ (ps : List StridedCast). get_or ps n no_cast) f.is ∙ ap (λ (k : ℕ). get_or (made ys a f ∷ []) k no_cast) z

  pub among : (i : ℕ) → i < length xs → (f : Found ys (at xs i)) → (q : ℕ) × (q < length (flat_map (pair_for ys) xs)) × (cast_at (flat_map (pair_for ys) xs) q ≡ made ys (at xs i) f)
  among i h f =
      let r = at-flat_map (pair_for ys) absent no_cast xs i 0 h (omega (arith, ap length f.is)) in
      (r.0, r.1, r.2 ∙ ap (λ (ps : List StridedCast). get_or ps 0 no_cast) f.is)

-- ---- no byte in two

-- the attribute that a cast writes, without its name
abbrev pub cast_target : StridedCast → Attribute
cast_target c = record { definition = record { name = []; datatype = c.to }; offset = c.target.base }

unfoldable pub disjoint_targets : StridedCast → StridedCast → Bool
disjoint_targets p q = disjoint (cast_target p) (cast_target q)

both : (a b : Bool) → a ≡ true → b ≡ true → (a && b) ≡ true
both a b p q = rw (p, q)

module _ (ys : List Attribute) (separate : pairwise disjoint ys ≡ true) where
  two-unshared : (a b : Attribute) (f : Found ys a) (g : Found ys b) → other_name a b ≡ true → disjoint_targets (made ys a f) (made ys b g) ≡ true
  unfolding disjoint_targets pair_of_two single end_of
  two-unshared a b f g o =
      ⊎_elim (λ e. e)
      (λ e.
      let s = shares-byte (cast_target (made ys a f)) (cast_target (made ys b g)) e in
      absurd (unshared ys separate f.place g.place _ f.listed g.listed (λ q. same_names a b (sym f.name ∙ ap (λ (i : ℕ). (at ys i).definition.name) q ∙ g.name) o) s.0 s.1))
      (decide (disjoint (cast_target (made ys a f)) (cast_target (made ys b g))))

  one-unshared : (a : Attribute) (f : Found ys a) (xs : List Attribute) → all (other_name a) xs ≡ true → all (disjoint_targets (made ys a f)) (flat_map (pair_for ys) xs) ≡ true
  unfolding all flat_map
  one-unshared a f [] o = refl
  one-unshared a f (x ∷ xs) o =
      all_append (disjoint_targets (made ys a f)) (pair_for ys x) (flat_map (pair_for ys) xs)
      ∙ both _ _ (⊎_elim (λ e. sym (all_none _ e)) here (one-or-none ys x)) (one-unshared a f xs (and_right (other_name a x) (all (other_name a) xs) o))
    where
      here : Found ys x → all (disjoint_targets (made ys a f)) (pair_for ys x) ≡ true
      here g = ap (all (disjoint_targets (made ys a f))) g.is ∙ both _ true (two-unshared a x f g (and_left (other_name a x) (all (other_name a) xs) o)) refl

  all-unshared : (xs : List Attribute) → pairwise other_name xs ≡ true → pairwise disjoint_targets (flat_map (pair_for ys) xs) ≡ true
  unfolding pairwise flat_map
  all-unshared [] o = refl
  all-unshared (x ∷ xs) o =
      let r = all-unshared xs (and_right (all (other_name x) xs) (pairwise other_name xs) o) in
      ⊎_elim (λ e. ap (λ (ps : List StridedCast). pairwise disjoint_targets (ps ++ flat_map (pair_for ys) xs)) e ∙ r)
      (λ f. ap (λ (ps : List StridedCast). pairwise disjoint_targets (ps ++ flat_map (pair_for ys) xs)) f.is ∙ both _ _ (one-unshared x f xs (and_left (all (other_name x) xs) (pairwise other_name xs) o)) r)
      (one-or-none ys x)

pub pairs-unshared : (l m : Layout) → is_sound l ≡ true → is_sound m ≡ true → pairwise disjoint_targets (pairs l m) ≡ true
unfolding pairs
pairs-unshared l m s t = all-unshared m.attributes (sound-has m t).disjoint l.attributes (sound-has l s).names
