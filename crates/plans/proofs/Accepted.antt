-- Every plan that a maker gives is sound.
use Rattle.std.specs.Prelude.{◌≡◌, ◌∷◌, ◌++◌, ◌≤◌, ◌<◌, ◌+◌}
use Rattle.common.specs.Logic.{◌∙◌, sym, refl, subst, true, Bool, false, not, List, [], filter_map, None, Some, Option, ℕ, suc, zero, arith, not-false, lt-ltb, ne_eqb, ltb-true, length}
use native.Mathlib.Numerals.{add-one}
use Rattle.common.specs.Lists.{all, pairwise, against}
use Rattle.common.specs.Refusal.{got, check, passes}
use Rattle.common.proofs.Lists.{and_left, and_right, all_snoc, all-at, pairwise-snoc, place_found}
use Rattle.common.proofs.Refusals.{passes-cons, passes-flat_map, check-got}
use Rattle.layout.specs.Layout.{Attribute, absent, at, Layout, is_sound}
use Rattle.layout.specs.Lookup.{named}
use Rattle.plans.specs.Claims.{MakersClaim}
use Rattle.plans.specs.Makers.{source_of, lacks_pair, pair_lines, target_lines, mapping_to, mapping_of, places, default_plan, layouts_lines, for_layouts, for_layouts_with_default, mapping_lines, custom_lines, custom_plan, set_custom_mapping}
use Rattle.plans.specs.Plan.{Plan, is_listed, has_pair, other_target, is_sound_plan}
use Rattle.plans.specs.Steps.{lines_by, lines_for}
use Rattle.plans.specs.declared.plan.Mapping.{Mapping}
use Rattle.plans.specs.declared.plan.MissingSource.{MissingSource}
use Rattle.plans.specs.declared.plan.MissingSource.TheVariants.{Refuse, PassOver}
use Rattle.plans.proofs.Custom.{custom-sound}
use Rattle.plans.proofs.Defaults.{joins-one, joins-none}
use Rattle.plans.proofs.Mappings.{SoundPlan, plan-has, plan-from, target_below}

-- ---- targets that rise

below_more : (k : ℕ) (xs : List Mapping) → all (target_below k) xs ≡ true → all (target_below (k + 1)) xs ≡ true
unfolding all target_below
below_more k [] h = refl
below_more k (x ∷ xs) h =
    let l = ltb-true x.target k (and_left (target_below k x) (all (target_below k) xs) h) in
    rw (lt-ltb x.target (k + 1) (omega arith), below_more k xs (and_right (target_below k x) (all (target_below k) xs) h))

below_other : (k : ℕ) (x : Mapping) (xs : List Mapping) → x.target ≡ k → all (target_below k) xs ≡ true → all (against other_target x) xs ≡ true
unfolding all target_below against other_target
below_other k x [] e h = refl
below_other k x (y ∷ ys) e h =
    let l = ltb-true y.target k (and_left (target_below k y) (all (target_below k) ys) h) in
    rw (ne_eqb y.target x.target (λ q. omega arith), below_other k x ys e (and_right (target_below k y) (all (target_below k) ys) h))

-- ---- the mappings by name

record Good (l m : Layout) (k : ℕ) (xs : List Mapping) : Type 0 where
  listed : all (is_listed l m) xs ≡ true
  distinct : pairwise other_target xs ≡ true
  pairs : all (has_pair l m) xs ≡ true
  below : all (target_below k) xs ≡ true

-- each found source has a copy or a cast
unfoldable none_lacks : Layout → Attribute → Bool
none_lacks l a = not (lacks_pair l a (source_of l a))

module _ (l m : Layout) (ok : all (none_lacks l) m.attributes ≡ true) where
  mapping-pair : (k i : ℕ) → k < length m.attributes → source_of l (at m.attributes k) ≡ Some i → has_pair l m (record { source = i; target = k }) ≡ true
  unfolding has_pair lacks_pair none_lacks
  mapping-pair k i h e =
      let n : not (lacks_pair l (at m.attributes k) (source_of l (at m.attributes k))) ≡ true = all-at (none_lacks l) m.attributes k absent ok h in
      twice _ (rw e at n)
    where
      twice : (b : Bool) → not (not b) ≡ true → b ≡ true
      twice true q = refl
      twice false q = q

  mapping-listed : (k i : ℕ) → k < length m.attributes → source_of l (at m.attributes k) ≡ Some i → is_listed l m (record { source = i; target = k }) ≡ true
  unfolding is_listed source_of
  mapping-listed k i h e =
      let f = place_found (named (at m.attributes k).definition.name) l.attributes i absent e in
      rw (lt-ltb i (length l.attributes) f.0, lt-ltb k (length m.attributes) h)

  good-one : (k i : ℕ) (xs : List Mapping) → k < length m.attributes → source_of l (at m.attributes k) ≡ Some i → Good l m k xs → Good l m (k + 1) (xs ++ (record { source = i; target = k } ∷ []))
  unfolding target_below
  good-one k i xs h e g =
      let x : Mapping = record { source = i; target = k } in
      record {
        listed = all_snoc (is_listed l m) xs x ∙ rw (g.listed, mapping-listed k i h e);
        distinct = pairwise-snoc other_target xs x ∙ rw (g.distinct, below_other k x xs refl g.below);
        pairs = all_snoc (has_pair l m) xs x ∙ rw (g.pairs, mapping-pair k i h e);
        below = all_snoc (target_below (k + 1)) xs x ∙ rw (below_more k xs g.below, lt-ltb k (k + 1) (omega arith));
      }

  good_more : (k : ℕ) (o : Option ℕ) → k < length m.attributes → source_of l (at m.attributes k) ≡ o → Good l m k (filter_map (mapping_of l m) (places k)) → Good l m (k + 1) (filter_map (mapping_of l m) (places (k + 1)))
  unfolding mapping_of mapping_to
  good_more k None h e g =
      let j = joins-none (mapping_of l m) k (rw e) in
      rw j (record { listed = g.listed; distinct = g.distinct; pairs = g.pairs; below = below_more k _ g.below })
  good_more k (Some i) h e g = let j = joins-one (mapping_of l m) k {x = record { source = i; target = k }} (rw e) in rw j (good-one k i _ h e g)

  good_none : Good l m 0 (filter_map (mapping_of l m) (places 0))
  unfolding places all pairwise
  good_none = record { listed = refl; distinct = refl; pairs = refl; below = refl }

  good-all : (k : ℕ) → k ≤ length m.attributes → Good l m k (filter_map (mapping_of l m) (places k))
  good-all zero h = good_none
  good-all (suc k) h = rw (← add-one k) (good_more k (source_of l (at m.attributes k)) (omega arith) refl (good-all k (omega arith)))

  default-sound : is_sound l ≡ true → is_sound m ≡ true → SoundPlan (default_plan l m)
  unfolding default_plan
  default-sound s t =
      let g = good-all (length m.attributes) (omega arith) in
      record { source = s; target = t; listed = g.listed; distinct = g.distinct; pairs = g.pairs }

-- ---- an accepted call by name

unfoldable passes_by : MissingSource → Layout → Attribute → Bool
passes_by missing l a = passes (lines_by missing l a)

passes-pair : (missing : MissingSource) (l : Layout) (a : Attribute) → passes_by missing l a ≡ true → none_lacks l a ≡ true
unfolding passes_by lines_by target_lines pair_lines none_lacks
passes-pair Refuse l a h = rw (passes-cons _ _ _ (passes-cons 12 _ _ h).1).0
passes-pair PassOver l a h = rw (passes-cons _ _ _ h).0

passes-pairs : (missing : MissingSource) (l : Layout) (xs : List Attribute) → all (passes_by missing l) xs ≡ true → all (none_lacks l) xs ≡ true
unfolding all
passes-pairs missing l [] h = refl
passes-pairs missing l (x ∷ xs) h =
    rw (passes-pair missing l x (and_left (passes_by missing l x) (all (passes_by missing l) xs) h), passes-pairs missing l xs (and_right (passes_by missing l x) (all (passes_by missing l) xs) h))

by_name : (missing : MissingSource) (l m : Layout) (p : Plan) → check (lines_for missing l m) (default_plan l m) ≡ got p → is_sound_plan p ≡ true
unfolding lines_for layouts_lines passes_by
by_name missing l m p h =
    let g = check-got _ _ _ h in
    let s = passes-cons _ _ _ g.0 in
    let t = passes-cons _ _ _ s.1 in
    let a = sym (passes-flat_map (lines_by missing l) (passes_by missing l) m.attributes (λ x. refl)) ∙ t.1 in
    subst (λ (q : Plan). is_sound_plan q ≡ true) g.1 (plan-from (default_plan l m) (default-sound l m (passes-pairs missing l m.attributes a) (not-false _ s.0) (not-false _ t.0)))

-- ---- the claim

all_sound : (l m : Layout) (p : Plan) → for_layouts l m ≡ got p → is_sound_plan p ≡ true
unfolding for_layouts lines_for lines_by
all_sound l m p h = by_name Refuse l m p h

with-default-sound : (l m : Layout) (p : Plan) → for_layouts_with_default l m ≡ got p → is_sound_plan p ≡ true
unfolding for_layouts_with_default lines_for lines_by
with-default-sound l m p h = by_name PassOver l m p h

custom : (p q : Plan) (i j : ℕ) → set_custom_mapping p i j ≡ got q → is_sound_plan q ≡ true
unfolding set_custom_mapping custom_lines mapping_lines
custom p q i j h =
    let x : Mapping = record { source = i; target = j } in
    let g = check-got _ _ _ h in
    let s = passes-cons _ _ _ g.0 in
    let t = passes-cons _ _ _ s.1 in
    let u = passes-cons _ _ _ t.1 in
    subst (λ (r : Plan). is_sound_plan r ≡ true) g.1 (plan-from (custom_plan p x) (custom-sound p x (plan-has p (not-false _ s.0)) (not-false _ t.0) (not-false _ u.0)))

pub makers-claim : MakersClaim
makers-claim = record { all = all_sound; with-default = with-default-sound; custom = custom }
