-- Every accepted layout is sound, and a whole list of `add_attribute` calls keeps what it began with.
use Rattle.std.specs.Prelude.{◌≡◌, ◌∷◌, ◌≤◌, ◌<◌, ◌%◌}
use Rattle.common.specs.Logic.{◌∙◌, sym, refl, subst, true, List, [], flat_map, ℕ, ltb-false, length}
use lib.Ieee.{size}
use Rattle.common.specs.Lists.{all, pairwise, greatest, every}
use Rattle.common.specs.Refusal.{Outcome, got, refused, left_by, passes}
use Rattle.common.proofs.Lists.{and_left, and_right, all_snoc}
use Rattle.common.proofs.Refusals.{passes-cons, passes_append, passes-flat_map, check-got}
use Rattle.datatype.specs.Arithmetic.{is_power_of_two}
use Rattle.datatype.proofs.Alignment.{align-ge, align-multiple, power-positive}
use Rattle.layout.specs.Calls.{Call, called, after}
use Rattle.layout.specs.Claims.{Accepted, start, added, taken, AcceptedClaim, WholeListClaim}
use Rattle.layout.specs.Layout.{Definition, Attribute, attribute_lines, good_attribute, end_of, Layout, is_sound}
use Rattle.layout.specs.Makers.{layout_lines, empty_layout, placed, extended, given, given_lines, from_members}
use Rattle.layout.specs.declared.point_layout.FieldAlignment.{FieldAlignment}
use Rattle.layout.proofs.Bytes.{sound-disjoint}
use Rattle.layout.proofs.Calls.{add-got, Fitting, fitting, Passed, add-passed, after-joins}
use Rattle.layout.proofs.Makers.{extended-ends}
use Rattle.layout.proofs.Soundness.{sound-from}

-- what is left to show of a layout whose lines 8 to 11 pass
fitting-sound : (l : Layout) → Fitting l → length l.attributes ≤ 32 → all good_attribute l.attributes ≡ true → greatest end_of l.attributes ≤ l.size → (0 < l.alignment → l.size % l.alignment ≡ 0) → is_sound l ≡ true
fitting-sound l f few good ends multiple =
    sound-from l (record {
      few = few;
      good = good;
      names = f.names;
      disjoint = f.disjoint;
      ends = ends;
      small = f.small;
      multiple = multiple (power-positive l.alignment f.power);
      power = f.power;
    })

-- ---- an accepted call

module _ (l : Layout) (d : Definition) (f : FieldAlignment) (p : Passed l d f) where
  good_more : all good_attribute (extended l d f).attributes ≡ true
  unfolding extended good_attribute attribute_lines placed
  good_more = all_snoc good_attribute l.attributes (placed l.attributes d f) ∙ rw p.sound.good p.definition

  multiple-more : 0 < (extended l d f).alignment → (extended l d f).size % (extended l d f).alignment ≡ 0
  unfolding extended
  multiple-more h = align-multiple _ _ h

  extended-sound : is_sound (extended l d f) ≡ true
  extended-sound = fitting-sound (extended l d f) p.fits p.few good_more (extended-ends l d f p.sound) multiple-more

added-sound : (l k : Layout) (d : Definition) (f : FieldAlignment) → called l (record { definition = d; alignment = f }) ≡ got k → is_sound k ≡ true
added-sound l k d f h =
    let g = add-got l d f k h in
    subst (λ (x : Layout). is_sound x ≡ true) g.1 (extended-sound l d f (add-passed l d f g.0))

-- ---- an accepted given list

given-sound : (xs : List Attribute) (a : ℕ) (k : Layout) → from_members xs a ≡ got k → is_sound k ≡ true
unfolding from_members given_lines given good_attribute
given-sound xs a k h =
    let g = check-got _ _ _ h in
    let few = passes-cons _ _ _ g.0 in
    let both = sym (passes_append (flat_map attribute_lines xs) (layout_lines (given xs a))) ∙ few.1 in
    let good = sym (passes-flat_map attribute_lines good_attribute xs (λ x. refl)) ∙ and_left (passes (flat_map attribute_lines xs)) (passes (layout_lines (given xs a))) both in
    let fits = fitting (given xs a) (and_right (passes (flat_map attribute_lines xs)) (passes (layout_lines (given xs a))) both) in
    subst (λ (x : Layout). is_sound x ≡ true) g.1 (fitting-sound (given xs a) fits (ltb-false _ _ few.0) good (align-ge _ _) (align-multiple _ _))

-- ---- the claims

empty-sound : is_sound empty_layout ≡ true
unfolding empty_layout is_sound every all pairwise is_power_of_two size
empty-sound = refl

accepted-sound : (l : Layout) → Accepted l → is_sound l ≡ true
accepted-sound l start = empty-sound
accepted-sound l (added k m c h) = added-sound k m c.definition c.alignment h
accepted-sound l (taken xs a k h) = given-sound xs a k h

pub accepted-claim : AcceptedClaim
accepted-claim = record { sound = accepted-sound; disjoint = λ l a. sound-disjoint l (accepted-sound l a) }

next-sound : (l : Layout) (c : Call) (o : Outcome Layout) → called l c ≡ o → is_sound l ≡ true → is_sound (left_by l o) ≡ true
unfolding left_by
next-sound l c (got k) e s = added-sound l k c.definition c.alignment e
next-sound l c (refused n) e s = s

after-sound : (l : Layout) (cs : List Call) → is_sound l ≡ true → is_sound (after l cs) ≡ true
unfolding after
after-sound l [] s = s
after-sound l (c ∷ cs) s = after-sound (left_by l (called l c)) cs (next-sound l c (called l c) refl s)

pub whole-list-claim : WholeListClaim
whole-list-claim l cs s =
    record { lists = after-joins l cs; sound = after-sound l cs s; disjoint = sound-disjoint (after l cs) (after-sound l cs s) }
