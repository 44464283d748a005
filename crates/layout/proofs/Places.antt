-- What the lookups answer, by the lines that they check; and what the lookup of a good name in a sound layout finds.
use Rattle.std.specs.Prelude.{◌≡◌, ◌≤◌, ◌<◌, Result, Ok, Err}
use Rattle.common.specs.Logic.{◌∙◌, sym, ap, true, List, Some, Option, ℕ, arith, not-false}
use Rattle.common.specs.Lists.{place_from}
use Rattle.common.specs.declared.Refusal.{Refusal}
use Rattle.common.specs.Refusal.{got, refused, answer, outcome, check, number_of, outcome_of}
use Rattle.common.proofs.Lists.{place_found}
use Rattle.common.proofs.Refusals.{passes-cons}
use Rattle.layout.specs.Layout.{Attribute, absent, good_name, definition_lines, attribute_lines, good_attribute, Layout, is_sound}
use Rattle.layout.specs.Lookup.{named, get_attribute_by_name}
use Rattle.layout.specs.Records.{attribute_of, listed, layout_of}
use Rattle.layout.specs.declared.point_layout.PointAttributeMember.{PointAttributeMember}
use Rattle.layout.specs.declared.point_layout.PointLayout.{PointLayout}
use Rattle.layout.proofs.Listed.{length-listed}
use Rattle.layout.proofs.Soundness.{count-few}

-- ---- a sound layout, and the name of a good attribute

looked-up : (l : Layout) (a : Attribute) → is_sound l ≡ true → good_attribute a ≡ true → get_attribute_by_name l a.definition.name ≡ got (place_from 0 (named a.definition.name) l.attributes)
unfolding get_attribute_by_name check answer outcome good_attribute attribute_lines definition_lines
looked-up l a s g = rw (s, not-false (good_name a.definition.name) (passes-cons _ _ _ g).0)

module _ (l : PointLayout) (m : PointAttributeMember) (s : is_sound (layout_of l) ≡ true) (g : good_attribute (attribute_of m) ≡ true)
    (name : List ℕ) (n : name ≡ (attribute_of m).definition.name) (r : Result (Option ℕ) Refusal) (e : outcome_of r ≡ get_attribute_by_name (layout_of l) name) where
  found-is : outcome_of r ≡ got (place_from 0 (named (attribute_of m).definition.name) (layout_of l).attributes)
  found-is = e ∙ rw n (looked-up (layout_of l) (attribute_of m) s g)

  pub found_ok : {o : Option ℕ} → r ≡ Ok o → place_from 0 (named (attribute_of m).definition.name) (layout_of l).attributes ≡ o
  found_ok {o} h = let q : got o ≡ got (place_from 0 (named (attribute_of m).definition.name) (layout_of l).attributes) = ap outcome_of (sym h) ∙ found-is in cc

  pub found_within : {i : ℕ} → r ≡ Ok (Some i) → (i < l.count) × (l.count ≤ 32)
  unfolding layout_of
  found_within {i} h =
      let q = place_found (named (attribute_of m).definition.name) (listed l.attributes l.count) i absent (found_ok h) in
      (omega (arith, q.0, length-listed l.attributes l.count), count-few l s)

  pub never-refused : {x : Refusal} → r ≡ Err x → ⊥
  never-refused {x} h = let q : refused (number_of x) ≡ got (place_from 0 (named (attribute_of m).definition.name) (layout_of l).attributes) = ap outcome_of (sym h) ∙ found-is in let z : ◌≡◌ {A = ℕ} 0 1 = cc in omega arith
