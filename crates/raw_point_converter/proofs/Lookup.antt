-- The pair of a source attribute, by what the target's lookup of its name finds.
use Rattle.std.specs.Prelude.{◌≡◌, ◌∷◌, Result, Ok}
use Rattle.common.specs.Logic.{◌∙◌, sym, ap, true, Bool, false, List, [], None, Some, Option, ℕ, min, arith, not-false, leb-true, leb, length, get_or}
use Rattle.common.specs.Lists.{first}
use Rattle.common.proofs.Lists.{and_left, length-first}
use Rattle.common.proofs.Refusals.{passes-cons}
use Rattle.common.specs.declared.Refusal.{Refusal}
use Rattle.common.specs.Refusal.{outcome_of}
use Rattle.datatype.specs.Datatype.{same_datatype}
use Rattle.layout.specs.Layout.{Attribute, absent, at, good_name, definition_lines, attribute_lines, good_attribute, is_sound}
use Rattle.layout.specs.Lookup.{get_attribute_by_name}
use Rattle.layout.specs.Records.{definition_of, attribute_of, missing, layout_of}
use Rattle.layout.specs.declared.point_layout.PointAttributeMember.{PointAttributeMember}
use Rattle.layout.specs.declared.point_layout.PointLayout.{PointLayout}
use Rattle.layout.proofs.Listed.{listed_at}
use Rattle.layout.proofs.Places.{found_ok, found_within}
use Rattle.raw_point_converter.specs.Pairs.{pair_of_two, pair_for}
use Rattle.raw_point_converter.proofs.Disjoint.{pair-skipped, pair_made, pair-none}

-- the bytes of a good attribute's name are all in its array
pub its-name : (a : PointAttributeMember) → good_attribute (attribute_of a) ≡ true → first 0 a.attribute_definition.name (min a.attribute_definition.name_len 31) ≡ (attribute_of a).definition.name
unfolding good_attribute attribute_lines definition_lines good_name attribute_of definition_of
its-name a g =
    let name = first 0 a.attribute_definition.name a.attribute_definition.name_len in
    let short = leb-true _ _ (and_left (leb (length name) 31) _ (not-false _ (passes-cons _ _ _ g).0)) in
    let e : min a.attribute_definition.name_len 31 ≡ a.attribute_definition.name_len = omega (arith, short, length-first 0 a.attribute_definition.name a.attribute_definition.name_len) in
    ap (first 0 a.attribute_definition.name) e

module _ (m : PointLayout) (a : PointAttributeMember) (s : is_sound (layout_of m) ≡ true) (g : good_attribute (attribute_of a) ≡ true)
    (name : List ℕ) (n : name ≡ (attribute_of a).definition.name) (r : Result (Option ℕ) Refusal) (e : outcome_of r ≡ get_attribute_by_name (layout_of m) name) where
  -- the target attribute at the place found
  at-found : {j : ℕ} → r ≡ Ok (Some j) → at (layout_of m).attributes j ≡ attribute_of (get_or m.attributes j missing)
  unfolding layout_of
  at-found {j} h = listed_at m.attributes j m.count absent (found_within m a s g name n r e h).0

  same-is : {j : ℕ} → r ≡ Ok (Some j) → same_datatype (attribute_of a).definition.datatype (at (layout_of m).attributes j).definition.datatype ≡ same_datatype a.attribute_definition.datatype (get_or m.attributes j missing).attribute_definition.datatype
  unfolding attribute_of definition_of
  same-is {j} h = ap (λ (b : Attribute). same_datatype a.attribute_definition.datatype b.definition.datatype) (at-found h)

  pub found-equal : {j : ℕ} {b : Bool} → r ≡ Ok (Some j) → b ≡ same_datatype a.attribute_definition.datatype (get_or m.attributes j missing).attribute_definition.datatype → b ≡ true → pair_for (layout_of m).attributes (attribute_of a) ≡ []
  found-equal h d t = pair-skipped (layout_of m).attributes (attribute_of a) (found_ok m a s g name n r e h) (same-is h ∙ sym d ∙ t)

  pub found-unequal : {j : ℕ} {b : Bool} → r ≡ Ok (Some j) → b ≡ same_datatype a.attribute_definition.datatype (get_or m.attributes j missing).attribute_definition.datatype → b ≡ false
      → pair_for (layout_of m).attributes (attribute_of a) ≡ pair_of_two (attribute_of a) (attribute_of (get_or m.attributes j missing)) ∷ []
  found-unequal h d t = pair_made (layout_of m).attributes (attribute_of a) (found_ok m a s g name n r e h) (same-is h ∙ sym d ∙ t) ∙ rw (at-found h)

  pub not_found : r ≡ Ok None → pair_for (layout_of m).attributes (attribute_of a) ≡ []
  not_found h = pair-none (layout_of m).attributes (attribute_of a) (found_ok m a s g name n r e h)
