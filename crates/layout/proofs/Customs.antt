-- Document 02, point 9: alignment 0 pads nothing, no sound layout holds a size of 0, and lookups find equal datatypes.
use Rattle.std.specs.Prelude.{◌≡◌, ◌∷◌, ◌<◌}
use Rattle.common.specs.Logic.{◌∙◌, ap, refl, true, not, List, None, Some, Option, ℕ, min, arith, length}
use Rattle.common.specs.Lists.{place_from}
use Rattle.common.specs.Refusal.{line, got, outcome, check, passes}
use Rattle.common.specs.Refusal.{Answer}
use Rattle.common.proofs.Lists.{and_right, all-at, place_found}
use Rattle.common.proofs.Refusals.{passes-cons, passes-accepted, check-got}
use Rattle.datatype.specs.Arithmetic.{align_to}
use Rattle.datatype.specs.Claims.{EqualCodes}
use Rattle.datatype.specs.Datatype.{align_of}
use Rattle.datatype.proofs.Properties.{listed-sized, same-datatype-claim}
use Rattle.layout.specs.Claims.{UnpaddedClaim, SizedClaim, FoundEqualClaim}
use Rattle.layout.specs.Layout.{Definition, Attribute, absent, at, definition_lines, attribute_lines, good_attribute, Layout, is_sound}
use Rattle.layout.specs.Lookup.{named, defined, index_of, offset_at, offset_of, compare_without_offsets}
use Rattle.layout.specs.Makers.{last_end, field_alignment, layout_alignment, placed, extended}
use Rattle.layout.specs.declared.point_layout.FieldAlignment.{FieldAlignment}
use Rattle.layout.specs.declared.point_layout.FieldAlignment.TheVariants.{Default, Packed}
use Rattle.layout.proofs.Same.{compared_same}
use Rattle.layout.proofs.Soundness.{sound-has}

unpadded : (xs : List Attribute) (d : Definition) (f : FieldAlignment) → align_of d.datatype ≡ 0 → (placed xs d f).offset ≡ last_end xs
unfolding placed field_alignment align_to
unpadded xs d Default e = rw e
unpadded xs d (Packed p) e = let z : min 0 p ≡ 0 = omega arith in rw (e, z)

kept : (l : Layout) (d : Definition) → align_of d.datatype ≡ 0 → (extended l d Default).alignment ≡ l.alignment
unfolding extended layout_alignment
kept l d e = rw e (omega arith)

pub unpadded-claim : UnpaddedClaim
unpadded-claim = record { offset = unpadded; alignment = kept }

pub sized-claim : SizedClaim
unfolding good_attribute attribute_lines definition_lines
sized-claim l s i h = listed-sized _ (passes-cons _ _ _ (all-at good_attribute l.attributes i absent (sound-has l s).good h)).1

-- ---- lookups

index-equal : (l : Layout) (d : Definition) (i : ℕ) → index_of l d ≡ got (Some i) → EqualCodes (at l.attributes i).definition.datatype d.datatype
unfolding index_of defined
index-equal l d i h =
    let g = check-got _ _ _ h in
    same-datatype-claim.only _ _ (and_right (named d.name (at l.attributes i)) _ (place_found (defined d) l.attributes i absent g.1).1)

offset-index : (l : Layout) (d : Definition) (o : ℕ) → offset_of l d ≡ got (Some o) → (i : ℕ) × (index_of l d ≡ got (Some i)) × ((at l.attributes i).offset ≡ o)
unfolding offset_of offset_at index_of check outcome
offset-index l d o h = let g = check-got _ _ _ h in found g.0 (place_from 0 (defined d) l.attributes) refl g.1
  where
    found : passes (line 1 (not (is_sound l)) ∷ definition_lines d) ≡ true → (p : Option ℕ) → place_from 0 (defined d) l.attributes ≡ p → offset_at l.attributes p ≡ Some o
        → (i : ℕ) × (index_of l d ≡ got (Some i)) × ((at l.attributes i).offset ≡ o)
    found q None e k = absurd (let z : ◌≡◌ {A = ℕ} 0 1 = cc in omega arith)
    found q (Some i) e k =
        let n : (at l.attributes i).offset ≡ o = cc in
        (i, ap (λ (a : Answer). outcome a (place_from 0 (defined d) l.attributes)) (passes-accepted _ q) ∙ ap got e, n)

compared-equal : (l m : Layout) → compare_without_offsets l m ≡ got true → (j : ℕ) → j < length l.attributes
    → (i : ℕ) × ((at m.attributes i).definition.name ≡ (at l.attributes j).definition.name) × EqualCodes (at m.attributes i).definition.datatype (at l.attributes j).definition.datatype
compared-equal l m h j k = let a = (compared_same l m h).among-other j k in (a.0, a.1.name, same-datatype-claim.only _ _ a.1.datatype)

pub found-equal-claim : FoundEqualClaim
found-equal-claim = record { index = index-equal; offset = offset-index; compared = compared-equal }
