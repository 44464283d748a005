-- The records that the makers hand back stand for the layouts that the definitions give.
use Rattle.std.specs.Prelude.{◌≡◌, ◌∷◌, ◌<◌, ◌+◌}
use Rattle.common.specs.Logic.{◌∙◌, ap, refl, List, [], map, ℕ, arith, length, length-set}
use Rattle.common.specs.Refusal.{Outcome, got, refused, left_by}
use Rattle.layout.specs.Calls.{called, after, RecordCall, call_of, next_record, record_after}
use Rattle.layout.specs.Claims.{RecordClaim, Stands}
use Rattle.layout.specs.Layout.{Layout}
use Rattle.layout.specs.Makers.{empty_layout, placed, extended, add_attribute, given, from_members}
use Rattle.layout.specs.Records.{definition_of, attribute_of, listed, layout_of, empty_point_layout, layout_answer, stored, add_answer, given_answer}
use Rattle.layout.specs.declared.point_layout.FieldAlignment.{FieldAlignment}
use Rattle.layout.specs.declared.point_layout.PointAttributeDefinition.{PointAttributeDefinition}
use Rattle.layout.specs.declared.point_layout.PointAttributeMember.{PointAttributeMember}
use Rattle.layout.specs.declared.point_layout.PointLayout.{PointLayout}
use Rattle.common.proofs.Refusals.{check-got}
use Rattle.layout.proofs.Calls.{add-got, add-passed}
use Rattle.layout.proofs.Listed.{listed-none, listed-set, length-listed}
use Rattle.layout.proofs.Makers.{added-length}

empty : layout_of empty_point_layout ≡ empty_layout
unfolding layout_of empty_point_layout empty_layout
empty = rw listed-none

-- an answer whose members are the layout's attributes stands for the layout
stands : (ms : List PointAttributeMember) (k : Layout) → listed ms (length k.attributes) ≡ k.attributes → Stands (layout_answer ms (got k)) k
unfolding layout_of layout_answer
stands ms k h = (_, refl, rw h)

module _ (l : PointLayout) (d : PointAttributeDefinition) (f : FieldAlignment) where
  lists : l.count < length l.attributes → listed (stored l d f) (l.count + 1) ≡ (extended (layout_of l) (definition_of d) f).attributes
  unfolding stored extended layout_of attribute_of placed
  lists h = listed-set l.attributes l.count _ h

  added : (k : Layout) → length l.attributes ≡ 32 → add_attribute (layout_of l) (definition_of d) f ≡ got k → Stands (add_answer l d f) k
  unfolding add_answer layout_of
  added k slots h =
      let g = add-got (layout_of l) (definition_of d) f k h in
      let p = add-passed (layout_of l) (definition_of d) f g.0 in
      let n : length (extended (layout_of l) (definition_of d) f).attributes ≡ l.count + 1 = added-length (layout_of l) (definition_of d) f ∙ ap (λ (c : ℕ). c + 1) (length-listed l.attributes l.count) in
      rw h (stands (stored l d f) k (rw (← g.1, n) (lists (omega (arith, p.few, n)))))

taken : (ms : List PointAttributeMember) (count a : ℕ) (k : Layout) → from_members (listed ms count) a ≡ got k → Stands (given_answer ms count a) k
unfolding given_answer from_members given
taken ms count a k h = rw h (stands ms k (members (check-got _ _ _ h).1))
  where
    members : given (listed ms count) a ≡ k → listed ms (length k.attributes) ≡ k.attributes
    members e = rw (← e) (ap (listed ms) (length-listed ms count))

-- ---- a list of `add_attribute` calls

module _ (l : PointLayout) (c : RecordCall) (slots : length l.attributes ≡ 32) where
  abbrev given_back : Outcome Layout → PointLayout
  given_back o = next_record l (layout_answer (stored l c.definition c.alignment) o)

  -- a record that stands for the layout is the one given back
  next_of : (o : Outcome PointLayout) (k : Layout) → Stands o k → layout_of (left_by l o) ≡ k
  unfolding left_by
  next_of o k h = rw h.1 h.2

  next-slots : (o : Outcome Layout) → length (given_back o).attributes ≡ 32
  unfolding next_record layout_answer stored left_by
  next-slots (got k) = length-set l.attributes l.count _ ∙ slots
  next-slots (refused n) = slots

  next-stands : (o : Outcome Layout) → called (layout_of l) (call_of c) ≡ o → layout_of (given_back o) ≡ left_by (layout_of l) o
  unfolding next_record layout_answer add_answer left_by call_of
  next-stands (got k) e = next_of _ k (rw e at (added l c.definition c.alignment k slots e))
  next-stands (refused n) e = refl

list : (l : PointLayout) (cs : List RecordCall) → length l.attributes ≡ 32 → layout_of (record_after l cs) ≡ after (layout_of l) (map call_of cs)
unfolding record_after after add_answer call_of
list l [] slots = refl
list l (c ∷ cs) slots =
    let o = called (layout_of l) (call_of c) in
    list (given_back l c slots o) cs (next-slots l c slots o) ∙ ap (λ (k : Layout). after k (map call_of cs)) (next-stands l c slots o refl)

pub record-claim : RecordClaim
record-claim = record { empty = empty; added = added; taken = taken; list = list }
