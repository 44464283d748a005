-- `layout::point_layout::PointLayout::add_attribute` meets its contract.
use Rattle.std.specs.Prelude.{◌≡◌, ◌≤◌, ◌<◌, ◌+◌}
use Rattle.common.specs.Logic.{◌∙◌, sym, ap, rules, true, Bool, ℕ, arith, length, set}
use Rattle.common.specs.Lists.{all}
use Rattle.common.specs.Refusal.{Outcome, got, refused, Answer, answer, answered}
use Rattle.common.specs.Refusal.{Accepted, Refused}
use Rattle.layout.specs.Layout.{definition_lines, is_sound}
use Rattle.layout.specs.Makers.{extended, add_lines, add_attribute}
use Rattle.layout.specs.Records.{definition_of, layout_of, listed, stored, add_answer}
use Rattle.layout.specs.Steps.{other_named, clear_of, PlacedBy, new_answer}
use Rattle.layout.specs.declared.point_layout.FieldAlignment.{FieldAlignment}
use Rattle.layout.specs.declared.point_layout.Placement.{Placement}
use Rattle.layout.specs.declared.point_layout.PointAttributeDefinition.{PointAttributeDefinition}
use Rattle.layout.specs.declared.point_layout.PointLayout.{PointLayout}
use Rattle.layout.proofs.Listed.{length-listed}
use Rattle.layout.proofs.Makers.{new-small, add-unsound, add-full, added-length, start_is, alignment-is, size_is, end-within, add_is, answer-refused, answer-accepted}
use Rattle.layout.proofs.Soundness.{count-few}
use Rattle.layout.proofs.point_layout.PointLayout.add_attribute.Goals as goal

length-of : (l : PointLayout) → length (layout_of l).attributes ≡ l.count
unfolding layout_of
length-of l = length-listed l.attributes l.count

-- past the first two tests
sound-here : (l : PointLayout) {b : Bool} → b ≡ is_sound (layout_of l) → b ≡ true → is_sound (layout_of l) ≡ true
sound-here l e h = sym e ∙ h

room : (l : PointLayout) → is_sound (layout_of l) ≡ true → (l.count ≡ 32 → ⊥) → l.count < 32
room l s h = omega (arith, count-few l s, h)

module _ (l : PointLayout) (d : PointAttributeDefinition) (f : FieldAlignment) where
  stopped : {n : ℕ} → answer (add_lines (layout_of l) (definition_of d) f) ≡ Refused n → ◌≡◌ {A = Outcome PointLayout} (refused n) (add_answer l d f)
  unfolding add_answer add_attribute
  stopped h = answer-refused (stored l d f) (add_lines (layout_of l) (definition_of d) f) (extended (layout_of l) (definition_of d) f) h

  accepted : {p : Placement} → PlacedBy (layout_of l) d.datatype f p → answer (add_lines (layout_of l) (definition_of d) f) ≡ Accepted
      → ◌≡◌ {A = Outcome PointLayout} (got (record { attributes = set l.attributes l.count (record { attribute_definition = d; offset = p.start }); count = l.count + 1; size = p.size; alignment = p.alignment })) (add_answer l d f)
  unfolding add_answer add_attribute stored layout_of definition_of
  accepted b h =
      let k = layout_of l in
      let e = definition_of d in
      rw (start_is k e f b, size_is k e f b, alignment-is k e f b)
      (answer-accepted (stored l d f) (add_lines k e f) (extended k e f) h (sym (added-length k e f ∙ rw (length-of l))))

module _ (l : PointLayout) (d : PointAttributeDefinition) (f : FieldAlignment) (s : is_sound (layout_of l) ≡ true) (few : l.count < 32)
    {p : Placement} (b : PlacedBy (layout_of l) d.datatype f p) where
  -- an accepted attribute lies within the size, and that fits
  small : (t : Answer) (n j : Bool) → new_answer t n j p.alignment p.size ≡ Accepted → (p.start ≤ 65535) × (p.size ≤ 65535)
  unfolding definition_of
  small t n j h =
      let z = new-small _ _ _ _ _ h in
      let w = end-within (layout_of l) (definition_of d) f b in
      (omega (arith, b.end), z)

  -- what the checks answer
  checked : {n u : Bool} {t r : Answer} → n ≡ all (other_named (definition_of d)) (listed l.attributes l.count) → u ≡ all (clear_of p.start p.end) (listed l.attributes l.count) → t ≡ answer (definition_lines (definition_of d)) → r ≡ new_answer t n u p.alignment p.size → r ≡ answer (add_lines (layout_of l) (definition_of d) f)
  unfolding definition_of layout_of
  checked n u t r = add_is (layout_of l) (definition_of d) f b s (omega (arith, length-of l)) n u t r

pub returns-then-not-sound : goal.returns-then-not-sound
unfolding definition_of
returns-then-not-sound c = stopped c.args.self c.args.definition c.args.alignment (add-unsound _ _ _ (sym c.sound.ensures ∙ c.if-not-sound.true))

pub returns-then-self-eq32 : goal.returns-then-self-eq32
unfolding definition_of
returns-then-self-eq32 c = stopped c.args.self c.args.definition c.args.alignment (add-full _ _ _ (sym c.sound.ensures ∙ c.if-not-sound.false) (length-of c.args.self ∙ c.if-self-eq32.true))

pub place-p-requires : goal.place-p-requires
place-p-requires c = omega (arith, room c.args.self (sound-here c.args.self c.sound.ensures c.if-not-sound.false) c.if-self-eq32.false)

pub first_of-listed-requires : goal.first_of-listed-requires
first_of-listed-requires c = omega (arith, room c.args.self (sound-here c.args.self c.sound.ensures c.if-not-sound.false) c.if-self-eq32.false)

pub returns-in_err-check_new : goal.returns-in_err-check_new
returns-in_err-check_new c =
    let l = c.args.self in
    let s = sound-here l c.sound.ensures c.if-not-sound.false in
    let w = room l s c.if-self-eq32.false in
    rw (← stopped l c.args.definition c.args.alignment (sym (checked l c.args.definition c.args.alignment s w c.place-p.ensures (rw c.first_of-listed.ensures at c.all_other_names.ensures) (rw c.first_of-listed.ensures at c.all_apart.ensures) c.check_definition.ensures c.check_new.ensures) ∙ ap answered c.in_err-check_new.was)) (search rules)

pub overflow_cast-attributes : goal.overflow_cast-attributes
overflow_cast-attributes c =
    let l = c.args.self in
    let s = sound-here l c.sound.ensures c.if-not-sound.false in
    omega (arith, (small l c.args.definition c.args.alignment s (room l s c.if-self-eq32.false) c.place-p.ensures _ _ _ (sym c.check_new.ensures ∙ ap answered c.in_ok-check_new.was)).0)

pub bounds-attributes-count : goal.bounds-attributes-count
bounds-attributes-count c = room c.args.self (sound-here c.args.self c.sound.ensures c.if-not-sound.false) c.if-self-eq32.false

pub overflow_add-result : goal.overflow_add-result
overflow_add-result c = omega (arith, room c.args.self (sound-here c.args.self c.sound.ensures c.if-not-sound.false) c.if-self-eq32.false)

pub overflow_cast-result : goal.overflow_cast-result
overflow_cast-result c =
    let l = c.args.self in
    let s = sound-here l c.sound.ensures c.if-not-sound.false in
    omega (arith, (small l c.args.definition c.args.alignment s (room l s c.if-self-eq32.false) c.place-p.ensures _ _ _ (sym c.check_new.ensures ∙ ap answered c.in_ok-check_new.was)).1)

pub returns : goal.returns
returns c =
    let l = c.args.self in
    let s = sound-here l c.sound.ensures c.if-not-sound.false in
    let w = room l s c.if-self-eq32.false in
    accepted l c.args.definition c.args.alignment c.place-p.ensures (sym (checked l c.args.definition c.args.alignment s w c.place-p.ensures (rw c.first_of-listed.ensures at c.all_other_names.ensures) (rw c.first_of-listed.ensures at c.all_apart.ensures) c.check_definition.ensures c.check_new.ensures) ∙ ap answered c.in_ok-check_new.was)
