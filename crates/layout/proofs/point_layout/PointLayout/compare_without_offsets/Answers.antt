-- `layout::point_layout::PointLayout::compare_without_offsets` meets its contract.
use Rattle.std.specs.Prelude.{◌≡◌}
use Rattle.common.specs.Logic.{◌∙◌, sym, ap, true, Bool, false, ℕ, eq-eqb, ne_eqb}
use Rattle.common.specs.Lists.{all}
use Rattle.common.specs.Refusal.{Outcome, answer, outcome, check, got, refused}
use Rattle.layout.specs.Layout.{Layout, is_sound}
use Rattle.layout.specs.Lookup.{is_among, same_attributes, compare_without_offsets}
use Rattle.layout.specs.Records.{listed, layout_of}
use Rattle.layout.specs.declared.point_layout.PointLayout.{PointLayout}
use Rattle.layout.proofs.Listed.{length-listed}
use Rattle.layout.proofs.Soundness.{count-few}
use Rattle.layout.proofs.point_layout.PointLayout.compare_without_offsets.Goals as goal

module _ (l m : Layout) where
  unsound : is_sound l ≡ false → ◌≡◌ {A = Outcome Bool} (refused 1) (compare_without_offsets l m)
  unfolding compare_without_offsets check answer outcome
  unsound h = rw h

  other-unsound : is_sound l ≡ true → is_sound m ≡ false → ◌≡◌ {A = Outcome Bool} (refused 1) (compare_without_offsets l m)
  unfolding compare_without_offsets check answer outcome
  other-unsound h k = rw (h, k)

  passed : {b : Bool} → is_sound l ≡ true → is_sound m ≡ true → same_attributes l.attributes m.attributes ≡ b → got b ≡ compare_without_offsets l m
  unfolding compare_without_offsets check answer outcome
  passed h k e = rw (h, k, e)

module _ (l m : PointLayout) where
  counts : (l.count ≡ m.count → ⊥) → same_attributes (layout_of l).attributes (layout_of m).attributes ≡ false
  unfolding same_attributes layout_of
  counts h = rw (length-listed l.attributes l.count, length-listed m.attributes m.count, ne_eqb _ _ h)

  lists : {t : Bool} → l.count ≡ m.count → t ≡ all (is_among (listed m.attributes l.count)) (listed l.attributes l.count) → same_attributes (layout_of l).attributes (layout_of m).attributes ≡ t
  unfolding same_attributes layout_of
  lists e h =
      rw (length-listed l.attributes l.count, length-listed m.attributes m.count, eq-eqb _ _ e)
      (sym (h ∙ ap (λ (k : ℕ). all (is_among (listed m.attributes k)) (listed l.attributes l.count)) e))

pub returns-then-not-sound : goal.returns-then-not-sound
returns-then-not-sound c = unsound _ _ (sym c.sound.ensures ∙ c.if-not-sound.true)

pub returns-then-not-sound-2 : goal.returns-then-not-sound-2
returns-then-not-sound-2 c = other-unsound _ _ (sym c.sound.ensures ∙ c.if-not-sound.false) (sym c.sound-2.ensures ∙ c.if-not-sound-2.true)

pub returns-then-self-other : goal.returns-then-self-other
returns-then-self-other c = passed _ _ (sym c.sound.ensures ∙ c.if-not-sound.false) (sym c.sound-2.ensures ∙ c.if-not-sound-2.false) (counts c.args.self c.args.other c.if-self-other.true)

pub first_of-requires : goal.first_of-requires
first_of-requires c = count-few c.args.self (sym c.sound.ensures ∙ c.if-not-sound.false)

pub first_of-requires-2 : goal.first_of-requires-2
first_of-requires-2 c = count-few c.args.self (sym c.sound.ensures ∙ c.if-not-sound.false)

pub returns : goal.returns
returns c = passed _ _ (sym c.sound.ensures ∙ c.if-not-sound.false) (sym c.sound-2.ensures ∙ c.if-not-sound-2.false) (lists c.args.self c.args.other c.if-self-other.false (rw (c.first_of.ensures, c.first_of-2.ensures) at c.all_among.ensures))
