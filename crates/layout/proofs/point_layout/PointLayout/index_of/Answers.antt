-- `layout::point_layout::PointLayout::index_of` meets its contract.
use Rattle.std.specs.Prelude.{◌≡◌}
use Rattle.common.specs.Logic.{◌∙◌, sym, ap, rules, true, false, Option, ℕ}
use Rattle.common.specs.Lists.{place_from}
use Rattle.common.specs.Refusal.{Outcome, Accepted, Refused, got, refused, answer, answered, outcome, check}
use Rattle.layout.specs.Layout.{Definition, definition_lines, Layout, is_sound}
use Rattle.layout.specs.Lookup.{defined, index_of}
use Rattle.layout.specs.Records.{definition_of, layout_of}
use Rattle.layout.proofs.Soundness.{count-few}
use Rattle.layout.proofs.point_layout.PointLayout.index_of.Goals as goal

module _ (l : Layout) (d : Definition) where
  unsound : is_sound l ≡ false → ◌≡◌ {A = Outcome (Option ℕ)} (refused 1) (index_of l d)
  unfolding index_of check answer outcome
  unsound h = rw h

  bad : {n : ℕ} → is_sound l ≡ true → answer (definition_lines d) ≡ Refused n → ◌≡◌ {A = Outcome (Option ℕ)} (refused n) (index_of l d)
  unfolding index_of check answer outcome
  bad h k = rw (h, k)

  searched : is_sound l ≡ true → answer (definition_lines d) ≡ Accepted → {o : Option ℕ} → o ≡ place_from 0 (defined d) l.attributes → got o ≡ index_of l d
  unfolding index_of check answer outcome
  searched h k e = rw (h, k, e)

pub returns-then-not-sound : goal.returns-then-not-sound
returns-then-not-sound c = unsound _ _ (sym c.sound.ensures ∙ c.if-not-sound.true)

pub returns-in_err-check_definition : goal.returns-in_err-check_definition
returns-in_err-check_definition c = rw (← bad _ _ (sym c.sound.ensures ∙ c.if-not-sound.false) (sym c.check_definition.ensures ∙ ap answered c.in_err-check_definition.was)) (search rules)

pub first_of-requires : goal.first_of-requires
first_of-requires c = count-few c.args.self (sym c.sound.ensures ∙ c.if-not-sound.false)

pub returns : goal.returns
unfolding layout_of
returns c = searched _ _ (sym c.sound.ensures ∙ c.if-not-sound.false) (sym c.check_definition.ensures ∙ ap answered c.in_ok-check_definition.was) (c.place_of.ensures ∙ ap (place_from 0 (defined (definition_of c.args.definition))) c.first_of.ensures)
