-- `layout::point_layout::PointLayout::get_attribute_by_name` meets its contract.
use Rattle.std.specs.Prelude.{◌≡◌, ◌≤◌}
use Rattle.common.specs.Logic.{◌∙◌, sym, ap, true, false, List, Option, ℕ, leb, length, leb-true}
use Rattle.common.specs.Lists.{place_from}
use Rattle.common.specs.Refusal.{Outcome, got, refused, answer, outcome, check}
use Rattle.common.proofs.Lists.{and_left}
use Rattle.layout.specs.Layout.{good_name, Layout, is_sound}
use Rattle.layout.specs.Lookup.{named, get_attribute_by_name}
use Rattle.layout.specs.Records.{layout_of}
use Rattle.layout.proofs.Soundness.{count-few}
use Rattle.layout.proofs.point_layout.PointLayout.get_attribute_by_name.Goals as goal

module _ (l : Layout) (name : List ℕ) where
  unsound : is_sound l ≡ false → ◌≡◌ {A = Outcome (Option ℕ)} (refused 1) (get_attribute_by_name l name)
  unfolding get_attribute_by_name check answer outcome
  unsound h = rw h

  bad : is_sound l ≡ true → good_name name ≡ false → ◌≡◌ {A = Outcome (Option ℕ)} (refused 4) (get_attribute_by_name l name)
  unfolding get_attribute_by_name check answer outcome
  bad h k = rw (h, k)

  searched : is_sound l ≡ true → good_name name ≡ true → {o : Option ℕ} → o ≡ place_from 0 (named name) l.attributes → got o ≡ get_attribute_by_name l name
  unfolding get_attribute_by_name check answer outcome
  searched h k e = rw (h, k, e)

short : (name : List ℕ) → good_name name ≡ true → length name ≤ 31
unfolding good_name
short name h = leb-true (length name) 31 (and_left (leb (length name) 31) _ h)

pub returns-then-not-sound : goal.returns-then-not-sound
returns-then-not-sound c = unsound _ _ (sym c.sound.ensures ∙ c.if-not-sound.true)

pub returns-then-not-good_name : goal.returns-then-not-good_name
returns-then-not-good_name c = bad _ _ (sym c.sound.ensures ∙ c.if-not-sound.false) (sym c.good_name.ensures ∙ c.if-not-good_name.true)

pub place_of_name-requires : goal.place_of_name-requires
place_of_name-requires c = short _ (sym c.good_name.ensures ∙ c.if-not-good_name.false)

pub first_of-requires : goal.first_of-requires
first_of-requires c = count-few c.args.self (sym c.sound.ensures ∙ c.if-not-sound.false)

pub returns : goal.returns
unfolding layout_of
returns c = searched _ _ (sym c.sound.ensures ∙ c.if-not-sound.false) (sym c.good_name.ensures ∙ c.if-not-good_name.false) (c.place_of_name.ensures ∙ ap (place_from 0 (named c.args.name.now)) c.first_of.ensures)
