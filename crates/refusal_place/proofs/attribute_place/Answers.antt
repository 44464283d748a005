-- `refusal_place::attribute_place` meets its contract.
use Rattle.std.proofs.Common.{rules}
use Rattle.common.specs.Refusal.{answer_of}
use Rattle.layout_sheets.specs.Sheet.{first_layout}
use Rattle.refusal_place.specs.Place.{attribute_place, shown_with, shows, entry_told}
use Rattle.refusal_place.proofs.Least.{entry-told, other-told}
use Rattle.refusal_place.proofs.attribute_place.Goals as goal

pub returns-in-Some : goal.returns-in-Some
unfolding attribute_place shown_with shows entry_told
returns-in-Some c = entry-told _ _ _ (c.in-Some.ensures (λ j. answer_of (first_layout j c.args.sheet.now)) (λ j r l p. search rules))

pub returns-in-None : goal.returns-in-None
unfolding attribute_place shown_with shows entry_told
returns-in-None c = other-told _ _ _ (c.in-None.ensures (λ j. answer_of (first_layout j c.args.sheet.now)) (λ j r l p. search rules))
