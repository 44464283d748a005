-- `refusal_place::line_place` meets its contract.
use Rattle.std.proofs.Common.{rules}
use Rattle.common.specs.Logic.{◌∙◌}
use Rattle.common.specs.Refusal.{answer_of}
use Rattle.layout.specs.Records.{layout_of}
use Rattle.sheets.specs.Mapping.{first_plan}
use Rattle.refusal_place.specs.Place.{line_place, shown_with, shows, entry_told}
use Rattle.refusal_place.specs.declared.RefusalPlace.TheVariants.{Line}
use Rattle.refusal_place.proofs.Least.{entry-told, other-told}
use Rattle.refusal_place.proofs.line_place.Goals as goal

pub returns-in-Some : goal.returns-in-Some
unfolding line_place shown_with shows entry_told
returns-in-Some c =
    entry-told _ _ _ (c.in-Some.ensures (λ j. answer_of (first_plan (layout_of c.args.source) (layout_of c.args.target) j c.args.sheet.now)) (λ j r l p. search rules))

pub returns-in-None : goal.returns-in-None
unfolding line_place shown_with shows entry_told
returns-in-None c =
    c.target_place.ensures
    ∙ other-told _ Line _ (c.in-None.ensures (λ j. answer_of (first_plan (layout_of c.args.source) (layout_of c.args.target) j c.args.sheet.now)) (λ j r l p. search rules))
