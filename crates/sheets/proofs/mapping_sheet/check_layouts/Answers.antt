-- `sheets::mapping_sheet::check_layouts` meets its contract.
use Rattle.common.specs.Logic.{◌∙◌, sym}
use Rattle.sheets.proofs.Plans.{source-unsound, target-unsound, both-are-sound}
use Rattle.sheets.proofs.mapping_sheet.check_layouts.Goals as goal
use Rattle.sheets.proofs.mapping_sheet.check_layouts.Goals.{then-not-sound-via-then-not-sound, then-not-sound-via-else-not-sound+then-not-sound-2}

pub returns-then-not-sound : goal.returns-then-not-sound
returns-then-not-sound c =
    elim c.then-not-sound.branch [
      | then-not-sound-via-then-not-sound w ↦ source-unsound _ _ (sym c.sound.ensures ∙ w.if-not-sound.true)
      | then-not-sound-via-else-not-sound+then-not-sound-2 w ↦ target-unsound _ _ (sym c.sound.ensures ∙ w.if-not-sound.false) (sym w.sound-else-not-sound.ensures ∙ w.if-not-sound-2.true)
    ]

pub returns : goal.returns
returns c = both-are-sound _ _ (sym c.sound.ensures ∙ c.if-not-sound.false) (sym c.sound-else-not-sound.ensures ∙ c.if-not-sound-2.false)
