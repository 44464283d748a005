-- `layout_sheets::layout_sheet::layout_from` meets its contract.
use Rattle.common.specs.Logic.{◌∙◌, rules}
use Rattle.layout_sheets.proofs.Sheets.{placed-layout, given-layout}
use Rattle.layout_sheets.proofs.layout_sheet.layout_from.Goals as goal

pub returns-in-None : goal.returns-in-None
returns-in-None c = c.add_all.ensures ∙ placed-layout _ c.requires (search rules) c.in-None.is

pub returns-in-Some : goal.returns-in-Some
returns-in-Some c = c.from_members_and_alignment.ensures ∙ given-layout _ c.requires (search rules) c.in-Some.is c.members_of-members.ensures
