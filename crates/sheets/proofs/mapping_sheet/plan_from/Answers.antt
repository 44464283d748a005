-- `sheets::mapping_sheet::plan_from` meets its contract.
use Rattle.common.specs.Logic.{◌∙◌}
use Rattle.layout_sheets.proofs.Readers.{failed}
use Rattle.sheets.specs.Records.{contents_of}
use Rattle.sheets.proofs.Plans.{from-refused, from-emptied, from-accepted}
use Rattle.sheets.proofs.mapping_sheet.plan_from.Goals as goal

pub returns-in_err-plan : goal.returns-in_err-plan
unfolding contents_of
returns-in_err-plan c = rw (failed _ _ c.from_residual.ensures.1) (from-refused _ _ (contents_of c.args.contents.now) c.in_err-plan.ensures)

pub set_all-requires : goal.set_all-requires
unfolding contents_of
set_all-requires c = from-emptied _ _ (contents_of c.args.contents.now) c.in_ok-plan.ensures

pub returns : goal.returns
unfolding contents_of
returns c = c.set_all.ensures ∙ from-accepted _ _ (contents_of c.args.contents.now) c.in_ok-plan.ensures
