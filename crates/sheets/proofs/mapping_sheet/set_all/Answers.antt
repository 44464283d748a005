-- `sheets::mapping_sheet::set_all` meets its contract.
use Rattle.common.specs.Logic.{◌∙◌, arith}
use Rattle.layout_sheets.proofs.Readers.{failed}
use Rattle.sheets.proofs.Plans.{set-start, set-turn, set-stop}
use Rattle.sheets.proofs.mapping_sheet.set_all.Goals as goal

pub loop-line-init : goal.loop-line-init
loop-line-init c = set-start c.args.plan c.requires

pub returns-in_err-made : goal.returns-in_err-made
returns-in_err-made c =
    rw (failed _ _ c.from_residual.ensures.1) (set-stop c.args.plan c.args.lines.now c.loop-line.line-index (omega arith) c.loop-line.invariant c.in_err-made.ensures)

pub loop-line-preserved : goal.loop-line-preserved
loop-line-preserved c = c.in_ok-made.ensures ∙ set-turn c.args.plan c.args.lines.now c.loop-line.line-index (omega arith) c.loop-line.invariant
