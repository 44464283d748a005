-- `layout_sheets::layout_sheet::add_all` meets its contract.
use Rattle.common.specs.Logic.{◌∙◌, arith}
use Rattle.layout_sheets.proofs.Layouts.{calls-start, calls-turn, calls-stop}
use Rattle.layout_sheets.proofs.Readers.{failed}
use Rattle.layout_sheets.proofs.layout_sheet.add_all.Goals as goal

pub loop-entry-init : goal.loop-entry-init
loop-entry-init c = calls-start c.args.entries.now c.default-layout.ensures

pub returns-in_err-layout : goal.returns-in_err-layout
returns-in_err-layout c =
    rw (failed _ _ c.from_residual.ensures.1)
    (calls-stop c.args.entries.now c.loop-entry.entry-index (omega arith) (c.requires.0 c.loop-entry.entry-index (omega arith)) c.loop-entry.invariant c.packing_of.ensures c.in_err-layout.ensures)

pub loop-entry-preserved : goal.loop-entry-preserved
loop-entry-preserved c =
    c.in_ok-layout.ensures
    ∙ calls-turn c.args.entries.now c.loop-entry.entry-index (omega arith) (c.requires.0 c.loop-entry.entry-index (omega arith)) c.loop-entry.invariant c.packing_of.ensures
