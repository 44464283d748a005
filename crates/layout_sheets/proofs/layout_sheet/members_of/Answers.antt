-- `layout_sheets::layout_sheet::members_of` meets its contract.
use Rattle.common.specs.Logic.{arith}
use Rattle.layout_sheets.proofs.Layouts.{members-start, members-turn}
use Rattle.layout_sheets.proofs.layout_sheet.members_of.Goals as goal

pub loop-i-init : goal.loop-i-init
loop-i-init c = members-start c.args.entries.now c.default.ensures

pub loop-i-preserved : goal.loop-i-preserved
loop-i-preserved c =
    members-turn c.args.entries.now c.loop-i.i c.loop-i.members (omega arith) (omega (arith, c.requires.0)) (c.requires.1 c.loop-i.i (omega arith)) c.loop-i.invariant
