-- `nakvisk::sheet_calls::nakvisk_point_size` meets its contract: the size of the layout that was read.
use Rattle.common.specs.Logic.{◌∙◌}
use Rattle.nakvisk.proofs.Calls.{number-returned, zero-returned, before-left, value-left, size-refused, size-got}
use Rattle.nakvisk.proofs.sheet_calls.nakvisk_point_size.Goals as goal

pub returns-in-Ok-clause-answer : goal.returns-in-Ok-clause-answer
returns-in-Ok-clause-answer c = zero-returned (size-got c.args.layout_sheet.now c.in-Ok.ensures)

pub returns-in-Ok-clause-size : goal.returns-in-Ok-clause-size
returns-in-Ok-clause-size c = value-left _ (size-got c.args.layout_sheet.now c.in-Ok.ensures)

pub returns-in-Err-clause-answer : goal.returns-in-Err-clause-answer
returns-in-Err-clause-answer c = c.number.ensures ∙ number-returned (size-refused c.args.layout_sheet.now c.in-Err.ensures)

pub returns-in-Err-clause-size : goal.returns-in-Err-clause-size
returns-in-Err-clause-size c = before-left _ (size-refused c.args.layout_sheet.now c.in-Err.ensures)
