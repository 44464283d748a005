-- `sheets::mapping_sheet::set_all` meets its contract. The invariant: the plan is that of the lines passed.
use Rattle.std.specs.Prelude.{◌≡◌}
use Rattle.common.specs.Logic.{take}
use Rattle.common.specs.Refusal.{got}
use Rattle.sheets.proofs.Plans.{set_lines}
use Rattle.sheets.proofs.mapping_sheet.set_all.Given as goal

abbrev pub invariant-loop-line : goal.invariant-loop-line
invariant-loop-line l = got l.made ≡ set_lines l.initial.made (take l.line-index l.lines)
