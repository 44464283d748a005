-- `layout_sheets::layout_sheet::members_of` meets its contract. The invariant: the array holds the members passed.
use Rattle.std.specs.Prelude.{◌≡◌}
use Rattle.layout_sheets.proofs.Layouts.{members-before}
use Rattle.layout_sheets.proofs.layout_sheet.members_of.Given as goal

abbrev pub invariant-loop-i : goal.invariant-loop-i
invariant-loop-i l = l.members ≡ members-before l.entries l.i
