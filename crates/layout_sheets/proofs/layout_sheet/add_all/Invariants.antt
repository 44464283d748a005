-- `layout_sheets::layout_sheet::add_all` meets its contract. The invariant: the layout is that of the calls passed.
use Rattle.std.specs.Prelude.{◌≡◌}
use Rattle.common.specs.Logic.{map}
use Rattle.common.specs.Refusal.{got}
use Rattle.layout.specs.Makers.{empty_layout}
use Rattle.layout_sheets.specs.Records.{sheet_answer}
use Rattle.layout_sheets.specs.Sheet.{call_of, add_all}
use Rattle.layout_sheets.proofs.Layouts.{before}
use Rattle.layout_sheets.proofs.layout_sheet.add_all.Given as goal

abbrev pub invariant-loop-entry : goal.invariant-loop-entry
invariant-loop-entry l = got l.layout ≡ sheet_answer (add_all empty_layout (map call_of (before l.entries l.entry-index)))
