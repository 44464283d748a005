-- `layout_sheets::layout_sheet::read_name` meets its contract. The invariant: the bytes passed were read, and lie in the array.
use Rattle.layout_sheets.proofs.Attributes.{NameGathered}
use Rattle.layout_sheets.proofs.layout_sheet.read_name.Given as goal

abbrev pub invariant-loop-i : goal.invariant-loop-i
invariant-loop-i l = NameGathered l.initial.reader l.i l.bytes l.reader
