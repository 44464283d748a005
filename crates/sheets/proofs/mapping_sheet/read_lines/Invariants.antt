-- `sheets::mapping_sheet::read_lines` meets its contract. The invariant: the lines passed were read, and lie in the array.
use Rattle.sheets.proofs.Lines.{LinesGathered}
use Rattle.sheets.proofs.mapping_sheet.read_lines.Given as goal

abbrev pub invariant-loop-i : goal.invariant-loop-i
invariant-loop-i l = LinesGathered l.initial.reader l.i l.lines l.reader
