-- `layout_sheets::layout_sheet::read_entries` meets its contract. The invariant: the attributes passed were read, and lie in the array.
use Rattle.layout_sheets.specs.Records.{entry_record, empty_entry}
use Rattle.layout_sheets.specs.Sheet.{datatype, entry}
use Rattle.layout_sheets.proofs.Gathering.{Gathered}
use Rattle.layout_sheets.proofs.layout_sheet.read_entries.Given as goal

abbrev pub invariant-loop-i : goal.invariant-loop-i
invariant-loop-i l = Gathered (entry datatype l.width) entry_record empty_entry 32 l.initial.reader l.i l.entries l.reader
