-- `SheetReader::field_from` meets its contract.
use Rattle.std.proofs.Common.{rules}
use Rattle.layout_sheets.proofs.Readers.{failed, from-stops, from-here, from-other}
use Rattle.layout_sheets.proofs.sheet_reader.SheetReader.field_from.Goals as goal

pub returns-in_err-value : goal.returns-in_err-value
returns-in_err-value c = rw (failed _ _ c.from_residual.ensures.1) (from-stops _ _ _ _ _ c.in_err-value.ensures)

pub returns-then-value-high : goal.returns-then-value-high
returns-then-value-high c = search (rules, from-here)

pub returns-else-low-value : goal.returns-else-low-value
returns-else-low-value c = search (rules, from-other)
