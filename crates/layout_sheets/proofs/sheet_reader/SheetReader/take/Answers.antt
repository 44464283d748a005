-- `SheetReader::take` meets its contract.
use Rattle.common.specs.Logic.{arith}
use Rattle.layout_sheets.proofs.Readers.{bits-end, bits-at}
use Rattle.layout_sheets.proofs.sheet_reader.SheetReader.take.Goals as goal

pub returns-then-self-end : goal.returns-then-self-end
returns-then-self-end c = rw (← c.self.view_is) (bits-end _ _ (omega arith))

pub returns : goal.returns
returns c = rw (← c.self.view_is) (bits-at _ _ _ _ c.number_at-value.ensures (omega arith) (omega arith))
