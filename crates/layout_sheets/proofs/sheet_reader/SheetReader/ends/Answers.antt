-- `SheetReader::ends` meets its contract.
use Rattle.common.specs.Logic.{arith}
use Rattle.format.proofs.Fields.{fill-other, fill_is}
use Rattle.layout_sheets.proofs.sheet_reader.SheetReader.ends.Goals as goal

pub returns-then-self : goal.returns-then-self
returns-then-self c = rw (← c.self.view_is) (fill-other _ _ (omega arith))

pub returns : goal.returns
returns c = rw (← c.self.view_is) (fill_is _ _ _ _ (omega arith) (omega arith) c.number_at.ensures)
