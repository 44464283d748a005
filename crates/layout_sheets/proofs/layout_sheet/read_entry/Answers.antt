-- `layout_sheets::layout_sheet::read_entry` meets its contract.
use Rattle.layout_sheets.proofs.Attributes.{entry-name, entry-datatype, entry-number, entry-made}
use Rattle.layout_sheets.proofs.Readers.{failed}
use Rattle.layout_sheets.proofs.layout_sheet.read_entry.Goals as goal

pub returns-in_err-bytes : goal.returns-in_err-bytes
returns-in_err-bytes c = rw (failed _ _ c.from_residual.ensures.1) (entry-name _ _ c.in_err-bytes.ensures)

pub returns-in_err-datatype : goal.returns-in_err-datatype
returns-in_err-datatype c = rw (failed _ _ c.from_residual-in_err-datatype.ensures.1) (entry-datatype _ _ c.in_ok-bytes.ensures c.in_err-datatype.ensures)

pub returns-in_err-number : goal.returns-in_err-number
returns-in_err-number c =
    rw (failed _ _ c.from_residual-in_err-number.ensures.1) (entry-number _ _ c.in_ok-bytes.ensures c.in_ok-datatype.ensures c.requires c.in_err-number.ensures)

pub returns : goal.returns
returns c = entry-made _ _ c.in_ok-bytes.ensures c.in_ok-datatype.ensures c.requires c.in_ok-number.ensures
