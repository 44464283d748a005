-- `sheets::mapping_sheet::read_contents` meets its contract.
use Rattle.common.specs.Logic.{arith}
use Rattle.layout_sheets.proofs.Readers.{failed, from-small, reads-stops}
use Rattle.sheets.specs.Mapping.{lines_to}
use Rattle.sheets.proofs.Lines.{missing-stops, lines-stop, contents-made}
use Rattle.sheets.proofs.mapping_sheet.read_contents.Goals as goal

pub returns-in_err-listed-clause-says : goal.returns-in_err-listed-clause-says
unfolding lines_to
returns-in_err-listed-clause-says c = rw (failed _ _ c.from_residual.ensures.1) (reads-stops _ _ _ c.in_err-listed.ensures)

pub returns-in_err-missing-clause-says : goal.returns-in_err-missing-clause-says
returns-in_err-missing-clause-says c = rw (failed _ _ c.from_residual-in_err-missing.ensures.1) (missing-stops _ _ c.in_ok-listed.ensures c.in_err-missing.ensures)

pub read_lines-requires : goal.read_lines-requires
read_lines-requires c = let l = from-small _ _ _ _ _ c.in_ok-listed.ensures in omega (arith, l.1, c.min-count.ensures)

pub returns-in_err-lines-clause-says : goal.returns-in_err-lines-clause-says
returns-in_err-lines-clause-says c =
    rw (failed _ _ c.from_residual-in_err-lines.ensures.1) (lines-stop _ _ c.in_ok-listed.ensures _ c.in_ok-missing.ensures c.min-count.ensures c.in_err-lines.ensures)

pub returns-clause-says : goal.returns-clause-says
returns-clause-says c = contents-made _ _ c.in_ok-listed.ensures _ c.in_ok-missing.ensures c.min-count.ensures c.in_ok-lines.ensures

pub returns-clause-few : goal.returns-clause-few
returns-clause-few c = let l = from-small _ _ _ _ _ c.in_ok-listed.ensures in omega (arith, l.1, c.min-count.ensures)
