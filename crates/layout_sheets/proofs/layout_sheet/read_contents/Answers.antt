-- `layout_sheets::layout_sheet::read_contents` meets its contract.
use Rattle.common.specs.Logic.{arith, eq-eqb, ne_eqb}
use Rattle.layout_sheets.specs.Sheet.{format_to}
use Rattle.layout_sheets.proofs.Readers.{failed, from-small, reads-stops, reads-then}
use Rattle.layout_sheets.proofs.layout_sheet.read_contents.Goals as goal

pub returns-in_err-listed-clause-says : goal.returns-in_err-listed-clause-says
unfolding format_to
returns-in_err-listed-clause-says c = rw (failed _ _ c.from_residual.ensures.1) (reads-stops _ _ _ c.in_err-listed.ensures)

pub returns-in_err-field-clause-says : goal.returns-in_err-field-clause-says
unfolding format_to
returns-in_err-field-clause-says c = rw (failed _ _ c.from_residual-in_err-field.ensures.1) (reads-then _ _ _ c.in_ok-listed.ensures (reads-stops _ _ _ c.in_err-field.ensures))

pub read_placed-requires : goal.read_placed-requires
read_placed-requires c = let l = from-small _ _ _ _ _ c.in_ok-listed.ensures in omega (arith, l.1, c.min-count.ensures)

pub read_given-requires : goal.read_given-requires
read_given-requires c = let l = from-small _ _ _ _ _ c.in_ok-listed.ensures in omega (arith, l.1, c.min-count.ensures)

pub returns-then-branch-eq0-clause-says : goal.returns-then-branch-eq0-clause-says
unfolding format_to
returns-then-branch-eq0-clause-says c =
    reads-then _ _ _ c.in_ok-listed.ensures (reads-then _ _ _ c.in_ok-field.ensures (rw (eq-eqb _ 0 c.if-branch-eq0.true, ← c.min-count.ensures) c.read_placed.ensures.says))

pub returns-else-branch-eq0-clause-says : goal.returns-else-branch-eq0-clause-says
unfolding format_to
returns-else-branch-eq0-clause-says c =
    reads-then _ _ _ c.in_ok-listed.ensures (reads-then _ _ _ c.in_ok-field.ensures (rw (ne_eqb _ 0 c.if-branch-eq0.false, ← c.min-count.ensures) c.read_given.ensures.says))
