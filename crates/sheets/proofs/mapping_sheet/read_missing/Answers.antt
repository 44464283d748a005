-- `sheets::mapping_sheet::read_missing` meets its contract.
use Rattle.sheets.proofs.Lines.{kind-zero, kind-one}
use Rattle.sheets.proofs.mapping_sheet.read_missing.Goals as goal

pub returns-then-branch-eq0 : goal.returns-then-branch-eq0
returns-then-branch-eq0 c = kind-zero _ c.in_ok-field.ensures c.if-branch-eq0.true

pub returns-else-branch-eq0 : goal.returns-else-branch-eq0
returns-else-branch-eq0 c = kind-one _ c.in_ok-field.ensures c.if-branch-eq0.false
