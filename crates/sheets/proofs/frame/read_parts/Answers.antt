-- `sheets::frame::read_parts` meets its contract.
use Rattle.common.specs.Logic.{arith}
use Rattle.layout_sheets.proofs.Readers.{failed}
use Rattle.sheets.proofs.Frames.{first_short, second_short, third-short, byte-follows, all-framed}
use Rattle.sheets.proofs.frame.read_parts.Goals as goal

pub returns-in_err-source-clause-says : goal.returns-in_err-source-clause-says
returns-in_err-source-clause-says c = rw (failed _ _ c.from_residual.ensures.1) (first_short _ c.in_err-source.ensures.says)

pub read_part-requires-2 : goal.read_part-requires-2
read_part-requires-2 c = omega (arith, c.in_ok-source.ensures.inside, c.requires)

pub returns-in_err-target-clause-says : goal.returns-in_err-target-clause-says
returns-in_err-target-clause-says c = rw (failed _ _ c.from_residual-in_err-target.ensures.1) (second_short _ c.in_ok-source.ensures.says c.in_err-target.ensures.says)

pub overflow_add-third-2 : goal.overflow_add-third-2
overflow_add-third-2 c = omega (arith, c.in_ok-target.ensures.inside, c.requires)

pub read_part-requires-3 : goal.read_part-requires-3
read_part-requires-3 c = omega (arith, c.in_ok-target.ensures.inside, c.requires)

pub returns-in_err-mapping-clause-says : goal.returns-in_err-mapping-clause-says
returns-in_err-mapping-clause-says c =
    rw (failed _ _ c.from_residual-in_err-mapping.ensures.1) (third-short _ c.in_ok-source.ensures.says c.in_ok-target.ensures.says c.in_err-mapping.ensures.says)

pub overflow_add-third-3 : goal.overflow_add-third-3
overflow_add-third-3 c = omega (arith, c.in_ok-target.ensures.inside, c.requires)

pub overflow_add-third-4 : goal.overflow_add-third-4
overflow_add-third-4 c = omega (arith, c.in_ok-mapping.ensures.inside, c.requires)

pub returns-then-third-mapping-clause-says : goal.returns-then-third-mapping-clause-says
returns-then-third-mapping-clause-says c =
    byte-follows _ c.in_ok-source.ensures.says c.in_ok-target.ensures.says c.in_ok-mapping.ensures.says c.if-third-mapping.true

pub returns-clause-says : goal.returns-clause-says
returns-clause-says c =
    all-framed _ c.in_ok-source.ensures.says c.in_ok-target.ensures.says c.in_ok-mapping.ensures.says c.in_ok-mapping.ensures.inside c.if-third-mapping.false
