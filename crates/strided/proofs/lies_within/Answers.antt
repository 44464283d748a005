-- `strided::lies_within` meets its contract.
use Rattle.common.specs.Logic.{◌∙◌, arith, eq-eqb}
use Rattle.strided.proofs.Fits.{no-point, outside, one_place, by-room}
use Rattle.strided.proofs.lies_within.Goals as goal
use Rattle.strided.proofs.lies_within.Goals.{then-len-size-via-then-len-size, then-len-size-via-else-len-size+then-len-size-2}

pub returns-then-n-eq0 : goal.returns-then-n-eq0
returns-then-n-eq0 c = no-point c.args.at c.args.size c.args.n c.args.len c.if-n-eq0.true

pub returns-then-len-size : goal.returns-then-len-size
returns-then-len-size c =
    outside c.args.at c.args.size c.args.n c.args.len c.if-n-eq0.false
    (elim c.then-len-size.branch [
      | then-len-size-via-then-len-size w ↦ omega (arith, w.if-len-size.true)
      | then-len-size-via-else-len-size+then-len-size-2 w ↦ omega (arith, w.if-len-size.false, w.if-len-size-2.true)
    ])

pub returns-then-at-eq0 : goal.returns-then-at-eq0
returns-then-at-eq0 c = eq-eqb c.args.at.stride 0 c.if-at-eq0.true ∙ one_place c.args.at c.args.size c.args.n c.args.len c.if-n-eq0.false c.if-len-size.false c.if-len-size-2.false c.if-at-eq0.true

pub returns-else-at-eq0 : goal.returns-else-at-eq0
returns-else-at-eq0 c = by-room c.args.at c.args.size c.args.n c.args.len c.if-n-eq0.false c.if-len-size.false c.if-len-size-2.false c.if-at-eq0.false
