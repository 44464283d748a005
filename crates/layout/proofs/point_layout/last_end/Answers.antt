-- `layout::point_layout::last_end` meets its contract.
use Rattle.common.specs.Logic.{◌∙◌, arith}
use Rattle.layout.proofs.Listed.{last-some, last-none}
use Rattle.layout.proofs.point_layout.last_end.Goals as goal

pub returns-in-Some : goal.returns-in-Some
returns-in-Some c = (c.end_of.ensures.0 ∙ last-some c.args.attributes.now c.in-Some.m.now c.in-Some.ensures.value, c.end_of.ensures.1)

pub returns-in-None : goal.returns-in-None
returns-in-None c = (last-none c.args.attributes.now c.in-None.ensures.value, omega arith)
