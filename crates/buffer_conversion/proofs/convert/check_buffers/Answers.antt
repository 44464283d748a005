-- `buffer_conversion::convert::check_buffers` meets its contract.
use Rattle.common.specs.Logic.{eq-eqb, ne_eqb, lt-ltb, le-ltb}
use Rattle.common.specs.Refusal.{answer}
use Rattle.buffer_conversion.specs.Conversion.{buffer_lines}
use Rattle.buffer_conversion.proofs.convert.check_buffers.Goals.{then-from-via-then-from, then-from-via-else-from+then-to}
use Rattle.buffer_conversion.proofs.convert.check_buffers.Goals as goal

pub returns-then-a-from : goal.returns-then-a-from
unfolding buffer_lines answer
returns-then-a-from c = rw (ne_eqb _ _ c.if-a-from.true, c.length_refusal.ensures)

pub returns-then-b-to : goal.returns-then-b-to
unfolding buffer_lines answer
returns-then-b-to c = rw (eq-eqb _ _ c.if-a-from.false, ne_eqb _ _ c.if-b-to.true, c.length_refusal-then-b-to.ensures)

pub returns-then-from : goal.returns-then-from
unfolding buffer_lines answer
returns-then-from c =
    elim c.then-from.branch [
      | then-from-via-then-from w ↦ rw (eq-eqb _ _ c.if-a-from.false, eq-eqb _ _ c.if-b-to.false, lt-ltb _ _ w.if-from.true)
      | then-from-via-else-from+then-to w ↦ rw (eq-eqb _ _ c.if-a-from.false, eq-eqb _ _ c.if-b-to.false, le-ltb _ _ w.if-from.false, lt-ltb _ _ w.if-to.true)
    ]

pub returns-then-from-to : goal.returns-then-from-to
unfolding buffer_lines answer
returns-then-from-to c = rw (eq-eqb _ _ c.if-a-from.false, eq-eqb _ _ c.if-b-to.false, le-ltb _ _ c.if-from.false, le-ltb _ _ c.if-to.false, ne_eqb _ _ c.if-from-to.true)

pub returns-then-from-2 : goal.returns-then-from-2
unfolding buffer_lines answer
returns-then-from-2 c =
    rw (eq-eqb _ _ c.if-a-from.false, eq-eqb _ _ c.if-b-to.false, le-ltb _ _ c.if-from.false, le-ltb _ _ c.if-to.false, eq-eqb _ _ c.if-from-to.false, lt-ltb _ _ c.if-from-2.true)

pub returns-then-to-2 : goal.returns-then-to-2
unfolding buffer_lines answer
returns-then-to-2 c =
    rw (eq-eqb _ _ c.if-a-from.false, eq-eqb _ _ c.if-b-to.false, le-ltb _ _ c.if-from.false, le-ltb _ _ c.if-to.false, eq-eqb _ _ c.if-from-to.false, le-ltb _ _ c.if-from-2.false, lt-ltb _ _ c.if-to-2.true)

pub returns : goal.returns
unfolding buffer_lines answer
returns c =
    rw (eq-eqb _ _ c.if-a-from.false, eq-eqb _ _ c.if-b-to.false, le-ltb _ _ c.if-from.false, le-ltb _ _ c.if-to.false, eq-eqb _ _ c.if-from-to.false, le-ltb _ _ c.if-from-2.false, le-ltb _ _ c.if-to-2.false)
