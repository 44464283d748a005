-- `decimals::number_from` meets its contract: the number of the digits so far, of which there are at most 15.
use Rattle.common.specs.Logic.{◌∙◌, sym, arith}
use Rattle.decimals.proofs.Texts.{first-digit, other-digits, small, number-grows, number-next, number-ends, passed-number}
use Rattle.decimals.proofs.number_from.Goals as goal

pub overflow_mul-n : goal.overflow_mul-n
overflow_mul-n c = omega (arith, small c.loop-b.invariant.0 (omega arith))

pub digit-requires : goal.digit-requires
digit-requires c = first-digit _ _ c.loop-b-test.true c.loop-b.invariant.1

pub overflow_add-n : goal.overflow_add-n
overflow_add-n c = omega (arith, small c.loop-b.invariant.0 (omega arith))

pub loop-b-preserved : goal.loop-b-preserved
loop-b-preserved c = (
  number-grows _ _ _ _ c.loop-b.invariant.0 c.digit.ensures.1 (omega arith),
  other-digits _ _ c.loop-b-test.true c.loop-b.invariant.1,
  c.loop-b.invariant.2 ∙ number-next _ _ c.loop-b-test.true _ _ c.digit.ensures.0,
)

pub returns : goal.returns
returns c =
    (sym (c.loop-b.invariant.2 ∙ passed-number _ _ _ c.loop-b-test.false), number-ends _ _ _ _ (omega arith) c.loop-b-test.false c.loop-b.invariant.0)
