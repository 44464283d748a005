-- `decimals::value_of` meets its contract.
use Rattle.decimals.proofs.Values.{number-holds, power-above, power-holds, value-minus, value-plus}
use Rattle.decimals.proofs.value_of.Goals as goal

pub quotient-value-requires : goal.quotient-value-requires
quotient-value-requires c =
    (number-holds _ c.requires.0, power-above _ _ c.pow-power.ensures, power-holds _ _ c.pow-power.ensures c.requires.1)

pub returns-then-negative : goal.returns-then-negative
returns-then-negative c = value-minus _ _ _ _ _ c.pow-power.ensures c.quotient-value.ensures c.if-negative.true

pub returns-else-negative : goal.returns-else-negative
returns-else-negative c = value-plus _ _ _ _ _ c.pow-power.ensures c.quotient-value.ensures c.if-negative.false
