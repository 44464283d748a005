-- `decimals::decimal_by` meets its contract.
use Rattle.common.specs.Logic.{◌∙◌, sym, arith, zero-add, lit<}
use Rattle.decimals.proofs.Texts.{whole-digits, fraction-digits, few-digits, decimal-none, decimal-some, number-few}
use Rattle.decimals.proofs.decimal_by.Goals as goal

pub returns-then-not-are_digits : goal.returns-then-not-are_digits
returns-then-not-are_digits c = decimal-none _ _ _ (sym c.are_digits.ensures ∙ c.if-not-are_digits.true)

pub number_from-first-requires : goal.number_from-first-requires
number_from-first-requires c =
    let d = sym c.are_digits.ensures ∙ c.if-not-are_digits.false in
    (whole-digits _ _ d, lit< tt, omega (arith, few-digits _ _ d))

pub number_from-number-requires : goal.number_from-number-requires
number_from-number-requires c =
    let d = sym c.are_digits.ensures ∙ c.if-not-are_digits.false in
    (fraction-digits _ _ d, rw zero-add at c.number_from-first.ensures.1, few-digits _ _ d)

pub value_of-requires : goal.value_of-requires
value_of-requires c =
    let d = sym c.are_digits.ensures ∙ c.if-not-are_digits.false in
    (number-few _ _ c.number_from-number.ensures.1 (few-digits _ _ d), omega (arith, few-digits _ _ d))

pub returns : goal.returns
returns c =
    let d = sym c.are_digits.ensures ∙ c.if-not-are_digits.false in
    decimal-some _ _ _ _ _ _ d c.number_from-first.ensures.0 c.number_from-number.ensures.0 c.value_of.ensures
