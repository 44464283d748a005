-- `decimals::read_decimal` meets its contract.
use Rattle.common.specs.Logic.{◌∙◌, arith}
use Rattle.decimals.proofs.Texts.{decimal-empty, decimal-minus, decimal-plus, decimal-plain}
use Rattle.decimals.proofs.read_decimal.Goals as goal

pub returns-in-empty : goal.returns-in-empty
returns-in-empty c = decimal-empty _ (omega arith)

pub returns-in-45 : goal.returns-in-45
returns-in-45 c = c.unsigned_of.ensures ∙ decimal-minus _ (omega arith) (omega arith)

pub returns-in-43 : goal.returns-in-43
returns-in-43 c = c.unsigned_of-in-43.ensures ∙ decimal-plus _ (omega arith) (omega arith)

pub returns-in_default : goal.returns-in_default
returns-in_default c = c.unsigned_of-in_default.ensures ∙ decimal-plain _ (omega arith) (λ e. omega arith) (λ e. omega arith)
