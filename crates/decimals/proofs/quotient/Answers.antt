-- `decimals::quotient` meets its contract.
use Rattle.decimals.proofs.Values.{exact, quotient_is}
use Rattle.decimals.proofs.quotient.Goals as goal

pub returns : goal.returns
returns c = quotient_is _ _ _ _ c.requires.1 (exact _ c.requires.0) (exact _ c.requires.2)
