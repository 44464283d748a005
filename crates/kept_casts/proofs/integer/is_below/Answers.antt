-- `kept_casts::integer::is_below` meets its contract.
use Rattle.kept_casts.proofs.Ranges.{own_bits}
use Rattle.kept_casts.proofs.integer.is_below.Goals as goal

pub returns : goal.returns
returns c = own_bits c.args.w c.args.x _ c.low_bits.ensures
