-- `kept_casts::narrowing::float_to_float_kept` meets its contract: only binary64 to binary32 can lose a number.
use lib.Ieee.{binary64}
use Rattle.numbers.specs.Casts.{format_of}
use Rattle.kept_casts.proofs.Dispatch.{same_format, from-single}
use Rattle.kept_casts.proofs.narrowing.float_to_float_kept.Goals as goal

pub returns-in_default : goal.returns-in_default
returns-in_default c = rw (c.in_default.is-0, c.in_default.is-1) (same_format binary64 _)

pub returns-in_default-2 : goal.returns-in_default-2
returns-in_default-2 c = rw c.in_default.is-0 (from-single (format_of c.args.to) _)
