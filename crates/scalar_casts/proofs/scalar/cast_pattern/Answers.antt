-- `scalar_casts::scalar::cast_pattern` meets its contract: equal scalars copy the low bits, the others go by their kinds.
use Rattle.common.specs.Logic.{sym, rules}
use denote.Enum.Bare.{same_true, same_false}
use Rattle.scalar_casts.specs.contracts.scalar.Scalar.{the_type}
use Rattle.scalar_casts.proofs.Scalars.{same-is, cast_is}
use Rattle.scalar_casts.proofs.scalar.cast_pattern.Goals as goal

pub returns-then-eq : goal.returns-then-eq
returns-then-eq c = same-is c.args.from c.args.to c.args.x (same_true the_type (search rules) c.args.from c.args.to (sym c.if-eq.ensures)) c.kind.ensures c.pattern.ensures

pub returns : goal.returns
returns c = cast_is c.args.from c.args.to c.args.x (same_false the_type c.args.from c.args.to (sym c.if-eq.ensures)) c.kind-2.ensures c.kind-3.ensures c.cast_kinds.ensures
