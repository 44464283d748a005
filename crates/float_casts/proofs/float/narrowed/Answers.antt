-- `float_casts::float::narrowed` meets its contract: `Narrow.antt` has what the rounded pattern is.
use Rattle.std.specs.Prelude.{◌%◌}
use Rattle.common.specs.Logic.{ap, refl, ℕ, leb}
use lib.Ieee.{binary64, hid}
use Rattle.float_casts.proofs.Narrow.{normal-from, narrow-is}
use Rattle.float_casts.proofs.float.narrowed.Goals as goal

pub returns-then-is_normal : goal.returns-then-is_normal
returns-then-is_normal c =
    let r = normal-from c.args.b c.is_normal.result c.is_normal.ensures c.if-is_normal.true in
    narrow-is c.args.b _ (c.args.b % hid binary64) refl refl r.0 r.1 _ _ _ _
    (ap (λ (y : ℕ). leb y c.args.b) c.sign_bit.ensures) c.sign_bit-sign.ensures c.shift_round.ensures c.low_bits.ensures
