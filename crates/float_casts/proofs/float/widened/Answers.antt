-- `float_casts::float::widened` meets its contract: a binary64 holds every binary32.
use Rattle.std.specs.Prelude.{◌≤◌, ◌<◌, ◌*◌, ◌^◌, ◌%◌}
use Rattle.common.specs.Logic.{◌∙◌, sym, le_trans, lt_of_lt_of_le, le_of_eq, lt_of_le_of_lt}
use lib.Ieee.{binary32, binary64, hid, ones}
use Rattle.numbers.proofs.Decoding.{number-bits}
use Rattle.float_casts.proofs.Narrow.{widen-is}
use Rattle.numbers.proofs.Value.{cast-nan}
use Rattle.float_casts.proofs.float.widened.Goals.{Else-infinity-low_bits, Then-infinity-low_bits}
use Rattle.float_casts.proofs.float.widened.Goals as goal

-- the pattern is a NaN's
none : (c : Then-infinity-low_bits) → ones binary32 * hid binary32 < c.args.b % 2 ^ 31
none c = lt_of_le_of_lt (le_of_eq (sym c.infinity.ensures)) (lt_of_lt_of_le c.if-infinity-low_bits.true (le_of_eq c.low_bits.ensures))

-- it is a number's
number : (c : Else-infinity-low_bits) → c.args.b % 2 ^ 31 ≤ ones binary32 * hid binary32
number c = le_trans (le_of_eq (sym c.low_bits.ensures)) (le_trans c.if-infinity-low_bits.false (le_of_eq c.infinity.ensures))

pub returns-then-infinity-low_bits : goal.returns-then-infinity-low_bits
returns-then-infinity-low_bits c = c.cast_nan.ensures ∙ cast-nan binary32 binary64 c.args.b (none c.before)

pub float_from_bits-result : goal.float_from_bits-result
float_from_bits-result c = number-bits binary32 c.args.b (number c)

pub returns : goal.returns
returns c = widen-is c.args.b (number c.before)
