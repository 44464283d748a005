-- `datatype::arithmetic::is_power_of_two` meets its contract: the digits of a 32-bit number are 1 to 32, so 2 to one less fits.
use Rattle.std.specs.Prelude.{◌≡◌, ◌≤◌, ◌<◌, ◌-◌, ◌*◌, ◌^◌, ◌%◌}
use Rattle.common.specs.Logic.{refl, ℕ, mod-eq_of_lt, one-mul, arith, eqb}
use lib.Pow.{pow-lt}
use lib.Ieee.{size}
use lib.Ieee.Digits.{size-le}
use Rattle.common.proofs.Digits.{size-pos, size-zero}
use Rattle.datatype.specs.Arithmetic.{is_power_of_two}
use Rattle.datatype.proofs.arithmetic.is_power_of_two.Goals as goal

-- a number that is not 0 has a digit, and one of 32 bits no more than 32
digits : (c : goal.After-significant_bits-digits) → (1 ≤ c.significant_bits-digits.result) × (c.significant_bits-digits.result ≤ 32)
digits c =
    let x = c.args.x in
    let p = size-pos x (omega arith) in
    let q = size-le x 32 c.ranges.x.fits in
    (omega arith, omega arith)

shifted : (x k z : ℕ) → z ≡ size x → k ≡ z - 1 → k < 64 → eqb x (1 * 2 ^ k % 18446744073709551616) ≡ is_power_of_two x
unfolding is_power_of_two
shifted x k z e p h = rw (one-mul, mod-eq_of_lt (pow-lt h), p, e)

pub returns-then-x-eq0 : goal.returns-then-x-eq0
unfolding is_power_of_two
returns-then-x-eq0 c = rw (c.if-x-eq0.true, size-zero)

pub overflow_sub-result : goal.overflow_sub-result
unfolding is_power_of_two
overflow_sub-result c = (digits c).0

pub overflow_shl-result : goal.overflow_shl-result
unfolding is_power_of_two
overflow_shl-result c = omega (arith, (digits c).1)

pub returns : goal.returns
unfolding is_power_of_two
returns c = shifted _ _ _ c.significant_bits-digits.ensures refl (omega (arith, (digits c).1))
