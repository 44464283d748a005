-- `kept_casts::digits::signed_to_float_kept` meets its contract: the distance from 0 in 64 bits is the integer's.
use Rattle.std.specs.Prelude.{◌≡◌, ◌^◌, ◌%◌, ◌-◌, ◌<◌}
use Rattle.common.specs.Logic.{true, ℕ, cond, leb, mod-lt}
use Rattle.std.proofs.Common.{nat_abs, pow_pos}
use Rattle.numbers.specs.Casts.{format_of, signed_of, int_to_int}
use Rattle.numbers.specs.Widths.{bits_in}
use Rattle.numbers.specs.declared.integer.Width.{Width}
use Rattle.numbers.proofs.Widths.{width-range}
use Rattle.kept_casts.proofs.FewDigits.{size_is, upto, kept-cut}
use Rattle.kept_casts.proofs.digits.signed_to_float_kept.Goals as goal

-- the distance d from 0, by the pattern y in 64 bits
size : (w : Width) (x : ℕ) {y d : ℕ} → y < 2 ^ 64 → y ≡ int_to_int 64 (signed_of (bits_in w) (x % 2 ^ bits_in w)) → d ≡ cond (leb (2 ^ 63) y) (2 ^ 64 - y) y → d ≡ nat_abs (signed_of (bits_in w) (x % 2 ^ bits_in w))
size w x {y} {d} B Y D = size_is (bits_in w) (x % 2 ^ bits_in w) y d (width-range w).0 (width-range w).1 (mod-lt x (pow_pos (bits_in w))) B Y D

pub digits_kept-requires : goal.digits_kept-requires
digits_kept-requires c = upto true c.args.from c.args.x c.distance.result (size c.args.from c.args.x c.signed_to_integer.type_inv c.signed_to_integer.ensures c.distance.ensures)

pub returns : goal.returns
returns c =
    kept-cut true c.args.from c.args.x c.distance.result (size c.args.from c.args.x c.signed_to_integer.type_inv c.signed_to_integer.ensures c.distance.ensures)
    (format_of c.args.to) c.digits_kept.result c.digits_kept.ensures
