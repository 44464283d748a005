-- `truncation_casts::truncation::shift_part` meets its contract: `Whole.antt` has its selects.
use Rattle.std.specs.Prelude.{◌<◌, ◌+◌, ◌-◌, ◌^◌, ◌%◌, ◌/◌}
use Rattle.common.specs.Logic.{◌∙◌, ap, refl, cond, ℕ, mod-lt, rules, ltb, lit≤}
use Rattle.std.proofs.Common.{pow_pos}
use Rattle.numbers.specs.Casts.{format_of}
use Rattle.numbers.proofs.Round.{power_is}
use Rattle.numbers.proofs.TwosComplement.{wrap_back}
use Rattle.truncation_casts.proofs.Whole.{shift_is}
use Rattle.truncation_casts.proofs.truncation.shift_part.Goals as goal

pub returns : goal.returns
returns c =
    let f = format_of c.args.format in
    let m = c.args.most in
    let b = m.bounds in
    let one = c.power_of_two-one.result in
    let e = (c.args.a + (2 ^ 64 - one)) % 2 ^ 64 in
    let fits : m.number < 2 ^ 64 = search rules in
    λ s n T. c.select.ensures ∙ ap (cond (ltb (e / 2 ^ (c.precision.result - 1)) m.digits) c.shifted.result) c.select-past.ensures
    ∙ shift_is f c.args.a _ c.digits.result refl c.digits.ensures m.digits m.number b.0 b.1 b.2 fits
    one c.infinity.result e _ n s (c.power_of_two-one.ensures ∙ power_is f 0 (lit≤ tt)) c.infinity.ensures (mod-lt (c.args.a + (2 ^ 64 - one)) (pow_pos 64))
    (wrap_back c.args.a one c.ranges.a.fits c.power_of_two-one.type_inv) (ap (λ (y : ℕ). e / 2 ^ (y - 1)) c.precision.ensures) T c.shifted.result c.shifted.ensures
