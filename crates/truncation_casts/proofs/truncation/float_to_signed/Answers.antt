-- `truncation_casts::truncation::float_to_signed` meets its contract: held at the ends, by the sign.
use Rattle.std.specs.Prelude.{◌≡◌, ◌<◌, ◌+◌, ◌-◌, ◌*◌, ◌^◌, ◌%◌, ◌/◌}
use Rattle.common.specs.Logic.{◌∙◌, sym, subst, ap, refl, cond, ℕ, min, mod-lt, leb}
use Rattle.std.proofs.Common.{pow_pos}
use lib.Ieee.{Format, top, of_bits}
use Rattle.numbers.specs.Casts.{format_of, format_bits, sign_bit, float_to_signed}
use Rattle.numbers.specs.Widths.{bits_in}
use Rattle.truncation_casts.specs.Truncation.{Truncated}
use Rattle.numbers.proofs.Nan.{sign_top}
use Rattle.numbers.proofs.Widths.{width-range}
use Rattle.truncation_casts.proofs.Truncated.{signed_is, half_le}
use Rattle.truncation_casts.proofs.Whole.{some-distance, part-without-sign, sign_fits, sign_le, sign-number, part-le, signed_part}
use Rattle.truncation_casts.proofs.truncation.float_to_signed.Goals.{After-whole_part}
use Rattle.truncation_casts.proofs.truncation.float_to_signed.Goals as goal

-- the pattern is below twice the sign's weight
below : (f : Format) (b : ℕ) {y k : ℕ} → y ≡ b % 2 ^ format_bits f → k ≡ sign_bit f → y < 2 * 2 ^ k
below f b {y} {k} Y K = sign_fits f y k (subst (λ (x : ℕ). x < 2 ^ format_bits f) (sym Y) (mod-lt b (pow_pos (format_bits f)))) (sign_top f K)

-- the whole part without the sign is that of the float
part-is : (c : After-whole_part) (n : ℕ) → let f = format_of c.args.format in Truncated (of_bits f c.pattern-y.result) (leb (top f) c.pattern-y.result) n → c.whole_part.result ≡ min n (c.half.result - 1 + c.pattern-y.result / 2 ^ c.sign_place-place.result)
part-is c n T =
    let f = format_of c.args.format in
    part-without-sign f c.pattern-y.result c.low_bits.result c.sign_place-place.result _ _ n (sign_top f c.sign_place-place.ensures.place) c.low_bits.ensures c.whole_part.ensures T

pub with_sign-requires : goal.with_sign-requires
with_sign-requires c =
    let n = some-distance (format_of c.args.format) c.pattern-y.result _ _ refl refl in
    let u = sign_le c.pattern-y.result c.sign_place-place.result (below (format_of c.args.format) c.args.b c.pattern-y.ensures c.sign_place-place.ensures.place) in
    (part-le (bits_in c.args.w) _ _ c.half.ensures u n.0 _ (part-is c n.0 n.1), u)

pub returns : goal.returns
returns c =
    let f = format_of c.args.format in
    let w = bits_in c.args.w in
    let y = c.pattern-y.result in
    let n = some-distance f y _ _ refl refl in
    let b = below f c.args.b c.pattern-y.ensures c.sign_place-place.ensures.place in
    signed_part w _ _ c.half.ensures (sign_le y c.sign_place-place.result b) (leb (top f) y) n.0 _ _
    (sign-number y c.sign_place-place.result b ∙ ap (λ (x : ℕ). cond (leb x y) 1 0) (sign_top f c.sign_place-place.ensures.place))
    (part-is c.before n.0 n.1) c.with_sign.ensures
    ∙ signed_is w (of_bits f y) _ n.0 (half_le w (width-range c.args.w).1) n.1
    ∙ ap (λ (b : ℕ). float_to_signed w (of_bits f b)) c.pattern-y.ensures
