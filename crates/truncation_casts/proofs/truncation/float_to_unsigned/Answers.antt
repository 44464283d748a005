-- `truncation_casts::truncation::float_to_unsigned` meets its contract: 0 where the sign is set, and held at the largest.
use Rattle.common.specs.Logic.{◌∙◌, ap, refl, cond, ℕ, min, leb}
use lib.Ieee.{top, of_bits, to_unsigned}
use Rattle.numbers.specs.Casts.{format_of}
use Rattle.numbers.specs.Widths.{bits_in}
use Rattle.numbers.proofs.Widths.{width-range}
use Rattle.truncation_casts.proofs.Truncated.{unsigned_is, ones-le}
use Rattle.truncation_casts.proofs.Whole.{some-distance}
use Rattle.truncation_casts.proofs.truncation.float_to_unsigned.Goals as goal

pub returns : goal.returns
returns c =
    let f = format_of c.args.format in
    let w = bits_in c.args.w in
    let n = some-distance f c.pattern.result _ _ refl refl in
    c.whole_part.ensures _ n.0 n.1
    ∙ ap (λ (y : ℕ). cond (leb (top f) c.pattern.result) 0 (min n.0 y)) c.ones.ensures
    ∙ unsigned_is w (of_bits f c.pattern.result) _ n.0 (ones-le w (width-range c.args.w).1) n.1
    ∙ ap (λ (b : ℕ). to_unsigned w (of_bits f b)) c.pattern.ensures
