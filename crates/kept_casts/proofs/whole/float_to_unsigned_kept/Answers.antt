-- `kept_casts::whole::float_to_unsigned_kept` meets its contract.
use Rattle.std.specs.Prelude.{◌||◌, ◌&&◌, ◌%◌}
use Rattle.common.specs.Logic.{◌∙◌, ap, subst, ℕ, eqb, ltb}
use Rattle.numbers.specs.Casts.{unsigned, float, format_of}
use Rattle.numbers.specs.Widths.{bits_in}
use Rattle.numbers.proofs.Nan.{sign_top}
use Rattle.numbers.proofs.Widths.{width-range}
use Rattle.kept_casts.specs.Kept.{is_kept}
use Rattle.kept_casts.specs.Steps.{Tells, Below}
use Rattle.kept_casts.proofs.Dispatch.{float-cut}
use Rattle.kept_casts.proofs.Wholes.{kept-unsigned}
use Rattle.kept_casts.proofs.whole.float_to_unsigned_kept.Goals as goal

pub returns : goal.returns
returns c =
    let f = format_of c.args.from in
    let w = bits_in c.args.to in
    let b = c.pattern-b.result in
    let a = c.low_bits-a.result in
    ap (λ (t : ℕ). c.whole_below.result && (ltb b t || eqb a 0)) c.sign_bit.ensures
    ∙ kept-unsigned f b a (c.low_bits-a.ensures ∙ ap (λ (n : ℕ). b % n) (sign_top f c.sign_place.ensures.place)) (float-cut f c.args.x c.pattern-b.ensures) w (width-range c.args.to).0
    c.whole_below.result (subst (λ (v : ℕ). Tells c.whole_below.result (Below f a v)) c.bits.ensures c.whole_below.ensures)
    ∙ ap (is_kept (float f) (unsigned w)) c.pattern-b.ensures
