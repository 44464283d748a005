-- `kept_casts::whole::float_to_signed_kept` meets its contract.
use Rattle.std.specs.Prelude.{◌+◌, ◌-◌, ◌*◌, ◌%◌}
use Rattle.common.specs.Logic.{◌∙◌, ap, subst, ℕ}
use lib.Ieee.{emax, hid, top}
use Rattle.numbers.specs.Casts.{signed, float, format_of}
use Rattle.numbers.specs.Widths.{bits_in}
use Rattle.numbers.proofs.Nan.{sign_top}
use Rattle.numbers.proofs.Widths.{width-range}
use Rattle.kept_casts.specs.Kept.{is_kept}
use Rattle.kept_casts.specs.Steps.{Tells, Below}
use Rattle.kept_casts.proofs.Dispatch.{float-cut}
use Rattle.kept_casts.proofs.Wholes.{kept-signed}
use Rattle.kept_casts.proofs.whole.float_to_signed_kept.Goals as goal

pub returns : goal.returns
returns c =
    let f = format_of c.args.from in
    let w = bits_in c.args.to in
    let b = c.pattern-b.result in
    let a = c.low_bits-a.result in
    kept-signed f b a (c.low_bits-a.ensures ∙ ap (λ (n : ℕ). b % n) (sign_top f c.sign_place.ensures.place)) (float-cut f c.args.x c.pattern-b.ensures) w (width-range c.args.to).0
    (width-range c.args.to).1 c.whole_below.result (subst (λ (k : ℕ). Tells c.whole_below.result (Below f a (k - 1))) c.bits-v.ensures c.whole_below.ensures)
    c.lowest.result (c.lowest.ensures ∙ ap (λ (k : ℕ). top f + (emax f + (k - 1)) * hid f) c.bits-v.ensures)
    ∙ ap (is_kept (float f) (signed w)) c.pattern-b.ensures
