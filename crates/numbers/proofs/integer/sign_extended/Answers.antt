-- `numbers::integer::sign_extended` meets its contract: moved up by half of the numbers, cut, and moved down.
use Rattle.std.specs.Prelude.{◌+◌, ◌-◌, ◌^◌, ◌%◌}
use Rattle.common.specs.Logic.{◌∙◌, refl, ap, ap₂, ℕ, mod-lt}
use Rattle.std.proofs.Common.{pow_pos}
use Rattle.numbers.specs.Widths.{bits_in}
use Rattle.numbers.proofs.TwosComplement.{extend-is}
use Rattle.numbers.proofs.Widths.{width-range}
use Rattle.numbers.proofs.integer.sign_extended.Goals as goal

pub returns : goal.returns
returns c =
    let w = bits_in c.args.w in
    let r = width-range c.args.w in
    extend-is w (c.args.x % 2 ^ w) _ r.0 r.1 (mod-lt c.args.x (pow_pos w)) refl c.pattern-lifted.result _
    (c.pattern-lifted.ensures ∙ ap₂ (λ (x h : ℕ). (x + h) % 2 ^ 64 % 2 ^ w) c.pattern.ensures c.half.ensures)
    (ap (λ (h : ℕ). (c.pattern-lifted.result + (2 ^ 64 - h)) % 2 ^ 64) c.half-2.ensures)
