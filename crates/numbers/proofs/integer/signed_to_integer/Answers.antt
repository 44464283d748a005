-- `numbers::integer::signed_to_integer` meets its contract: the low bits of 64 are those of any width.
use Rattle.std.specs.Prelude.{◌^◌, ◌%◌}
use Rattle.common.specs.Logic.{◌∙◌, ap, ℕ}
use Rattle.numbers.specs.Widths.{bits_in}
use Rattle.numbers.proofs.TwosComplement.{narrower}
use Rattle.numbers.proofs.Widths.{width-range}
use Rattle.numbers.proofs.integer.signed_to_integer.Goals as goal

pub returns : goal.returns
returns c =
    let w = bits_in c.args.to in
    c.pattern.ensures ∙ ap (λ (x : ℕ). x % 2 ^ w) c.sign_extended.ensures ∙ narrower w _ (width-range c.args.to).1
