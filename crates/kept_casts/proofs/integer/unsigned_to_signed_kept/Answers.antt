-- `kept_casts::integer::unsigned_to_signed_kept` meets its contract.
use Rattle.std.specs.Prelude.{◌^◌, ◌%◌, ◌-◌}
use Rattle.common.specs.Logic.{◌∙◌, ap₂, true, false, ℕ, ltb}
use Rattle.numbers.specs.Widths.{bits_in}
use Rattle.numbers.proofs.Widths.{width-range}
use Rattle.kept_casts.proofs.Dispatch.{range-kept}
use Rattle.kept_casts.proofs.integer.unsigned_to_signed_kept.Goals as goal

pub returns : goal.returns
returns c =
    c.is_below.ensures ∙ ap₂ (λ (x k : ℕ). ltb x (2 ^ (k - 1))) c.pattern.ensures c.bits.ensures
    ∙ range-kept false true (bits_in c.args.from) (bits_in c.args.to) (c.args.x % 2 ^ bits_in c.args.from) (width-range c.args.to).0
