-- `numbers::integer::unsigned_rounded` meets its contract: `Nearest.antt` has what it gives of any format.
use Rattle.std.specs.Prelude.{◌≡◌, ◌-◌, ◌*◌, ◌^◌, ◌%◌}
use Rattle.common.specs.Logic.{◌∙◌, ap, ℕ}
use lib.Ieee.{size}
use lib.Ieee.Nearest.{closest}
use Rattle.numbers.specs.Casts.{format_of}
use Rattle.numbers.proofs.Nearest.{pattern-fits, pattern-is}
use Rattle.numbers.proofs.integer.unsigned_rounded.Goals as goal

-- what was rounded
digits : (c : goal.After-shift_round-digits)
    → c.shift_round-digits.result ≡ closest (c.args.x * 2 ^ (64 - size c.args.x) % 2 ^ 63) (2 ^ (64 - c.precision-p.result))
digits c = c.shift_round-digits.ensures ∙ ap (λ (y : ℕ). closest (y % 2 ^ 63) (2 ^ (64 - c.precision-p.result))) c.normalized.ensures

pub overflow_add-exponent-2 : goal.overflow_add-exponent-2
overflow_add-exponent-2 c = record { fits = pattern-fits (format_of c.args.format) c.args.x c.ranges.x.fits _ _ _ _ c.precision-p.ensures c.bias.ensures c.significant_bits-k.ensures (digits c) }

pub returns : goal.returns
returns c =
    c.select.ensures
    ∙ pattern-is (format_of c.args.format) c.args.x c.ranges.x.fits _ _ _ _ c.precision-p.ensures c.bias.ensures c.significant_bits-k.ensures (digits c.before)
