-- `kept_casts::digits::digits_kept` meets its contract: no more bits than the format keeps digits.
use Rattle.std.specs.Prelude.{◌≤◌}
use Rattle.common.specs.Logic.{refl, le_trans, arith}
use Rattle.std.proofs.Common.{pow_mono}
use lib.Ieee.{prec}
use lib.Ieee.Fits.{two, two-le_pos}
use Rattle.numbers.specs.Casts.{format_of}
use Rattle.numbers.specs.Widths.{bits_in}
use Rattle.kept_casts.proofs.FewDigits.{few_bits}
use Rattle.kept_casts.proofs.digits.digits_kept.Goals as goal

pub returns-then-bits-p : goal.returns-then-bits-p
returns-then-bits-p c =
    let f = format_of c.args.format in
    let l : bits_in c.args.w ≤ prec f = omega arith in
    ((λ _. few_bits (prec f) c.args.n (two-le_pos (prec f) (two f)) (le_trans c.requires (pow_mono l))), (λ _. refl))
