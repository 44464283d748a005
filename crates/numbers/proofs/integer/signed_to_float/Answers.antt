-- `numbers::integer::signed_to_float` meets its contract: the pattern in 64 bits stands for the same integer.
use Rattle.std.specs.Prelude.{◌^◌, ◌%◌}
use Rattle.common.specs.Logic.{◌∙◌, ap, mod-lt, arith}
use Rattle.std.proofs.Common.{pow_pos}
use Rattle.numbers.specs.Casts.{format_of, int_to_float, signed_of}
use Rattle.numbers.specs.Widths.{bits_in}
use Rattle.numbers.proofs.Exact.{read_is, read_small}
use Rattle.numbers.proofs.TwosComplement.{same_number_lem}
use Rattle.numbers.proofs.Widths.{width-range}
use Rattle.numbers.proofs.integer.signed_to_float.Goals as goal

pub exact-requires : goal.exact-requires
exact-requires c = read_small c.args.w c.args.x c.sign_extended-y.type_inv c.sign_extended-y.ensures c.cast_signed.ensures (omega arith)

pub returns-then-bits-precision : goal.returns-then-bits-precision
returns-then-bits-precision c =
    c.exact.ensures ∙ ap (int_to_float (format_of c.args.format)) (read_is c.args.w c.args.x c.sign_extended-y.type_inv c.sign_extended-y.ensures c.cast_signed.ensures)

pub returns : goal.returns
returns c =
    let w = bits_in c.args.w in
    let r = width-range c.args.w in
    c.signed_rounded.ensures
    ∙ ap (int_to_float (format_of c.args.format))
    (ap (signed_of 64) c.sign_extended-y.ensures ∙ same_number_lem w (c.args.x % 2 ^ w) r.0 r.1 (mod-lt c.args.x (pow_pos w)))
