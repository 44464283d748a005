-- `kept_casts::whole::whole_below` meets its contract.
use Rattle.std.specs.Prelude.{◌+◌, ◌-◌, ◌^◌, ◌%◌}
use Rattle.common.specs.Logic.{◌∙◌, refl, mod-lt}
use Rattle.std.proofs.Common.{pow_pos}
use Rattle.numbers.specs.Casts.{format_of}
use Rattle.numbers.proofs.Round.{one_is}
use Rattle.numbers.proofs.TwosComplement.{wrap_back}
use Rattle.kept_casts.proofs.Sizes.{below_code}
use Rattle.kept_casts.proofs.whole.whole_below.Goals as goal

pub returns : goal.returns
returns c =
    let f = format_of c.args.format in
    let a = c.args.a in
    let o = c.power_of_two.result in
    below_code f a c.args.v c.precision-p.result o ((a + (2 ^ 64 - o)) % 2 ^ 64) c.low_bits.result _ _
    c.requires c.ranges.a.fits (mod-lt (a + (2 ^ 64 - o)) (pow_pos 64)) c.precision-p.ensures (c.power_of_two.ensures ∙ one_is f)
    (wrap_back a o c.ranges.a.fits c.power_of_two.type_inv) c.low_bits.ensures refl refl
