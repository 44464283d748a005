-- `truncation_casts::truncation::sum_part` meets its contract: `SumPart.antt` has the pattern that goes into the sum, and its whole part.
use Rattle.std.specs.Prelude.{◌/◌}
use Rattle.common.specs.Logic.{◌∙◌}
use Rattle.numbers.specs.Casts.{format_of}
use Rattle.numbers.proofs.Round.{power_is}
use Rattle.truncation_casts.proofs.SumPart.{power-fits, held-range, sum_is}
use Rattle.truncation_casts.proofs.truncation.sum_part.Goals as goal

pub overflow_sub-high : goal.overflow_sub-high
overflow_sub-high c =
    let f = format_of c.args.format in
    let m = c.args.most in
    power-fits f m.digits m.number c.power_of_two.result c.requires (c.power_of_two.ensures ∙ power_is f m.digits m.bounds.0) m.bounds.1 m.bounds.2

pub in_halves-requires : goal.in_halves-requires
in_halves-requires c =
    let f = format_of c.args.format in
    let m = c.args.most in
    held-range f m.digits m.number c.power_of_two.result c.requires (c.power_of_two.ensures ∙ power_is f m.digits m.bounds.0) m.bounds.1 m.bounds.2 c.args.a c.held.result c.held.ensures

pub returns : goal.returns
returns c =
    let f = format_of c.args.format in
    let m = c.args.most in
    λ s n T. c.low_bits.ensures
    ∙ sum_is f m.digits m.number c.power_of_two.result c.requires (c.power_of_two.ensures ∙ power_is f m.digits m.bounds.0) m.bounds.1 m.bounds.2
    c.args.a s n T c.held.result (c.in_halves.result / 2) c.held.ensures c.in_halves.ensures
