-- `float_casts::float::narrowed_rest` meets its contract: `NarrowRest.antt` has the sum that rounds, and what is cast without it.
use Rattle.std.specs.Prelude.{◌<◌, ◌*◌, ◌^◌}
use Rattle.common.specs.Logic.{ap, ℕ, leb}
use Rattle.float_casts.proofs.NarrowRest.{taken-lt, small-number, lifted-number, lifted-from, rest-fits, rest-is}
use Rattle.float_casts.proofs.float.narrowed_rest.Goals.{After-select}
use Rattle.float_casts.proofs.float.narrowed_rest.Goals as goal

-- the sum takes a pattern below that of 2 ^ -126
taken : (c : After-select) → c.select.result < 897 * 2 ^ 52
taken c = taken-lt c.low_bits-a.result c.select.result c.select.ensures

pub float_from_bits-low : goal.float_from_bits-low
float_from_bits-low c = small-number c.select.result (taken c)

pub float_to_bits-low : goal.float_to_bits-low
float_to_bits-low c = lifted-number c.select.result (taken c)

pub overflow_sub-low : goal.overflow_sub-low
overflow_sub-low c = lifted-from c.select.result (taken c)

pub overflow_add-select : goal.overflow_add-select
overflow_add-select c =
    let n = leb c.sign_bit.result c.args.b in
    record { fits = rest-fits c.low_bits-a.result c.select.result c.select.ensures _ _ _ n c.select-2.ensures c.infinity-2.ensures c.sign_bit-sign.ensures }

pub returns : goal.returns
returns c =
    rest-is c.low_bits-a.result c.select.result c.select.ensures _ _ _ _ c.select-2.ensures c.infinity-2.ensures c.sign_bit-sign.ensures
    c.args.b _ _ _ c.requires c.low_bits-a.ensures (ap (λ (y : ℕ). leb y c.args.b) c.sign_bit.ensures) c.infinity.ensures c.cast_nan.ensures c.select-3.ensures
