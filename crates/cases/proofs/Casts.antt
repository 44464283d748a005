-- Every row of specs/Casts.antt holds: one computation over the definitions.
use Rattle.common.specs.Logic.{refl}
use lib.Ieee.{eq, is_nan, size, of_bits, of_int, round, to_bits, to_unsigned, to_signed, nan_bits}
use Rattle.common.specs.Lists.{all, sum_below}
use Rattle.common.specs.Refusal.{answer, outcome, check, not_holding, passes, left_by}
use Rattle.datatype.specs.Datatype.{codes, datatype_lines, datatype_of, size_of, same_custom, same_datatype}
use Rattle.attribute_conversion.specs.Attributes.{cast_number, cast_each, cast_bytes, cast_fits}
use Rattle.attribute_conversion.specs.Bytes.{le_value, le_bytes}
use Rattle.attribute_conversion.specs.Lost.{lost_number, lost_component, lost_in, cast_answer}
use Rattle.numbers.specs.Casts.{int_to_int, rounded, int_to_float, float_to_signed, cast_nan, cast_float}
use Rattle.kept_casts.specs.Kept.{same_number}
use Rattle.pairs.specs.Pairs.{pair_of}
use Rattle.scalar_casts.specs.Scalars.{cast_scalar, keeps_number}
use Rattle.cases.specs.Casts.{found, told, result_in, table, RuledOut}

pub ruled_out : RuledOut
unfolding found told result_in table
    all sum_below answer outcome check not_holding passes codes datatype_lines datatype_of left_by size_of same_custom same_datatype
    pair_of cast_number cast_each cast_bytes cast_fits le_value le_bytes lost_number lost_component lost_in cast_answer int_to_int rounded int_to_float float_to_signed cast_nan cast_float cast_scalar keeps_number same_number eq is_nan
    size of_bits of_int round to_bits to_unsigned to_signed nan_bits
ruled_out = refl
