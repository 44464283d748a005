-- Every case of document 01's table gives what the paper says: one computation over the definitions.
use Rattle.common.specs.Logic.{refl, flat_map}
use lib.Ieee.{size, of_bits, of_int, round, to_bits, to_unsigned, to_signed, nan_bits}
use Rattle.common.specs.Lists.{all, pairwise, at_most, greatest, every, same_bytes}
use Rattle.common.specs.Refusal.{answer, outcome, check, not_holding, passes, left_by}
use Rattle.datatype.specs.Arithmetic.{align_to, is_power_of_two}
use Rattle.datatype.specs.Datatype.{codes, datatype_lines, datatype_of, size_of, align_of, same_custom, same_datatype}
use Rattle.layout.specs.Layout.{printable, good_name, definition_lines, attribute_lines, good_attribute, end_of, shares_byte, disjoint, other_name, is_sound}
use Rattle.layout.specs.Makers.{layout_lines, empty_layout, end_after, last_end, field_alignment, layout_alignment, placed, extended, add_lines, add_attribute, given, given_lines, from_members}
use Rattle.attribute_conversion.specs.Attributes.{cast_number, cast_each, cast_bytes}
use Rattle.attribute_conversion.specs.Bytes.{le_value, le_bytes}
use Rattle.numbers.specs.Casts.{int_to_int, rounded, int_to_float, float_to_signed, cast_float}
use Rattle.pairs.specs.Pairs.{pair_of}
use Rattle.scalar_casts.specs.Scalars.{cast_scalar}
use Rattle.cases.specs.Table.{found, told, result_in, table, CasesHold}

pub proved : CasesHold
unfolding found told result_in table
    flat_map all pairwise at_most greatest every same_bytes answer outcome check not_holding passes
    align_to is_power_of_two size left_by codes datatype_lines datatype_of size_of align_of same_custom same_datatype
    printable good_name definition_lines attribute_lines good_attribute end_of shares_byte disjoint other_name is_sound
    layout_lines empty_layout end_after last_end field_alignment layout_alignment placed extended add_lines add_attribute given given_lines from_members
    pair_of cast_number cast_each cast_bytes le_value le_bytes int_to_int rounded int_to_float float_to_signed cast_float cast_scalar
    of_bits of_int round to_bits to_unsigned to_signed nan_bits
proved = refl
