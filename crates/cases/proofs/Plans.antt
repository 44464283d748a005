-- Every row of specs/Plans.antt holds: one computation over the definitions.
use Rattle.common.specs.Logic.{refl, flat_map}
use lib.Ieee.{eq, is_nan, size}
use Rattle.common.specs.Lists.{all, pairwise, at_most, place_from, tabulate, every, same_bytes, first, sum_below, sum}
use Rattle.common.specs.Refusal.{answer, outcome, check, not_holding, passes, left_by}
use Rattle.datatype.specs.Arithmetic.{is_power_of_two}
use Rattle.datatype.specs.Datatype.{codes, datatype_lines, datatype_of, size_of, same_custom, same_datatype}
use Rattle.layout.specs.Layout.{printable, good_name, definition_lines, attribute_lines, good_attribute, end_of, shares_byte, disjoint, other_name, is_sound}
use Rattle.layout.specs.Lookup.{named, is_found}
use Rattle.attribute_conversion.specs.Attributes.{cast_number, cast_each, cast_bytes}
use Rattle.attribute_conversion.specs.Bytes.{le_value, le_bytes}
use Rattle.attribute_conversion.specs.Lost.{lost_number, lost_component, lost_in, cast_answer}
use Rattle.kept_casts.specs.Kept.{same_number}
use Rattle.numbers.specs.Casts.{int_to_int}
use Rattle.pairs.specs.Pairs.{pair_of}
use Rattle.scalar_casts.specs.Scalars.{cast_scalar, keeps_number}
use Rattle.writes.specs.Writes.{is_in, byte_after, written}
use Rattle.strided.specs.Strided.{value_of, converted, within, strided_fits, lost_at, lost_points}
use Rattle.plans.specs.Makers.{source_of, lacks_pair, pair_lines, target_lines, mapping_to, mapping_of, places, default_plan, layouts_lines, for_layouts, for_layouts_with_default, has_target, placed_at, with_mapping, mapping_lines, custom_plan, custom_lines, set_custom_mapping}
use Rattle.plans.specs.Plan.{is_listed, has_pair, other_target, is_sound_plan}
use Rattle.buffer_conversion.specs.Conversion.{write_of, length_number, buffer_lines, conversion_lines, convert_into_range}
use Rattle.buffer_conversion.specs.Lost.{lost_at_point, lost_of, lost_by_mapping, lost_over, converted_answer, lost_counts}
use Rattle.point_buffer.specs.Places.{sizes_before, point_bytes, located}
use Rattle.raw_point_converter.specs.Convert.{point_lines, convert_point}
use Rattle.raw_point_converter.specs.Pairs.{single, pair_of_two, pair_with, pair_for, pairs, has_cast, ends_within}
use Rattle.cases.specs.Plans.{found, told, result_in, table, RuledOut}

pub ruled_out : RuledOut
unfolding found told result_in table
    flat_map all pairwise at_most place_from tabulate every same_bytes first sum_below sum answer outcome check not_holding passes
    is_power_of_two codes datatype_lines datatype_of left_by size_of same_custom same_datatype
    printable good_name definition_lines attribute_lines good_attribute end_of shares_byte disjoint other_name is_sound named is_found
    cast_number cast_each cast_bytes le_value le_bytes lost_number lost_component lost_in cast_answer int_to_int pair_of cast_scalar keeps_number same_number eq is_nan
    is_in byte_after written value_of converted within strided_fits lost_at lost_points lost_at_point lost_of lost_by_mapping lost_over converted_answer lost_counts
    source_of lacks_pair pair_lines target_lines mapping_to mapping_of places default_plan layouts_lines for_layouts for_layouts_with_default
    has_target placed_at with_mapping mapping_lines custom_plan custom_lines set_custom_mapping is_listed has_pair other_target is_sound_plan
    sizes_before point_bytes located write_of length_number buffer_lines conversion_lines convert_into_range point_lines convert_point single pair_of_two pair_with pair_for pairs has_cast ends_within size
ruled_out = refl
