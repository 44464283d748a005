-- Every call of the table gives what its row says: one computation over the definitions.
use Rattle.common.specs.Logic.{refl, flat_map}
use lib.Ieee.{eq, is_nan, size}
use Rattle.common.specs.Ascii.{ascii}
use Rattle.common.specs.Lists.{all, pairwise, at_most, greatest, place_from, first, tabulate, every, same_bytes, sum_below, sum}
use Rattle.common.specs.Refusal.{answer, outcome, check, answer_of, left_by, and_then, not_holding, passes}
use Rattle.datatype.specs.Arithmetic.{align_to, is_power_of_two}
use Rattle.datatype.specs.Datatype.{codes, datatype_lines, datatype_of, size_of, align_of, same_custom, same_datatype}
use Rattle.layout.specs.Layout.{printable, good_name, definition_lines, attribute_lines, good_attribute, end_of, shares_byte, disjoint, other_name, is_sound}
use Rattle.layout.specs.Lookup.{named, defined, get_attribute_by_name, index_of, offset_at, offset_of, is_found, is_among, same_attributes, compare_without_offsets}
use Rattle.layout.specs.Makers.{layout_lines, empty_layout, end_after, last_end, field_alignment, layout_alignment, placed, extended, add_lines, add_attribute, given, given_lines, from_members}
use Rattle.layout.specs.Records.{definition_of, attribute_of, listed as listed_members, layout_of, empty_point_layout, layout_answer, stored, add_answer}
use Rattle.members.specs.Members.{empty_slots, in_array, members_answer}
use Rattle.attribute_conversion.specs.Attributes.{cast_number, cast_each, cast_bytes}
use Rattle.attribute_conversion.specs.Bytes.{le_value, le_bytes}
use Rattle.attribute_conversion.specs.Lost.{lost_number, lost_component, lost_in}
use Rattle.kept_casts.specs.Kept.{same_number}
use Rattle.numbers.specs.Casts.{int_to_int}
use Rattle.pairs.specs.Pairs.{pair_of}
use Rattle.scalar_casts.specs.Scalars.{cast_scalar, keeps_number}
use Rattle.writes.specs.Writes.{is_in, byte_after, written}
use Rattle.strided.specs.Strided.{value_of, converted}
use Rattle.buffer_conversion.specs.Conversion.{write_of, length_number, buffer_lines, conversion_lines, convert_into_range}
use Rattle.buffer_conversion.specs.Lost.{lost_at_point, lost_of, lost_by_mapping, lost_over, converted_answer, lost_counts}
use Rattle.point_buffer.specs.Places.{sizes_before, point_bytes, located}
use Rattle.plans.specs.Makers.{source_of, lacks_pair, pair_lines, target_lines, mapping_to, mapping_of, places, default_plan, layouts_lines, for_layouts, for_layouts_with_default, has_target, placed_at, with_mapping, mapping_lines, custom_plan, custom_lines, set_custom_mapping}
use Rattle.plans.specs.Plan.{is_listed, has_pair, other_target, is_sound_plan}
use Rattle.plans.specs.Records.{mapped, plan_of, filled, empty_plan, plan_answer, default_slots, for_layouts_answer, with_default_answer, slot_in, slot_of, custom_answer}
use Rattle.raw_point_converter.specs.Convert.{point_lines, convert_point}
use Rattle.raw_point_converter.specs.Pairs.{single, pair_of_two, pair_with, pair_for, pairs, has_cast, ends_within}
use Rattle.raw_attribute_view.specs.View.{read_lines, start_in, part_bytes, part_place, write_part, view_lines, fields_of, point_part, write_point}
use Rattle.format.specs.Bits.{number_at, field, zero_fill}
use Rattle.format.specs.Format.{◌>>=◌, bits, bits_from, times, read_by, to_end, rest_by}
use Rattle.sheets.specs.Frame.{framed, frame_format, frame, plan_of_sheets, three_sheets}
use Rattle.sheets.specs.Records.{plan_between, mapping_answer, sheets_answer}
use Rattle.sheets.specs.Mapping.{sheet_line, mapping_format, mapping_contents, by_name, set_all, plan_from, mapping_sheet}
use Rattle.layout_sheets.specs.Records.{slots, definition_record, member_record, layout_record, sheet_answer}
use Rattle.layout_sheets.specs.Sheet.{name_byte, name, array_length, array_format, custom_format, after_code, datatype_over, datatype, entry, packing, call_of, given_of, placed_format, given_format, format_over, layout_format, contents, in_turn, add_all, layout_from, layout_sheet}
use Rattle.listing.specs.Text.{digits_within, digits, pair_word, line, layout_line, pair_line, mapping_line, plan_lines, refusal_line, handed, text_left, listing, listed_answer}
use Rattle.point_blocks.specs.Blocks.{natural_of, point_size_of, points_in, bytes_of, points_per_block, block_of}
use Rattle.point_blocks.specs.Parts.{part_count, part_at, is_block, part_of}
use Rattle.nakvisk.specs.Calls.{storage_given, range_given, conversion, lost_by_plan, lost_by_sheets, point_size, listed, number_in, length_left}
use Rattle.cases.specs.Calls.{given_at, expected, given_by, wrong_programs, RuledOut}

pub ruled_out : RuledOut
unfolding given_at expected given_by wrong_programs
    ascii flat_map all pairwise at_most greatest place_from first tabulate every same_bytes sum_below sum answer outcome check answer_of left_by and_then not_holding passes
    align_to is_power_of_two size codes datatype_lines datatype_of size_of align_of same_custom same_datatype
    printable good_name definition_lines attribute_lines good_attribute end_of shares_byte disjoint other_name is_sound
    named defined get_attribute_by_name index_of offset_at offset_of is_found is_among same_attributes compare_without_offsets
    layout_lines empty_layout end_after last_end field_alignment layout_alignment placed extended add_lines add_attribute given given_lines from_members
    definition_of attribute_of listed_members layout_of empty_point_layout layout_answer stored add_answer empty_slots in_array members_answer
    cast_number cast_each cast_bytes le_value le_bytes lost_number lost_component lost_in int_to_int pair_of cast_scalar keeps_number same_number eq is_nan is_in byte_after written value_of converted
    sizes_before point_bytes located write_of length_number buffer_lines conversion_lines convert_into_range lost_at_point lost_of lost_by_mapping lost_over converted_answer lost_counts storage_given range_given source_of lacks_pair pair_lines target_lines mapping_to mapping_of places default_plan layouts_lines for_layouts
    for_layouts_with_default has_target placed_at with_mapping mapping_lines custom_plan custom_lines set_custom_mapping
    mapped plan_of filled empty_plan plan_answer default_slots for_layouts_answer with_default_answer slot_in slot_of custom_answer
    is_listed has_pair other_target is_sound_plan point_lines convert_point single pair_of_two pair_with pair_for pairs has_cast ends_within
    read_lines start_in part_bytes part_place write_part view_lines fields_of point_part write_point
    number_at field zero_fill ◌>>=◌ bits bits_from times read_by to_end rest_by plan_of_sheets framed frame_format frame three_sheets
    plan_between mapping_answer sheets_answer sheet_line mapping_format mapping_contents by_name set_all plan_from mapping_sheet
    slots definition_record member_record layout_record sheet_answer
    name_byte name array_length array_format custom_format after_code datatype_over datatype entry packing call_of given_of placed_format given_format format_over layout_format contents in_turn add_all layout_from layout_sheet
    digits_within digits pair_word line layout_line pair_line mapping_line plan_lines refusal_line handed text_left listing listed_answer
    natural_of point_size_of points_in bytes_of points_per_block part_count part_at is_block part_of block_of conversion lost_by_plan lost_by_sheets point_size listed number_in length_left
ruled_out = refl
