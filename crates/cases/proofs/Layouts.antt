-- Every row of the table of layouts gives the value that is written out: one computation over the definitions.
use Rattle.common.specs.Logic.{refl, flat_map}
use lib.Ieee.{size}
use Rattle.common.specs.Ascii.{ascii}
use Rattle.common.specs.Lists.{all, pairwise, at_most, greatest, place_from, first, tabulate, every, same_bytes}
use Rattle.common.specs.Refusal.{answer, outcome, check, left_by, not_holding, passes, or_else}
use Rattle.datatype.specs.Arithmetic.{align_to, is_power_of_two}
use Rattle.datatype.specs.Datatype.{codes, datatype_lines, datatype_of, size_of, align_of, read_align, same_custom, same_datatype}
use Rattle.layout.specs.Layout.{printable, good_name, definition_lines, attribute_lines, good_attribute, end_of, shares_byte, disjoint, other_name, is_sound}
use Rattle.layout.specs.Lookup.{named, defined, get_attribute_by_name, index_of, offset_at, offset_of, is_found, is_among, same_attributes, compare_without_offsets}
use Rattle.layout.specs.Makers.{layout_lines, end_after, last_end, field_alignment, layout_alignment, placed, extended, add_lines, add_attribute, given, given_lines, from_members}
use Rattle.layout.specs.Records.{definition_of, attribute_of, listed, layout_of, empty_point_layout, layout_answer, stored, add_answer, given_answer}
use Rattle.cases.specs.Layouts.{found, told, made_of, of_common, of_datatypes, of_layouts, table, RuledOut}

pub ruled_out : RuledOut
unfolding found told made_of of_common of_datatypes of_layouts table
    flat_map ascii all pairwise at_most greatest place_from first tabulate every same_bytes
    answer outcome check left_by not_holding passes or_else
    align_to is_power_of_two size codes datatype_lines datatype_of size_of align_of read_align same_custom same_datatype
    printable good_name definition_lines attribute_lines good_attribute end_of shares_byte disjoint other_name is_sound
    named defined get_attribute_by_name index_of offset_at offset_of is_found is_among same_attributes compare_without_offsets
    layout_lines end_after last_end field_alignment layout_alignment placed extended add_lines add_attribute given given_lines from_members
    definition_of attribute_of listed layout_of empty_point_layout layout_answer stored add_answer given_answer
ruled_out = refl
