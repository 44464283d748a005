-- Document 01's input and its listing, and the listing of a refusal, computed over the definitions.
use Rattle.std.specs.Prelude.{◌≡◌, ◌∷◌}
use Rattle.common.specs.Logic.{◌∙◌, ap, refl, List, [], flat_map, ℕ}
use lib.Ieee.{size}
use Rattle.common.specs.Ascii.{ascii}
use Rattle.common.specs.Lists.{all, pairwise, at_most, greatest, place_from, every, same_bytes}
use Rattle.common.specs.Refusal.{got, refused, answer, outcome, check, and_then, not_holding, passes, left_by}
use Rattle.format.specs.Bits.{number_at, field, zero_fill}
use Rattle.format.specs.Format.{◌>>=◌, bits, bits_from, times, read_by, to_end, rest_by}
use Rattle.datatype.specs.Arithmetic.{align_to, is_power_of_two}
use Rattle.datatype.specs.Datatype.{plain, codes, datatype_lines, datatype_of, size_of, align_of, same_datatype}
use Rattle.layout.specs.Layout.{Attribute, printable, good_name, definition_lines, attribute_lines, good_attribute, end_of, shares_byte, disjoint, other_name, is_sound}
use Rattle.layout.specs.Lookup.{named, is_found}
use Rattle.layout.specs.Makers.{layout_lines, empty_layout, end_after, last_end, field_alignment, layout_alignment, placed as placed_attribute, extended, add_lines, add_attribute, given as given_layout, given_lines, from_members}
use Rattle.pairs.specs.Pairs.{pair_of}
use Rattle.plans.specs.Makers.{source_of, lacks_pair, pair_lines, target_lines, mapping_to, mapping_of, places, default_plan, layouts_lines, for_layouts}
use Rattle.plans.specs.Plan.{Plan}
use Rattle.sheets.specs.Frame.{framed, frame_format, frame, plan_of_sheets, three_sheets}
use Rattle.sheets.specs.Mapping.{sheet_line, mapping_format, mapping_contents, by_name, set_all, plan_from, mapping_sheet}
use Rattle.layout_sheets.specs.Sheet.{name_byte, name, array_length, array_format, after_code, datatype_over, datatype, entry, packing, call_of, given_of, placed_format, given_format, format_over, layout_format, contents, in_turn, add_all, layout_from, layout_sheet}
use Rattle.listing.specs.Text.{digits_within, digits, pair_word, line, layout_line, pair_line, mapping_line, plan_lines, refusal_line, printed}

-- hex 0008 08150100050C0000 0008 0600081504000200 0001 00
abbrev input : List ℕ
input =
    0x00 ∷ 0x08 ∷ 0x08 ∷ 0x15 ∷ 0x01 ∷ 0x00 ∷ 0x05 ∷ 0x0c ∷ 0x00 ∷ 0x00
    ∷ 0x00 ∷ 0x08 ∷ 0x06 ∷ 0x00 ∷ 0x08 ∷ 0x15 ∷ 0x04 ∷ 0x00 ∷ 0x02 ∷ 0x00
    ∷ 0x00 ∷ 0x01 ∷ 0x00
    ∷ []

abbrev attribute : ℕ → ℕ → ℕ → Attribute
attribute byte code offset = record { definition = record { name = byte ∷ []; datatype = plain code }; offset = offset }

-- `P` U16 at 0 and `C` U8 at 2; `P` F32 given at 4; `P` onto `P`
abbrev plan : Plan
plan =
    record {
      source = record { attributes = attribute 0x50 2 0 ∷ attribute 0x43 0 2 ∷ []; size = 4; alignment = 2 };
      target = record { attributes = attribute 0x50 8 4 ∷ []; size = 8; alignment = 4 };
      mappings = record { source = 0; target = 0 } ∷ [];
    }

pub input-plan : three_sheets input ≡ got plan
unfolding three_sheets plan_of_sheets frame frame_format framed number_at field zero_fill ◌>>=◌ bits bits_from times read_by to_end rest_by
    sheet_line mapping_format mapping_contents by_name set_all plan_from mapping_sheet
    name_byte name array_length array_format after_code datatype_over datatype entry packing call_of given_of placed_format given_format format_over layout_format contents in_turn add_all layout_from layout_sheet
    source_of lacks_pair pair_lines target_lines mapping_to mapping_of places default_plan layouts_lines for_layouts pair_of named is_found
    layout_lines empty_layout end_after last_end field_alignment layout_alignment placed_attribute extended add_lines add_attribute given_layout given_lines from_members
    printable good_name definition_lines attribute_lines good_attribute end_of shares_byte disjoint other_name is_sound
    codes datatype_lines datatype_of left_by size_of align_of same_datatype align_to is_power_of_two size
    all pairwise at_most greatest place_from every same_bytes answer outcome check and_then not_holding passes flat_map
input-plan = refl

abbrev bytes : List ℕ
bytes = ascii "source 2 4 2\ntarget 1 8 4\n0 2 4 4 cast P\n"

plan-listing : plan_lines plan ≡ bytes
unfolding plan_lines layout_line mapping_line pair_line pair_word ascii line digits digits_within
    pair_of passes all not_holding same_datatype size_of left_by datatype_of datatype_lines codes check answer outcome flat_map
plan-listing = refl

pub document-01 : printed (three_sheets input) ≡ bytes
unfolding printed
document-01 = ap printed input-plan ∙ plan-listing

pub refusal : printed (refused 14) ≡ ascii "refused 14\n"
unfolding printed refusal_line ascii line digits digits_within
refusal = refl

pub largest : digits 65535 ≡ ascii "65535"
unfolding ascii digits digits_within
largest = refl
