-- Every row of `specs.Sheets` gives what it says: one computation over the definitions. An input of 4,096 bytes is read by the laws.
use Rattle.std.specs.Prelude.{◌≡◌, ◌∷◌, ◌≤◌, ◌+◌}
use Rattle.common.specs.Logic.{◌∙◌, sym, refl, List, flat_map, ℕ, suc, zero, arith, length, replicate, length-replicate}
use lib.Ieee.{size}
use lib.ListN.{get_or-replicate}
use Rattle.common.specs.Lists.{all, pairwise, at_most, greatest, place_from, every, same_bytes}
use Rattle.common.specs.Refusal.{got, refused, answer, outcome, check, answer_of, and_then, not_holding, passes, left_by}
use Rattle.common.proofs.Refusals.{then-refused}
use Rattle.format.specs.Bits.{Bytes, read, number_at, field, zero_fill}
use Rattle.format.specs.Format.{◌>>=◌, bits, bits_from, times, read_by, to_end, rest_by, start_by}
use Rattle.format.proofs.Fields.{field-inside}
use Rattle.format.proofs.Reading.{rest-refused}
use Rattle.datatype.specs.Arithmetic.{align_to, is_power_of_two}
use Rattle.datatype.specs.Datatype.{codes, datatype_lines, datatype_of, size_of, align_of, same_custom, same_datatype}
use Rattle.layout.specs.Layout.{printable, good_name, definition_lines, attribute_lines, good_attribute, end_of, shares_byte, disjoint, other_name, is_sound}
use Rattle.layout.specs.Lookup.{named, is_found}
use Rattle.layout.specs.Makers.{layout_lines, empty_layout, end_after, last_end, field_alignment, layout_alignment, placed as placed_attribute, extended, add_lines, add_attribute, given as given_layout, given_lines, from_members}
use Rattle.layout_sheets.specs.Older.{array_length01, format01, format04}
use Rattle.layout_sheets.specs.Sheet.{name_byte, name, array_length, array_format, custom_format, after_code, datatype_over, datatype, entry, packing, call_of, given_of, placed_format, given_format, format_over, layout_format, contents, in_turn, add_all, layout_from, layout_sheet, format_to, first_layout}
use Rattle.pairs.specs.Pairs.{pair_of}
use Rattle.plans.specs.Makers.{source_of, lacks_pair, pair_lines, target_lines, mapping_to, mapping_of, places, default_plan, layouts_lines, for_layouts, for_layouts_with_default, has_target, placed_at, with_mapping, mapping_lines, custom_lines, custom_plan, set_custom_mapping}
use Rattle.plans.specs.Plan.{is_listed, has_pair, other_target, is_sound_plan}
use Rattle.refusal_place.specs.Place.{least_from, is_refusal, shows, shown_with, place_among, attribute_place, first_targets, target_place, line_place, place_or, mapping_place, sheets_place, refusal_place}
use Rattle.sheets.specs.Frame.{framed, frame_format, frame, plan_of_sheets, three_sheets}
use Rattle.sheets.specs.Mapping.{sheet_line, mapping_format, mapping_contents, by_name, set_line, set_all, plan_from, mapping_sheet, lines_to, first_plan}
use Rattle.sheets.proofs.Frames.{part-ends, short-enough}
use Rattle.cases.specs.Sheets.{result_in, found, told, rows, RuledOut, WholeInput}

pub ruled_out : RuledOut
unfolding found told result_in rows
    least_from is_refusal shows shown_with place_among attribute_place first_targets target_place line_place place_or mapping_place sheets_place refusal_place
    start_by format_to first_layout lines_to first_plan answer_of
    three_sheets plan_of_sheets frame frame_format framed number_at field zero_fill ◌>>=◌ bits bits_from times read_by to_end rest_by
    sheet_line mapping_format mapping_contents by_name set_line set_all plan_from mapping_sheet
    name_byte name array_length array_format custom_format after_code datatype_over datatype entry packing call_of given_of placed_format given_format format_over layout_format array_length01 format01 format04 contents in_turn add_all layout_from layout_sheet
    source_of lacks_pair pair_lines target_lines mapping_to mapping_of places default_plan layouts_lines for_layouts for_layouts_with_default pair_of named is_found
    has_target placed_at with_mapping mapping_lines custom_lines custom_plan set_custom_mapping is_listed has_pair other_target is_sound_plan
    layout_lines empty_layout end_after last_end field_alignment layout_alignment placed_attribute extended add_lines add_attribute given_layout given_lines from_members
    printable good_name definition_lines attribute_lines good_attribute end_of shares_byte disjoint other_name is_sound
    codes datatype_lines datatype_of left_by size_of align_of same_custom same_datatype align_to is_power_of_two size
    all pairwise at_most greatest place_from every same_bytes answer outcome check and_then not_holding passes flat_map
ruled_out = refl

-- ---- an input whose first length passes its end

module _ (n : ℕ) where
  abbrev cut : List ℕ
  cut = 0xff ∷ 0xff ∷ replicate n 0x00

  cut-length : length cut ≡ n + 2
  cut-length = omega (arith, length-replicate {A = ℕ} n 0x00)

  cut-bytes : Bytes cut
  cut-bytes zero h = omega arith
  cut-bytes (suc zero) h = omega arith
  cut-bytes (suc (suc i)) h = rw (get_or-replicate {A = ℕ} n i 0x00 0 (omega (arith, length-replicate {A = ℕ} n 0x00, h))) (omega arith)

  -- its first 16 bits are all 1
  first-length : got (read 65535 16) ≡ field 16 cut 0
  unfolding number_at
  first-length = field-inside 16 cut 0 (omega (arith, cut-length))

  cut-refused : n + 2 ≤ 4096 → three_sheets cut ≡ refused 2
  unfolding frame_format
  cut-refused h =
      sym (short-enough cut (omega (arith, cut-length)))
      ∙ then-refused _ (rest-refused framed _ cut 0 (sym (part-ends cut 0 cut-bytes first-length (omega (arith, cut-length)))))

pub whole-input : WholeInput
whole-input = cut-refused 4094 (omega arith)
