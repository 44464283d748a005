-- Document 01's two layout sheets, read and spelled by the definitions. What a reader of sheets must not do stands in crate `cases`.
use Rattle.std.specs.Prelude.{◌≡◌, ◌∷◌}
use Rattle.common.specs.Logic.{refl, [], flat_map, ℕ}
use Rattle.common.specs.Refusal.{got, answer, outcome, check, and_then}
use Rattle.format.specs.Bits.{number_at, field, zero_fill}
use Rattle.format.specs.Format.{◌>>=◌, bits, bits_from, times, read_by, to_end, rest_by}
use Rattle.format.specs.Spelling.{spell, width_of, number_of, bytes_of, packed, sheet_of}
use Rattle.datatype.specs.Datatype.{plain}
use Rattle.layout.specs.Layout.{Definition}
use Rattle.layout.specs.declared.point_layout.FieldAlignment.TheVariants.{Default}
use Rattle.layout_sheets.specs.Sheet.{name_byte, name, array_length, array_format, after_code, datatype_over, datatype, entry, packing, call_of, given_of, placed, given, placed_format, given_format, format_over, layout_format, contents}
use Rattle.layout_sheets.specs.Values.{bytes_values, datatype_values, entry_values, packing_number, call_entry, given_entry, contents_values}

abbrev one : ℕ → ℕ → Definition
one byte code = record { name = byte ∷ []; datatype = plain code }

-- hex 08150100050C0000: `P` U16 and `C` U8, both Default
pub source : contents (8 ∷ 21 ∷ 1 ∷ 0 ∷ 5 ∷ 12 ∷ 0 ∷ 0 ∷ []) ≡ got (placed (record { definition = one 80 2; alignment = Default } ∷ record { definition = one 67 0; alignment = Default } ∷ []))
unfolding contents format_over layout_format placed_format given_format entry name name_byte datatype array_length array_format after_code datatype_over packing call_of given_of ◌>>=◌ bits bits_from times read_by to_end rest_by number_at field zero_fill and_then check answer outcome
source = refl

-- hex 0600081504000200: a given sheet of alignment 4, `P` F32 at 4
pub target : contents (6 ∷ 0 ∷ 8 ∷ 21 ∷ 4 ∷ 0 ∷ 2 ∷ 0 ∷ []) ≡ got (given (record { definition = one 80 8; offset = 4 } ∷ []) 4)
unfolding contents format_over layout_format placed_format given_format entry name name_byte datatype array_length array_format after_code datatype_over packing call_of given_of ◌>>=◌ bits bits_from times read_by to_end rest_by number_at field zero_fill and_then check answer outcome
target = refl

-- ---- the definitions spell the document's own bytes

pub source-spelled : sheet_of (spell layout_format (contents_values (placed (record { definition = one 80 2; alignment = Default } ∷ record { definition = one 67 0; alignment = Default } ∷ [])))) ≡ 0x08 ∷ 0x15 ∷ 0x01 ∷ 0x00 ∷ 0x05 ∷ 0x0c ∷ 0x00 ∷ 0x00 ∷ []
unfolding contents_values bytes_values datatype_values entry_values packing_number call_entry flat_map format_over layout_format placed_format entry datatype array_length array_format after_code datatype_over name name_byte times bits bits_from ◌>>=◌ spell width_of number_of bytes_of packed sheet_of
source-spelled = refl

pub target-spelled : sheet_of (spell layout_format (contents_values (given (record { definition = one 80 8; offset = 4 } ∷ []) 4))) ≡ 0x06 ∷ 0x00 ∷ 0x08 ∷ 0x15 ∷ 0x04 ∷ 0x00 ∷ 0x02 ∷ 0x00 ∷ []
unfolding contents_values bytes_values datatype_values entry_values given_entry flat_map format_over layout_format given_format entry datatype array_length array_format after_code datatype_over name name_byte times bits bits_from ◌>>=◌ spell width_of number_of bytes_of packed sheet_of
target-spelled = refl
