-- A mapping sheet and three sheets in one input, read and spelled by the definitions.
use Rattle.std.specs.Prelude.{◌≡◌, ◌∷◌}
use Rattle.common.specs.Logic.{refl, [], flat_map}
use Rattle.common.specs.Refusal.{got, answer, outcome, check, and_then}
use Rattle.format.specs.Bits.{number_at, field, zero_fill}
use Rattle.format.specs.Format.{◌>>=◌, bits, bits_from, times, read_by, to_end, rest_by}
use Rattle.format.specs.Spelling.{spell, width_of, number_of, bytes_of, packed, sheet_of}
use Rattle.layout_sheets.specs.Values.{bytes_values}
use Rattle.sheets.specs.Frame.{framed, frame_format, frame}
use Rattle.sheets.specs.Mapping.{sheet_line, mapping_format, mapping_contents}
use Rattle.sheets.specs.Values.{line_values, mapping_values, frame_values}

-- hex 00: no line, for_layouts
pub no_line : mapping_contents (0 ∷ []) ≡ got (record { kind = 0; lines = [] })
unfolding mapping_contents mapping_format sheet_line ◌>>=◌ bits bits_from times read_by to_end rest_by number_at field zero_fill and_then check answer outcome
no_line = refl

-- hex 061100: one line of a sheet with default, source place 1 and target place 2
pub one_line : mapping_contents (6 ∷ 17 ∷ 0 ∷ []) ≡ got (record { kind = 1; lines = record { source = 1; target = 2 } ∷ [] })
unfolding mapping_contents mapping_format sheet_line ◌>>=◌ bits bits_from times read_by to_end rest_by number_at field zero_fill and_then check answer outcome
one_line = refl

-- hex 0001 00 0002 0000 0000: three sheets of one, two and no bytes
pub framed-sheets : frame (0 ∷ 1 ∷ 0 ∷ 0 ∷ 2 ∷ 0 ∷ 0 ∷ 0 ∷ 0 ∷ []) ≡ got (record { source = 0 ∷ []; target = 0 ∷ 0 ∷ []; mapping = [] })
unfolding frame frame_format framed ◌>>=◌ bits bits_from times read_by to_end rest_by number_at field zero_fill and_then check answer outcome
framed-sheets = refl

-- ---- spelled

pub line-spelled : sheet_of (spell mapping_format (mapping_values (record { kind = 1; lines = record { source = 1; target = 2 } ∷ [] }))) ≡ 0x06 ∷ 0x11 ∷ 0x00 ∷ []
unfolding mapping_values line_values flat_map mapping_format sheet_line times bits bits_from ◌>>=◌ spell width_of number_of bytes_of packed sheet_of
line-spelled = refl

pub sheets-spelled : sheet_of (spell frame_format (frame_values (record { source = 0 ∷ []; target = 0 ∷ 0 ∷ []; mapping = [] }))) ≡ 0 ∷ 1 ∷ 0 ∷ 0 ∷ 2 ∷ 0 ∷ 0 ∷ 0 ∷ 0 ∷ []
unfolding frame_values bytes_values frame_format framed times bits ◌>>=◌ spell width_of number_of bytes_of packed sheet_of
sheets-spelled = refl
