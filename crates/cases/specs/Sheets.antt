-- Wrong programs that read sheets. Each row has one input, and what document 01's definitions give there; the program that it is named after
-- gives something else, so that the public contract, an equation with the definition, rules it out.
use Rattle.std.specs.Prelude.{◌≡◌, ◌∷◌}
use Rattle.common.specs.Logic.{true, Bool, false, List, [], map, None, Some, Option, ℕ, min, replicate, take}
use Prim.Native.String.{String}
use Rattle.common.specs.Refusal.{Outcome, got, refused, answer_of, and_then}
use Rattle.common.specs.Refusal.{Answer}
use Rattle.common.specs.Refusal.{Accepted, Refused}
use Rattle.format.specs.Bits.{Read, field, zero_fill}
use Rattle.format.specs.Format.{bits_from, read_by, sheet_by}
use Rattle.datatype.specs.Datatype.{plain}
use Rattle.layout.specs.Layout.{Attribute, Layout}
use Rattle.layout_sheets.specs.Older.{format01, format04}
use Rattle.layout_sheets.specs.Sheet.{layout_from, layout_sheet, first_layout}
use Rattle.plans.specs.Plan.{Plan}
use Rattle.plans.specs.declared.plan.Mapping.{Mapping}
use Rattle.refusal_place.specs.Place.{sheets_place, refusal_place}
use Rattle.refusal_place.specs.declared.RefusalPlace.{RefusalPlace}
use Rattle.refusal_place.specs.declared.RefusalPlace.TheVariants.{Input, Sheet, Attribute as AttributeAt, Target, Line}
use Rattle.refusal_place.specs.declared.SheetKind.TheVariants.{Source as SourceSheet, Target as TargetSheet}
use Rattle.sheets.specs.Frame.{Sheets, frame, plan_of_sheets, three_sheets}
use Rattle.sheets.specs.Mapping.{mapping_sheet, first_plan}

pub data Case : Type 0 where
  -- `SheetReader::field`: the width, the sheet, the position
  wide : ℕ → List ℕ → ℕ → Case
  -- `SheetReader::wide`: the sheet, the position
  long : List ℕ → ℕ → Case
  -- `SheetReader::field_from`: the number and the ends before them
  ranged : ℕ → ℕ → ℕ → ℕ → List ℕ → ℕ → Case
  -- `SheetReader::ends`
  fill : List ℕ → ℕ → Case
  -- `read_layout_sheet`
  layout : List ℕ → Case
  -- the layout that document 01's format gives, and that of document 02's point 4
  older : List ℕ → Case
  older_four : List ℕ → Case
  -- `read_mapping_sheet`, between two layouts
  mapping : Layout → Layout → List ℕ → Case
  -- `plan_of_sheets`
  sheets : List ℕ → List ℕ → List ℕ → Case
  -- `read_sheets`
  input : List ℕ → Case
  -- `read_buffer`: a buffer that the input does not fill, and how many bytes were read
  buffered : List ℕ → ℕ → Case
  -- `check_first_attributes`: how many, the sheet
  attributes : ℕ → List ℕ → Case
  -- `check_first_lines`: between two layouts, how many, the sheet
  lines : Layout → Layout → ℕ → List ℕ → Case
  -- `read_frame`
  framed : List ℕ → Case
  -- `place_in_sheets`
  sheets_at : List ℕ → List ℕ → List ℕ → Case
  -- `refusal_place`
  input_at : List ℕ → Case
  -- `place_in_buffer`, as `read_buffer`
  buffered_at : List ℕ → ℕ → Case

pub data Result : Type 0 where
  refusal : ℕ → Result
  value : ℕ → Result
  holds : Bool → Result
  -- the offsets of the attributes
  offsets : List ℕ → Result
  -- the mappings of the plan
  mappings : List Mapping → Result
  -- nothing is refused, and nothing else told
  accepted : Result
  -- the bytes of three sheets
  parts : List ℕ → List ℕ → List ℕ → Result
  -- the place of a refusal
  told_at : Option RefusalPlace → Result

pub record Row : Type 0 where
  pub program : String
  pub case : Case
  pub gives : Result

-- ---- what a case gives

offset_in : Attribute → ℕ
offset_in a = a.offset

of_field : Outcome (Read ℕ) → Result
of_field (got r) = value r.value
of_field (refused n) = refusal n

of_layout : Outcome Layout → Result
unfolding offset_in
of_layout (got l) = offsets (map offset_in l.attributes)
of_layout (refused n) = refusal n

of_plan : Outcome Plan → Result
of_plan (got p) = mappings p.mappings
of_plan (refused n) = refusal n

of_answer : Answer → Result
of_answer Accepted = accepted
of_answer (Refused n) = refusal n

of_frame : Outcome Sheets → Result
of_frame (got f) = parts f.source f.target f.mapping
of_frame (refused n) = refusal n

unfoldable pub result_in : Case → Result
unfolding of_field of_layout of_plan of_answer of_frame
result_in (wide w s p) = of_field (field (min w 16) s p)
result_in (long s p) = of_field (field 64 s p)
result_in (ranged n low high w s p) = of_field (read_by (bits_from n low high (min w 16)) s p)
result_in (fill s p) = holds (zero_fill s p)
result_in (layout s) = of_layout (layout_sheet s)
result_in (older s) = of_layout (and_then (sheet_by format01 s) layout_from)
result_in (older_four s) = of_layout (and_then (sheet_by format04 s) layout_from)
result_in (mapping l m s) = of_plan (mapping_sheet l m s)
result_in (sheets a b c) = of_plan (plan_of_sheets (record { source = a; target = b; mapping = c }))
result_in (input s) = of_plan (three_sheets s)
result_in (buffered b n) = of_plan (three_sheets (take n b))
result_in (attributes j s) = of_answer (answer_of (first_layout j s))
result_in (lines l m j s) = of_answer (answer_of (first_plan l m j s))
result_in (framed s) = of_frame (frame s)
result_in (sheets_at a b c) = told_at (sheets_place (record { source = a; target = b; mapping = c }))
result_in (input_at s) = told_at (refusal_place s)
result_in (buffered_at b n) = told_at (refusal_place (take n b))

unfoldable pub found : Row → Result
found r = result_in r.case

unfoldable pub told : Row → Result
told r = r.gives

-- ---- the rows

abbrev row : String → Case → Result → Row
row p c r = record { program = p; case = c; gives = r }

abbrev one : ℕ → ℕ → Attribute
one byte offset = record { definition = record { name = byte ∷ []; datatype = plain 0 }; offset = offset }

-- layouts of U8: `A`; `B`; both
abbrev A : Layout
A = record { attributes = one 0x41 0 ∷ []; size = 1; alignment = 1 }

abbrev B : Layout
B = record { attributes = one 0x42 0 ∷ []; size = 1; alignment = 1 }

abbrev AB : Layout
AB = record { attributes = one 0x41 0 ∷ one 0x42 1 ∷ []; size = 2; alignment = 1 }

-- not sound
abbrev unsound : Layout
unsound = record { attributes = []; size = 0; alignment = 3 }

abbrev to : ℕ → ℕ → Mapping
to i j = record { source = i; target = j }

-- the sheets of the layouts `B` and `AB`
abbrev sheet_b : List ℕ
sheet_b = 0x04 ∷ 0x14 ∷ 0x20 ∷ 0x00 ∷ 0x00 ∷ []

abbrev sheet_ab : List ℕ
sheet_ab = 0x08 ∷ 0x14 ∷ 0x10 ∷ 0x00 ∷ 0x05 ∷ 0x08 ∷ 0x00 ∷ 0x00 ∷ []

-- `A` twice
abbrev sheet_aa : List ℕ
sheet_aa = 0x08 ∷ 0x14 ∷ 0x10 ∷ 0x00 ∷ 0x05 ∷ 0x04 ∷ 0x00 ∷ 0x00 ∷ []

-- two lines, from place 0 onto 0 and from place 0 onto 2
abbrev two_lines : List ℕ
two_lines = 0x08 ∷ 0x00 ∷ 0x00 ∷ 0x40 ∷ []

unfoldable pub rows : List Row
rows =
    row "the bits of a field read least significant first" (wide 3 (0xc0 ∷ []) 0) (value 6)
    ∷ row "a field read from the start of its byte" (wide 2 (0x30 ∷ []) 2) (value 3)
    ∷ row "a field read past the end of its sheet" (wide 9 (0xff ∷ []) 0) (refusal 2)
    ∷ row "17 bits read" (wide 17 (0x00 ∷ 0x01 ∷ 0x80 ∷ []) 0) (value 1)
    ∷ row "64 bits read least significant byte first, or cut to 16" (long (0x11 ∷ 0x22 ∷ 0x33 ∷ 0x44 ∷ 0x55 ∷ 0x66 ∷ 0x77 ∷ 0x88 ∷ 0x90 ∷ []) 4) (value 0x1223_3445_5667_7889)
    ∷ row "64 bits read past the end of their sheet" (long (0x11 ∷ 0x22 ∷ 0x33 ∷ 0x44 ∷ 0x55 ∷ 0x66 ∷ 0x77 ∷ 0x88 ∷ []) 1) (refusal 2)
    ∷ row "the lowest value of a field refused" (ranged 6 1 255 8 (0x01 ∷ []) 0) (value 1)
    ∷ row "the highest value of a field refused" (ranged 5 0 17 5 (0x88 ∷ []) 0) (value 17)
    ∷ row "the ends of a field not looked at" (ranged 5 0 17 5 (0x90 ∷ []) 0) (refusal 5)
    ∷ row "a zero fill never found" (fill (0x00 ∷ []) 7) (holds true)
    ∷ row "the bits of the fill not looked at" (fill (0x01 ∷ []) 7) (holds false)
    ∷ row "a byte after the fill taken for fill" (fill (0x00 ∷ 0x00 ∷ []) 7) (holds false)
    -- 6 bits 33
    ∷ row "33 attributes accepted" (layout (0x84 ∷ [])) (refusal 3)
    -- a name of two bytes: the first is 7, and the sheet ends inside the second
    ∷ row "a name judged whole, after its last byte" (layout (0x04 ∷ 0x20 ∷ 0x70 ∷ [])) (refusal 4)
    -- code 18
    ∷ row "a code above 17 refused with 6, or accepted" (layout (0x04 ∷ 0x09 ∷ 0x00 ∷ [])) (refusal 5)
    -- a Custom of 3 bytes and alignment 4, and then `A`; and behind it, the bits of its name all ones
    ∷ row "a Custom's alignment or name not read past, or its size cut" (layout (0x08 ∷ 0x08 ∷ 0x80 ∷ 0x01 ∷ 0x82 ∷ 0x00 ∷ 0x81 ∷ 0x01 ∷ 0x82 ∷ 0x02 ∷ 0x83 ∷ 0x03 ∷ 0x84 ∷ 0x08 ∷ 0x89 ∷ 0x09 ∷ 0x8a ∷ 0x0a ∷ 0x8b ∷ 0x0b ∷ 0x8c ∷ 0x00 ∷ 0x05 ∷ 0x04 ∷ 0x00 ∷ 0x00 ∷ [])) (offsets (0 ∷ 3 ∷ []))
    ∷ row "a Custom placed without its alignment, or its name judged" (layout (0x08 ∷ 0x14 ∷ 0x10 ∷ 0x00 ∷ 0x02 ∷ 0x20 ∷ 0x00 ∷ 0x60 ∷ 0x9f ∷ 0xff ∷ 0xff ∷ 0xff ∷ 0xff ∷ 0xff ∷ 0xff ∷ 0xff ∷ 0xff ∷ 0xff ∷ 0xff ∷ 0xff ∷ 0xff ∷ 0xff ∷ 0xff ∷ 0xff ∷ 0xe0 ∷ 0x00 ∷ [])) (offsets (0 ∷ 4 ∷ []))
    -- size 0, and the sheet ends there; one bit of the alignment is not there; nor are nine of the name
    ∷ row "a Custom of size 0 accepted, or refused after what follows" (layout (0x04 ∷ 0x08 ∷ 0x80 ∷ 0x00 ∷ 0x00 ∷ [])) (refusal 6)
    ∷ row "a Custom's alignment read past the sheet's end" (layout (0x04 ∷ 0x08 ∷ 0x80 ∷ 0x00 ∷ 0x80 ∷ [])) (refusal 2)
    ∷ row "a Custom's name read past the sheet's end" (layout (0x04 ∷ 0x08 ∷ 0x80 ∷ 0x00 ∷ 0x80 ∷ 0x80 ∷ 0x00 ∷ 0x00 ∷ 0x00 ∷ 0x00 ∷ 0x00 ∷ 0x00 ∷ 0x00 ∷ 0x00 ∷ 0x00 ∷ 0x00 ∷ 0x00 ∷ 0x00 ∷ 0x00 ∷ 0x00 ∷ [])) (refusal 2)
    -- 65,535 bytes
    ∷ row "a Custom's size held below 65,535" (layout (0x04 ∷ 0x08 ∷ 0xff ∷ 0xff ∷ 0x80 ∷ 0x00 ∷ 0x00 ∷ 0x00 ∷ 0x00 ∷ 0x00 ∷ 0x00 ∷ 0x00 ∷ 0x00 ∷ 0x80 ∷ 0x00 ∷ 0x00 ∷ 0x00 ∷ 0x00 ∷ 0x00 ∷ 0x00 ∷ 0x01 ∷ 0x00 ∷ 0x00 ∷ [])) (offsets (0 ∷ []))
    -- before point 9: code 17; before it, but after point 4: the same, and a ByteArray of 256 and `A`
    ∷ row "code 17 accepted by document 01" (older (0x08 ∷ 0x08 ∷ 0x80 ∷ 0x01 ∷ 0x82 ∷ 0x00 ∷ 0x81 ∷ 0x01 ∷ 0x82 ∷ 0x02 ∷ 0x83 ∷ 0x03 ∷ 0x84 ∷ 0x08 ∷ 0x89 ∷ 0x09 ∷ 0x8a ∷ 0x0a ∷ 0x8b ∷ 0x0b ∷ 0x8c ∷ 0x00 ∷ 0x05 ∷ 0x04 ∷ 0x00 ∷ 0x00 ∷ [])) (refusal 5)
    ∷ row "code 17 accepted by point 4" (older_four (0x08 ∷ 0x08 ∷ 0x80 ∷ 0x01 ∷ 0x82 ∷ 0x00 ∷ 0x81 ∷ 0x01 ∷ 0x82 ∷ 0x02 ∷ 0x83 ∷ 0x03 ∷ 0x84 ∷ 0x08 ∷ 0x89 ∷ 0x09 ∷ 0x8a ∷ 0x0a ∷ 0x8b ∷ 0x0b ∷ 0x8c ∷ 0x00 ∷ 0x05 ∷ 0x04 ∷ 0x00 ∷ 0x00 ∷ [])) (refusal 5)
    ∷ row "a long ByteArray refused by point 4" (older_four (0x08 ∷ 0x08 ∷ 0x00 ∷ 0x00 ∷ 0x80 ∷ 0x00 ∷ 0x05 ∷ 0x04 ∷ 0x00 ∷ 0x00 ∷ [])) (offsets (0 ∷ 256 ∷ []))
    -- code 16 is still a ByteArray there
    ∷ row "code 16 refused by point 4" (older_four (0x04 ∷ 0x08 ∷ 0x02 ∷ 0x80 ∷ 0x00 ∷ [])) (offsets (0 ∷ []))
    -- a ByteArray of 255, and then `A`
    ∷ row "255 refused in 8 bits" (layout (0x08 ∷ 0x08 ∷ 0x7f ∷ 0x80 ∷ 0x05 ∷ 0x04 ∷ 0x00 ∷ 0x00 ∷ [])) (offsets (0 ∷ 255 ∷ []))
    -- n 0, and the sheet ends; and one bit of the 16 is not there
    ∷ row "n 0 refused with 6 before the 16 bits behind it" (layout (0x04 ∷ 0x08 ∷ 0x00 ∷ 0x00 ∷ [])) (refusal 2)
    ∷ row "the 16 bits read past the sheet's end" (layout (0x04 ∷ 0x08 ∷ 0x00 ∷ 0x00 ∷ 0x00 ∷ [])) (refusal 2)
    -- n 0, and 16 bits 0, before the sheet ends; 255; 256 and then `A`; 300 and then `A`; 65,535; 65,535 and then `A`
    ∷ row "the length 0 accepted in 16 bits, or refused with 5" (layout (0x04 ∷ 0x08 ∷ 0x00 ∷ 0x00 ∷ 0x00 ∷ 0x00 ∷ [])) (refusal 6)
    ∷ row "255 accepted in 16 bits" (layout (0x04 ∷ 0x08 ∷ 0x00 ∷ 0x00 ∷ 0x7f ∷ 0x80 ∷ 0x00 ∷ [])) (refusal 6)
    ∷ row "256 refused in 16 bits, or the 16 bits read as 8" (layout (0x08 ∷ 0x08 ∷ 0x00 ∷ 0x00 ∷ 0x80 ∷ 0x00 ∷ 0x05 ∷ 0x04 ∷ 0x00 ∷ 0x00 ∷ [])) (offsets (0 ∷ 256 ∷ []))
    ∷ row "the 16 bits read least significant byte first, or cut to 8" (layout (0x08 ∷ 0x08 ∷ 0x00 ∷ 0x00 ∷ 0x96 ∷ 0x00 ∷ 0x05 ∷ 0x04 ∷ 0x00 ∷ 0x00 ∷ [])) (offsets (0 ∷ 300 ∷ []))
    ∷ row "65,535 refused" (layout (0x04 ∷ 0x08 ∷ 0x00 ∷ 0x7f ∷ 0xff ∷ 0x80 ∷ 0x00 ∷ [])) (offsets (0 ∷ []))
    ∷ row "an end past 65,535 accepted in a placed sheet" (layout (0x08 ∷ 0x08 ∷ 0x00 ∷ 0x7f ∷ 0xff ∷ 0x80 ∷ 0x05 ∷ 0x04 ∷ 0x00 ∷ 0x00 ∷ [])) (refusal 11)
    -- document 01's format, which is not read any more: n 0, before the sheet ends; 1; 255
    ∷ row "document 01's n 0 accepted" (older (0x04 ∷ 0x08 ∷ 0x00 ∷ 0x00 ∷ [])) (refusal 6)
    ∷ row "document 01's n 1 refused" (older (0x04 ∷ 0x08 ∷ 0x00 ∷ 0x80 ∷ 0x00 ∷ [])) (offsets (0 ∷ []))
    ∷ row "document 01's n 255 refused" (older (0x04 ∷ 0x08 ∷ 0x7f ∷ 0x80 ∷ 0x00 ∷ [])) (offsets (0 ∷ []))
    -- no attribute, and a fill bit that is 1
    ∷ row "fill bits not looked at" (layout (0x01 ∷ [])) (refusal 7)
    ∷ row "a byte after the fill not looked at" (layout (0x00 ∷ 0x00 ∷ [])) (refusal 7)
    -- `A` U32 Default, `B` U8 Packed 3, `A` U8 Default: the second is refused with 10, and of the whole list 8 holds
    ∷ row "a placed sheet judged whole" (layout (0x0c ∷ 0x14 ∷ 0x12 ∷ 0x00 ∷ 0x05 ∷ 0x08 ∷ 0x00 ∷ 0x61 ∷ 0x41 ∷ 0x00 ∷ 0x00 ∷ [])) (refusal 10)
    -- `A` U8 twice
    ∷ row "a refused call passed over" (layout (0x08 ∷ 0x14 ∷ 0x10 ∷ 0x00 ∷ 0x05 ∷ 0x04 ∷ 0x00 ∷ 0x00 ∷ [])) (refusal 8)
    -- the document's target sheet, `P` F32 given at 4
    ∷ row "a given sheet read as a placed one" (layout (0x06 ∷ 0x00 ∷ 0x08 ∷ 0x15 ∷ 0x04 ∷ 0x00 ∷ 0x02 ∷ 0x00 ∷ [])) (offsets (4 ∷ []))
    ∷ row "a mapping sheet always refused" (mapping A A (0x00 ∷ [])) (mappings (to 0 0 ∷ []))
    ∷ row "the two layouts of a mapping sheet exchanged" (mapping AB B (0x00 ∷ [])) (mappings (to 1 0 ∷ []))
    ∷ row "the kind of a mapping sheet read the other way: 0" (mapping A AB (0x00 ∷ [])) (refusal 12)
    ∷ row "the kind of a mapping sheet read the other way: 1" (mapping A AB (0x02 ∷ [])) (mappings (to 0 0 ∷ []))
    -- kind 0 and one line onto the target `B`, which has no source of its name
    ∷ row "a default that a line replaces not checked" (mapping A AB (0x04 ∷ 0x00 ∷ 0x80 ∷ [])) (refusal 12)
    -- one line, source place 1 and target place 0
    ∷ row "the places of a line exchanged" (mapping AB AB (0x04 ∷ 0x10 ∷ 0x00 ∷ [])) (mappings (to 1 0 ∷ to 1 1 ∷ []))
    ∷ row "a mapping sheet read before its layouts are judged" (mapping A unsound []) (refusal 1)
    ∷ row "source and target sheet exchanged" (sheets sheet_ab sheet_b (0x00 ∷ [])) (mappings (to 1 0 ∷ []))
    ∷ row "the target sheet judged before the source sheet" (sheets (0x84 ∷ []) [] (0x00 ∷ [])) (refusal 3)
    ∷ row "the mapping sheet judged before the target sheet" (sheets sheet_ab (0x84 ∷ []) []) (refusal 3)
    ∷ row "a byte after the third sheet passed over" (input (0x00 ∷ 0x00 ∷ 0x00 ∷ 0x00 ∷ 0x00 ∷ 0x00 ∷ 0x00 ∷ [])) (refusal 7)
    -- the source sheet is refused with 3, and the input ends after it
    ∷ row "a sheet judged before all three are framed" (input (0x00 ∷ 0x01 ∷ 0x84 ∷ [])) (refusal 2)
    ∷ row "the lengths read least significant byte first" (input (0x00 ∷ 0x01 ∷ 0x00 ∷ 0x00 ∷ 0x01 ∷ 0x00 ∷ 0x00 ∷ 0x01 ∷ 0x00 ∷ [])) (mappings [])
    ∷ row "the buffer's bytes past the input read too" (buffered (0x00 ∷ 0x01 ∷ 0x00 ∷ 0x00 ∷ 0x01 ∷ 0x00 ∷ 0x00 ∷ 0x01 ∷ 0x00 ∷ 0xff ∷ []) 9) (mappings [])
    ∷ row "all attributes judged, not the first alone" (attributes 1 sheet_aa) accepted
    ∷ row "one attribute fewer judged" (attributes 2 sheet_aa) (refusal 8)
    ∷ row "attributes read past the sheet's number of them" (attributes 3 sheet_ab) accepted
    ∷ row "the sheet's end looked at after its first attributes" (attributes 2 (0x04 ∷ 0x14 ∷ 0x20 ∷ 0x00 ∷ 0x00 ∷ 0xff ∷ [])) accepted
    ∷ row "all lines judged, not the first alone" (lines AB AB 1 two_lines) accepted
    ∷ row "one line fewer judged" (lines AB AB 2 two_lines) (refusal 13)
    ∷ row "the two layouts of the first lines exchanged" (lines AB B 0 (0x00 ∷ [])) accepted
    -- the sheet ends in its first field
    ∷ row "the first lines read before the source layout is judged" (lines unsound A 0 []) (refusal 1)
    ∷ row "the first lines read before the target layout is judged" (lines A unsound 0 []) (refusal 1)
    ∷ row "a sheet judged with the frame" (framed (0x00 ∷ 0x01 ∷ 0x84 ∷ 0x00 ∷ 0x02 ∷ 0x01 ∷ 0x02 ∷ 0x00 ∷ 0x00 ∷ [])) (parts (0x84 ∷ []) (0x01 ∷ 0x02 ∷ []) [])
    ∷ row "a byte after the frame passed over" (framed (0x00 ∷ 0x00 ∷ 0x00 ∷ 0x00 ∷ 0x00 ∷ 0x00 ∷ 0x00 ∷ [])) (refusal 7)
    ∷ row "the first attribute told for the second" (sheets_at sheet_aa [] []) (told_at (Some (AttributeAt SourceSheet 1)))
    -- 65,535 bytes, and then `A`
    ∷ row "the sheet told for an end past 65,535" (sheets_at (0x08 ∷ 0x08 ∷ 0x00 ∷ 0x7f ∷ 0xff ∷ 0x80 ∷ 0x05 ∷ 0x04 ∷ 0x00 ∷ 0x00 ∷ []) [] []) (told_at (Some (AttributeAt SourceSheet 1)))
    ∷ row "a target attribute told as a source attribute" (sheets_at sheet_ab sheet_aa []) (told_at (Some (AttributeAt TargetSheet 1)))
    -- the source `B` has no `A`, which stands first in the target
    ∷ row "the mapping by name told as the sheet" (sheets_at sheet_b sheet_ab (0x00 ∷ [])) (told_at (Some (Target 0)))
    ∷ row "the source's place told for the target's" (sheets_at sheet_ab (0x08 ∷ 0x14 ∷ 0x20 ∷ 0x00 ∷ 0x05 ∷ 0x0c ∷ 0x00 ∷ 0x00 ∷ []) (0x00 ∷ [])) (told_at (Some (Target 1)))
    ∷ row "the first line told for the second" (sheets_at sheet_ab sheet_ab two_lines) (told_at (Some (Line 1)))
    -- a fill bit that is 1
    ∷ row "the last attribute told for the sheet's end" (sheets_at (0x04 ∷ 0x14 ∷ 0x20 ∷ 0x00 ∷ 0x01 ∷ []) [] []) (told_at (Some (Sheet SourceSheet)))
    -- given, alignment 0, an attribute
    ∷ row "an attribute told for the alignment" (sheets_at (0x06 ∷ 0x00 ∷ 0x00 ∷ 0x00 ∷ 0x00 ∷ 0x00 ∷ 0x00 ∷ []) [] []) (told_at (Some (Sheet SourceSheet)))
    ∷ row "a place told where nothing is refused" (input_at (0x00 ∷ 0x01 ∷ 0x00 ∷ 0x00 ∷ 0x01 ∷ 0x00 ∷ 0x00 ∷ 0x01 ∷ 0x00 ∷ [])) (told_at None)
    ∷ row "a sheet told where the input is short" (input_at (0x00 ∷ 0x01 ∷ 0x84 ∷ [])) (told_at (Some Input))
    ∷ row "the input told where a sheet is refused" (input_at (0x00 ∷ 0x01 ∷ 0x84 ∷ 0x00 ∷ 0x00 ∷ 0x00 ∷ 0x00 ∷ [])) (told_at (Some (Sheet SourceSheet)))
    ∷ row "the place in the buffer's bytes past the input" (buffered_at (0x00 ∷ 0x01 ∷ 0x00 ∷ 0x00 ∷ 0x01 ∷ 0x00 ∷ 0x00 ∷ 0x01 ∷ 0x00 ∷ 0xff ∷ []) 9) (told_at None)
    ∷ row "the input told wherever it does not fill the buffer" (buffered_at (0x00 ∷ 0x01 ∷ 0x84 ∷ 0x00 ∷ 0x00 ∷ 0x00 ∷ 0x00 ∷ 0xff ∷ []) 7) (told_at (Some (Sheet SourceSheet)))
    ∷ []

-- every row holds
abbrev pub RuledOut : Type 0
RuledOut = map found rows ≡ map told rows

-- "an input of 4,096 bytes refused with 7": its first length passes its end, which is 2
abbrev pub WholeInput : Type 0
WholeInput = three_sheets (0xff ∷ 0xff ∷ replicate 4094 0x00) ≡ refused 2
