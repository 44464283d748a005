-- Wrong programs that the contracts of the views, listings, blocks and exported functions rule out, by one input each: a row has the names
-- of the wrong programs, and what the definition of the contract gives at an input where they give something else.
use Rattle.std.specs.Prelude.{◌≡◌, ◌∷◌, ◌++◌, ℤ, pos, negsuc}
use Rattle.common.specs.Logic.{List, [], map, flat_map, None, Some, Option, ℕ, length, replicate}
use Prim.Native.String.{String}
use Rattle.common.specs.Ascii.{ascii}
use Rattle.common.specs.Refusal.{Outcome, got, refused, left_by}
use Rattle.datatype.specs.Datatype.{plain, byte_array, custom as custom_of, datatype_of}
use Rattle.datatype.specs.declared.datatype.Datatype.{Datatype}
use Rattle.layout.specs.Layout.{Definition, Attribute, Layout}
use Rattle.layout.specs.Lookup.{get_attribute_by_name, index_of, offset_of, compare_without_offsets}
use Rattle.layout.specs.Records.{layout_of, empty_point_layout, add_answer}
use Rattle.layout.specs.declared.point_layout.FieldAlignment.TheVariants.{Default, Packed}
use Rattle.layout.specs.declared.point_layout.PointAttributeDefinition.{PointAttributeDefinition}
use Rattle.layout.specs.declared.point_layout.PointAttributeMember.{PointAttributeMember}
use Rattle.layout.specs.declared.point_layout.PointLayout.{PointLayout}
use Rattle.members.specs.Members.{members_answer}
use Rattle.plans.specs.Plan.{Plan}
use Rattle.plans.specs.Records.{empty_plan, plan_of, for_layouts_answer, with_default_answer, custom_answer}
use Rattle.plans.specs.declared.plan.Mapping.{Mapping}
use Rattle.plans.specs.declared.plan.Plan.{Plan as PlanRecord}
use Rattle.point_buffer.specs.declared.Storage.{Storage}
use Rattle.point_buffer.specs.declared.Storage.TheVariants.{Interleaved, Columns}
use Rattle.buffer_conversion.specs.Conversion.{convert_into_range}
use Rattle.common.specs.Lists.{first as padded}
use Rattle.nakvisk.specs.declared.plan_calls.NakviskPointRange.{NakviskPointRange}
use Rattle.raw_point_converter.specs.Convert.{convert_point}
use Rattle.raw_attribute_view.specs.View.{start_in, part_bytes, part_place, write_part, fields_of, part_in, point_part, write_point}
use Rattle.raw_attribute_view.specs.declared.ViewShape.{ViewShape}
use Rattle.raw_attribute_view.specs.declared.Part.{Part}
use Rattle.sheets.specs.Frame.{Sheets, plan_of_sheets, three_sheets}
use Rattle.sheets.specs.Mapping.{mapping_sheet}
use Rattle.sheets.specs.Records.{mapping_answer, sheets_answer}
use Rattle.layout_sheets.specs.Records.{sheet_answer}
use Rattle.layout_sheets.specs.Sheet.{layout_sheet}
use Rattle.listing.specs.Text.{refusal_line, handed, text_left, listing, listed_answer, length_in}
use Rattle.buffer_conversion.specs.Lost.{converted_answer, lost_counts}
use Rattle.point_blocks.specs.Blocks.{natural_of, point_size_of, points_in, bytes_of, points_per_block, whole, block_of}
use Rattle.point_blocks.specs.Parts.{part_of}
use Rattle.point_blocks.specs.declared.Part.{Part as BlockPart}
use Rattle.nakvisk.specs.Calls.{version, conversion, lost_by_plan, lost_by_sheets, point_size, listed, range_given, returned, length_left, datatype_handed, layout_handed, plan_handed, counted_handed, numbers_handed, found_handed, compared_handed, view_handed, part_handed}
use Rattle.nakvisk.specs.declared.layout_calls.NakviskCompared.{NakviskCompared}
use Rattle.nakvisk.specs.declared.layout_calls.NakviskDatatypeAnswer.{NakviskDatatypeAnswer}
use Rattle.nakvisk.specs.declared.layout_calls.NakviskFound.{NakviskFound}
use Rattle.nakvisk.specs.declared.layout_calls.NakviskLayoutAnswer.{NakviskLayoutAnswer}
use Rattle.nakvisk.specs.declared.plan_calls.NakviskCounted.{NakviskCounted}
use Rattle.nakvisk.specs.declared.plan_calls.NakviskPlanAnswer.{NakviskPlanAnswer}
use Rattle.nakvisk.specs.declared.point_calls.NakviskPart.{NakviskPart}
use Rattle.nakvisk.specs.declared.point_calls.NakviskViewAnswer.{NakviskViewAnswer}

-- a call, named as the function, and what is passed to it; a lent text or target is the last
pub data PublicCall : Type 0 where
  -- point_blocks
  natural : ℤ → PublicCall
  points-in : ℕ → ℕ → PublicCall
  bytes-of : ℕ → ℕ → PublicCall
  points-per-block : ℕ → ℕ → PublicCall
  point-size : Layout → Storage → PublicCall
  part-of : Layout → Storage → ℕ → ℕ → ℕ → ℕ → PublicCall
  convert-block : Plan → Storage → Storage → ℕ → List ℕ → List ℕ → PublicCall
  -- its counts
  convert-block-counts : Plan → Storage → Storage → ℕ → List ℕ → List ℕ → PublicCall
  -- raw_attribute_view: layout, place, count and bytes; lent bytes, offset, stride, size and point
  from-interleaved-buffer : Layout → ℕ → ℕ → ℕ → PublicCall
  read : List ℕ → ℕ → ℕ → ℕ → ℕ → PublicCall
  write : ℕ → ℕ → ℕ → ℕ → List ℕ → List ℕ → PublicCall
  read-part : ℕ → ℕ → ℕ → ℕ → ℕ → PublicCall
  read-point : Layout → ℕ → ℕ → ℕ → ℕ → PublicCall
  write-point : Layout → ℕ → ℕ → ℕ → List ℕ → List ℕ → PublicCall
  -- listing
  list-plan : Plan → List ℕ → PublicCall
  list-refusal : ℕ → List ℕ → PublicCall
  -- nakvisk; a lent number is the last before them
  nakvisk-version : PublicCall
  nakvisk-convert : Sheets → List ℕ → NakviskPointRange → NakviskPointRange → ℕ → List ℕ → PublicCall
  nakvisk-point-size : List ℕ → ℕ → PublicCall
  nakvisk-list : Sheets → ℕ → List ℕ → PublicCall
  nakvisk-datatype-of : Datatype → PublicCall
  nakvisk-layout-of-sheet : List ℕ → PublicCall
  nakvisk-add-attribute : PointLayout → PointAttributeDefinition → PublicCall
  nakvisk-add-attribute-packed : PointLayout → PointAttributeDefinition → ℕ → PublicCall
  nakvisk-layout-of-members : List PointAttributeMember → ℕ → PublicCall
  nakvisk-get-attribute-by-name : Layout → List ℕ → PublicCall
  nakvisk-index-of : Layout → Definition → PublicCall
  nakvisk-offset-of : Layout → Definition → PublicCall
  nakvisk-compare-without-offsets : Layout → Layout → PublicCall
  nakvisk-convert-point : Layout → Layout → List ℕ → List ℕ → PublicCall
  nakvisk-read-point : Layout → ℕ → ℕ → ℕ → ℕ → PublicCall
  nakvisk-write-point : Layout → ℕ → ℕ → ℕ → List ℕ → List ℕ → PublicCall
  nakvisk-view-of : Layout → ℕ → ℕ → ℕ → PublicCall
  nakvisk-read-part : ℕ → ℕ → ℕ → ℕ → ℕ → PublicCall
  nakvisk-write-part : ℕ → ℕ → ℕ → ℕ → List ℕ → List ℕ → PublicCall
  nakvisk-plan-of-sheets : Sheets → PublicCall
  nakvisk-plan-of-input : List ℕ → PublicCall
  nakvisk-plan-of-mapping-sheet : PointLayout → PointLayout → List ℕ → PublicCall
  nakvisk-for-layouts : PointLayout → PointLayout → PublicCall
  nakvisk-for-layouts-with-default : PointLayout → PointLayout → PublicCall
  nakvisk-set-custom-mapping : PlanRecord → ℕ → ℕ → PublicCall
  nakvisk-convert-by-plan : Plan → List ℕ → NakviskPointRange → NakviskPointRange → ℕ → List ℕ → PublicCall
  nakvisk-convert-by-mapping : Plan → List ℕ → NakviskPointRange → NakviskPointRange → List ℕ → PublicCall
  nakvisk-convert-uncounted : Plan → List ℕ → NakviskPointRange → NakviskPointRange → List ℕ → PublicCall
  nakvisk-list-plan : Plan → ℕ → List ℕ → PublicCall

-- what it gives: the number of the refusal, or 0; the numbers in its answer; the lent bytes after it
pub record Given : Type 0 where
  pub refusal : ℕ
  pub numbers : List ℕ
  pub lent : List ℕ

abbrev result : ℕ → List ℕ → List ℕ → Given
result n xs l = record { refusal = n; numbers = xs; lent = l }

pub record WrongRow : Type 0 where
  pub wrong : String
  pub call : PublicCall
  pub gives : Given

-- ---- what a call gives

-- numbers of a value; none of a refusal
numbers_of : {X : Type 0} → (X → List ℕ) → Outcome X → List ℕ
numbers_of f (got x) = f x
numbers_of f (refused n) = []

-- a number, or none
in_number : Option ℕ → List ℕ
in_number (Some n) = n ∷ []
in_number None = []

in_view : ViewShape → List ℕ
in_view v = v.offset ∷ v.stride ∷ v.size ∷ []

in_part : Part → List ℕ
in_part p = p.start ∷ p.size ∷ []

offset_in : Attribute → ℕ
offset_in a = a.offset

-- size, alignment, and each attribute's offset
in_layout : Layout → List ℕ
unfolding offset_in
in_layout l = l.size ∷ l.alignment ∷ map offset_in l.attributes

handed_layout : NakviskLayoutAnswer → Given
unfolding in_layout
handed_layout a = result a.refusal (in_layout (layout_of a.layout)) []

handed_part : NakviskPart → Given
handed_part p = result p.refusal (p.start ∷ p.size ∷ []) []

handed_view : NakviskViewAnswer → Given
handed_view a = result a.refusal (a.view.offset ∷ a.view.stride ∷ a.view.size ∷ []) []

handed_datatype : NakviskDatatypeAnswer → Given
handed_datatype a = result a.refusal (a.size ∷ a.alignment ∷ []) []

handed_found : NakviskFound → Given
handed_found a = result a.refusal (a.found ∷ a.at ∷ []) []

handed_compared : NakviskCompared → Given
handed_compared a = result a.refusal (a.same ∷ []) []

places_in : Mapping → List ℕ
places_in x = x.source ∷ x.target ∷ []

-- where it begins in the file and in the block, and its length
in_block_part : Option BlockPart → List ℕ
in_block_part (Some q) = q.at ∷ q.start ∷ q.length ∷ []
in_block_part None = []

-- both point sizes, and each mapping's places
in_plan : Plan → List ℕ
unfolding places_in
in_plan p = p.source.size ∷ p.target.size ∷ flat_map places_in p.mappings

handed_plan : NakviskPlanAnswer → Given
unfolding in_plan
handed_plan a = result a.refusal (in_plan (plan_of a.plan)) []

-- the call's number and the lent bytes
leaves : List ℕ → Outcome (List ℕ) → Given
leaves t o = result (returned o) [] (left_by t o)

-- the same, and a lent number
leaves_number : List ℕ → Outcome (List ℕ) → ℕ → Outcome ℕ → Given
leaves_number t o w lost = result (returned o) (left_by w lost ∷ []) (left_by t o)

-- what is handed back by value beside the lent bytes
leaves_counted : List ℕ → Outcome (List ℕ) → NakviskCounted → Given
leaves_counted t o c = result c.refusal c.lost (left_by t o)

-- the part that a view of these bytes shows, where they lie from 100 on: its place, and its bytes
shows : List ℕ → ℕ → Outcome ℕ → Given
shows s size start = result (returned start) ((part_place (0, 100) start).1 ∷ []) (part_bytes s size start)

unfoldable pub given_by : PublicCall → Given
unfolding in_block_part numbers_of in_number in_view in_part handed_layout handed_part handed_view handed_datatype handed_found handed_compared handed_plan leaves leaves_number leaves_counted shows
given_by (natural z) = result 0 (natural_of z ∷ []) []
given_by (points-in length size) = result 0 (in_number (points_in length size)) []
given_by (bytes-of points size) = result 0 (in_number (bytes_of points size)) []
given_by (points-per-block source target) = result 0 (points_per_block source target ∷ []) []
given_by (point-size l s) = result 0 (point_size_of l s ∷ []) []
given_by (part-of l s points first count k) = result 0 (in_block_part (part_of l s points first count k)) []
given_by (convert-block p a b n source t) = leaves t (block_of p a b n source (length t))
given_by (convert-block-counts p a b n source t) = result 0 (numbers_handed (converted_answer (block_of p a b n source (length t)) (lost_counts p (whole a n) source))).lost []
given_by (from-interleaved-buffer l place count n) = result (returned (fields_of l place count n)) (numbers_of in_view (fields_of l place count n)) []
given_by (read s offset stride size i) = shows s size (start_in (length s) offset stride size i)
given_by (write offset stride size i value s) = leaves s (write_part s offset stride size i value)
given_by (read-point l place count n i) = result (returned (point_part l place count n i)) (numbers_of in_part (point_part l place count n i)) []
given_by (read-part n offset stride size i) = result (returned (part_in n offset stride size i)) (numbers_of in_part (part_in n offset stride size i)) []
given_by (write-point l place count i value s) = leaves s (write_point l place count s i value)
given_by (list-plan p t) = result (returned (listing p)) (length_in (listed_answer (listing p)) ∷ []) (text_left t (listing p))
given_by (list-refusal n t) = result 0 (length (refusal_line n) ∷ []) (handed t (refusal_line n))
given_by nakvisk-version = result 0 (version ∷ []) []
given_by (nakvisk-convert f source from to w t) = leaves_number t (conversion f source (range_given from) t (range_given to)) w (lost_by_sheets f source (range_given from) t (range_given to))
given_by (nakvisk-point-size s n) = result (returned (point_size s)) (left_by n (point_size s) ∷ []) []
given_by (nakvisk-list f written t) = result (returned (listed f)) (length_left written (listed f) ∷ []) (text_left t (listed f))
given_by (nakvisk-datatype-of d) = handed_datatype (datatype_handed (datatype_of d))
given_by (nakvisk-layout-of-sheet s) = handed_layout (layout_handed (sheet_answer (layout_sheet s)))
given_by (nakvisk-add-attribute l d) = handed_layout (layout_handed (add_answer l d Default))
given_by (nakvisk-add-attribute-packed l d p) = handed_layout (layout_handed (add_answer l d (Packed p)))
given_by (nakvisk-convert-point l m s t) = leaves t (convert_point l m s t)
given_by (nakvisk-layout-of-members ms alignment) = handed_layout (layout_handed (members_answer ms alignment))
given_by (nakvisk-get-attribute-by-name l name) = handed_found (found_handed (get_attribute_by_name l name))
given_by (nakvisk-index-of l d) = handed_found (found_handed (index_of l d))
given_by (nakvisk-offset-of l d) = handed_found (found_handed (offset_of l d))
given_by (nakvisk-compare-without-offsets l m) = handed_compared (compared_handed (compare_without_offsets l m))
given_by (nakvisk-read-point l place count n i) = handed_part (part_handed (point_part l place count n i))
given_by (nakvisk-write-point l place count i value s) = leaves s (write_point l place count s i value)
given_by (nakvisk-view-of l place count n) = handed_view (view_handed (fields_of l place count n))
given_by (nakvisk-read-part n offset stride size i) = handed_part (part_handed (part_in n offset stride size i))
given_by (nakvisk-write-part offset stride size i value s) = leaves s (write_part s offset stride size i value)
given_by (nakvisk-plan-of-sheets f) = handed_plan (plan_handed (sheets_answer (plan_of_sheets f)))
given_by (nakvisk-plan-of-input s) = handed_plan (plan_handed (sheets_answer (three_sheets s)))
given_by (nakvisk-plan-of-mapping-sheet l m s) = handed_plan (plan_handed (mapping_answer l m (mapping_sheet (layout_of l) (layout_of m) s)))
given_by (nakvisk-for-layouts l m) = handed_plan (plan_handed (for_layouts_answer l m))
given_by (nakvisk-for-layouts-with-default l m) = handed_plan (plan_handed (with_default_answer l m))
given_by (nakvisk-set-custom-mapping p i j) = handed_plan (plan_handed (custom_answer p i j))
given_by (nakvisk-convert-by-plan p source from to w t) = leaves_number t (convert_into_range p source (range_given from) t (range_given to)) w (lost_by_plan p source (range_given from) t (range_given to))
given_by (nakvisk-convert-by-mapping p source from to t) =
    let o = convert_into_range p source (range_given from) t (range_given to) in leaves_counted t o (counted_handed o p (range_given from) source)
given_by (nakvisk-convert-uncounted p source from to t) = leaves t (convert_into_range p source (range_given from) t (range_given to))
given_by (nakvisk-list-plan p written t) = result (returned (listing p)) (length_left written (listing p) ∷ []) (text_left t (listing p))

unfoldable pub given_at : WrongRow → Given
given_at r = given_by r.call

unfoldable pub expected : WrongRow → Given
expected r = r.gives

-- ---- layouts, plans and sheets of the table

-- names of one letter
abbrev attribute : String → ℕ → ℕ → Attribute
attribute name code offset = record { definition = record { name = ascii name; datatype = plain code }; offset = offset }

abbrev layout : List Attribute → ℕ → ℕ → Layout
layout xs size alignment = record { attributes = xs; size = size; alignment = alignment }

-- one U8, and one U16, at 0
abbrev byte : Layout
byte = layout (attribute "A" 0 0 ∷ []) 1 1

abbrev word : Layout
word = layout (attribute "A" 2 0 ∷ []) 2 2

-- a ByteArray of 10,000
abbrev notes : Layout
notes = layout (record { definition = record { name = ascii "A"; datatype = byte_array 10000 }; offset = 0 } ∷ []) 10000 1

-- `C` U16 at 0 and `P` F32 at 4
abbrev two : Layout
two = layout (attribute "C" 2 0 ∷ attribute "P" 8 4 ∷ []) 8 4

abbrev plan_from : Layout → Layout → Plan
plan_from l m = record { source = l; target = m; mappings = record { source = 0; target = 0 } ∷ [] }

-- a U8 onto the second of two bytes
abbrev shifted : Plan
shifted = plan_from byte (layout (attribute "A" 0 1 ∷ []) 2 1)

-- a U16 to a U8; and two of them, the second first
abbrev narrow : Plan
narrow = plan_from word byte

abbrev narrow_both : Plan
narrow_both =
    record {
      source = layout (attribute "A" 2 0 ∷ attribute "B" 2 2 ∷ []) 4 2;
      target = layout (attribute "A" 0 0 ∷ attribute "B" 0 1 ∷ []) 2 1;
      mappings = record { source = 1; target = 1 } ∷ record { source = 0; target = 0 } ∷ [];
    }

-- document 01's sheets, and its plan: `P` U16 at 0 and `C` U8 at 2; `P` F32 given at 4; `P` onto `P`
abbrev source_sheet : List ℕ
source_sheet = 0x08 ∷ 0x15 ∷ 0x01 ∷ 0x00 ∷ 0x05 ∷ 0x0c ∷ 0x00 ∷ 0x00 ∷ []

abbrev target_sheet : List ℕ
target_sheet = 0x06 ∷ 0x00 ∷ 0x08 ∷ 0x15 ∷ 0x04 ∷ 0x00 ∷ 0x02 ∷ 0x00 ∷ []

abbrev document : Plan
document = plan_from (layout (attribute "P" 2 0 ∷ attribute "C" 0 2 ∷ []) 4 2) (layout (attribute "P" 8 4 ∷ []) 8 4)

abbrev document_text : List ℕ
document_text = ascii "source 2 4 2\ntarget 1 8 4\n0 2 4 4 cast P\n"

-- one U8, and one U16, with the empty name, and the mapping by names
abbrev byte_sheet : List ℕ
byte_sheet = 0x04 ∷ 0x00 ∷ 0x00 ∷ 0x00 ∷ []

abbrev word_sheet : List ℕ
word_sheet = 0x04 ∷ 0x01 ∷ 0x00 ∷ 0x00 ∷ []

abbrev sheets : List ℕ → List ℕ → Sheets
sheets s t = record { source = s; target = t; mapping = 0x00 ∷ [] }

-- by the number of a storage, and of interleaved points
abbrev stored : ℕ → ℕ → ℕ → ℕ → NakviskPointRange
stored storage count start end = record { storage = storage; count = count; start = start; end = end }

abbrev range : ℕ → ℕ → ℕ → NakviskPointRange
range count start end = stored 0 count start end

-- a definition with a name of one letter, in an array of 31 bytes, and the layout of `A` U8
abbrev definition : ℕ → ℕ → PointAttributeDefinition
definition letter code = record { name = letter ∷ replicate 30 0; name_len = 1; datatype = plain code }

abbrev first : PointLayout
first = left_by empty_point_layout (add_answer empty_point_layout (definition 65 0) Default)

-- the layout of `B` U8, and the plan of no mapping between the two
abbrev second : PointLayout
second = left_by empty_point_layout (add_answer empty_point_layout (definition 66 0) Default)

abbrev unmapped : PlanRecord
unmapped = left_by empty_plan (with_default_answer first second)

-- a given member, and `P` F32
abbrev member : ℕ → ℕ → ℕ → PointAttributeMember
member letter code offset = record { attribute_definition = definition letter code; offset = offset }

abbrev letter_p : ℕ → Definition
letter_p code = record { name = ascii "P"; datatype = plain code }

-- three sheets in one input
abbrev input : List ℕ
input = 0x00 ∷ 0x08 ∷ (source_sheet ++ (0x00 ∷ 0x08 ∷ (target_sheet ++ (0x00 ∷ 0x01 ∷ 0x00 ∷ []))))

abbrev ones : ℕ → List ℕ
ones n = replicate n 1

-- ---- the table

abbrev row : String → PublicCall → Given → WrongRow
row w c r = record { wrong = w; call = c; gives = r }

unfoldable pub wrong_programs : List WrongRow
wrong_programs =
    row "negative counts as one" (natural (negsuc 0)) (result 0 (0 ∷ []) [])
    ∷ row "one counts as none" (natural (pos 1)) (result 0 (1 ∷ []) [])
    ∷ row "empty file has a point" (points-in 0 0) (result 0 (0 ∷ []) [])
    ∷ row "rest of a point ignored" (points-in 7 2) (result 0 [] [])
    ∷ row "points for bytes" (bytes-of 5 0) (result 0 (0 ∷ []) [])
    ∷ row "longest file one longer" (bytes-of 9223372036854775808 1) (result 0 [] [])
    ∷ row "longest file one shorter" (bytes-of 9223372036854775807 1) (result 0 (9223372036854775807 ∷ []) [])
    ∷ row "target size forgotten" (points-per-block 1 4) (result 0 (65536 ∷ []) [])
    ∷ row "point without bytes" (points-per-block 0 0) (result 0 (262144 ∷ []) [])
    ∷ row "sum of sizes for the point size" (point-size two Interleaved) (result 0 (8 ∷ []) [])
    ∷ row "point size for the sum of sizes" (point-size two Columns) (result 0 (6 ∷ []) [])
    ∷ row "a point one shorter than the longest" (point-size (layout [] 65535 1) Interleaved) (result 0 (65535 ∷ []) [])
    ∷ row "a block of all its bytes not found" (part-of two Interleaved 32768 0 32768 0) (result 0 (0 ∷ 0 ∷ 262144 ∷ []) [])
    ∷ row "a block longer than its bytes" (part-of two Interleaved 32769 0 32769 0) (result 0 [] [])
    ∷ row "the longest file not found" (part-of byte Interleaved 9223372036854775807 9223372036854775806 1 0) (result 0 (9223372036854775806 ∷ 0 ∷ 1 ∷ []) [])
    ∷ row "a longer file" (part-of byte Interleaved 9223372036854775808 0 1 0) (result 0 [] [])
    ∷ row "a column of the file by the block's count, the block's by the file's" (part-of two Columns 5 2 2 1) (result 0 (18 ∷ 4 ∷ 8 ∷ []) [])
    ∷ row "a part of interleaved points for each attribute" (part-of two Interleaved 5 2 2 0) (result 0 (16 ∷ 0 ∷ 16 ∷ []) [])
    ∷ row "a part past the last" (part-of two Columns 5 2 2 2) (result 0 [] [])
    ∷ row "a block past the file's points" (part-of two Columns 5 4 2 0) (result 0 [] [])
    ∷ row "first point skipped, not cleared" (convert-block shifted Interleaved Interleaved 2 (7 ∷ 9 ∷ []) (ones 4)) (result 0 [] (0 ∷ 7 ∷ 0 ∷ 9 ∷ []))
    ∷ row "cleared before the check" (convert-block shifted Interleaved Interleaved 2 (7 ∷ []) (ones 4)) (result 15 [] (ones 4))
    ∷ row "block's storages swapped" (convert-block shifted Interleaved Columns 2 (7 ∷ 9 ∷ []) (ones 2)) (result 0 [] (7 ∷ 9 ∷ []))
    ∷ row "the first point of a block alone counted" (convert-block-counts narrow Interleaved Interleaved 2 (5 ∷ 0 ∷ 0 ∷ 1 ∷ []) (ones 2)) (result 0 (padded 0 (1 ∷ []) 32) [])
    ∷ row "counts of a block that is refused" (convert-block-counts narrow Interleaved Interleaved 2 (0 ∷ 1 ∷ []) (ones 2)) (result 0 (replicate 32 0) [])
    ∷ row "block's storage not judged" (convert-block shifted Columns Interleaved 2 (7 ∷ []) (ones 4)) (result 22 [] (ones 4))
    ∷ row "alignment for stride" (from-interleaved-buffer two 1 3 24) (result 0 (4 ∷ 8 ∷ 4 ∷ []) [])
    ∷ row "place past the list" (from-interleaved-buffer two 2 3 24) (result 13 [] [])
    ∷ row "last point refused, part lies at the front" (read (3 ∷ 4 ∷ 5 ∷ 6 ∷ 7 ∷ 8 ∷ []) 1 2 1 2) (result 0 (105 ∷ []) (8 ∷ []))
    ∷ row "size for offset" (read (3 ∷ 4 ∷ 5 ∷ 6 ∷ 7 ∷ 8 ∷ []) 0 3 2 1) (result 0 (103 ∷ []) (6 ∷ 7 ∷ []))
    ∷ row "written past the part" (write 0 2 1 0 (9 ∷ 8 ∷ []) (3 ∷ 4 ∷ 5 ∷ 6 ∷ [])) (result 0 [] (9 ∷ 4 ∷ 5 ∷ 6 ∷ []))
    ∷ row "written though refused" (write 1 2 2 1 (9 ∷ 8 ∷ []) (3 ∷ 4 ∷ 5 ∷ 6 ∷ [])) (result 18 [] (3 ∷ 4 ∷ 5 ∷ 6 ∷ []))
    ∷ row "offset left out, next point" (read-point two 1 3 24 1) (result 0 (12 ∷ 4 ∷ []) [])
    ∷ row "point past the bytes" (read-point two 0 3 24 3) (result 18 [] [])
    ∷ row "offset left out of the part, stride for size" (read-part 6 1 2 1 2) (result 0 (5 ∷ 1 ∷ []) [])
    ∷ row "part past the bytes" (read-part 6 1 2 1 3) (result 18 [] [])
    ∷ row "point 0 written, value past the part" (write-point two 0 2 1 (7 ∷ 8 ∷ 9 ∷ []) (ones 16)) (result 0 [] (ones 8 ++ (7 ∷ 8 ∷ ones 6)))
    ∷ row "written where there is no point" (write-point two 0 2 2 (7 ∷ 8 ∷ []) (ones 16)) (result 18 [] (ones 16))
    ∷ row "copy and cast swapped, target size for source size, exact fit kept back" (list-plan document (ones 41)) (result 0 (41 ∷ []) document_text)
    ∷ row "sizes cut to 8 bits, or to three digits" (list-plan (plan_from notes notes) (ones 57)) (result 0 (57 ∷ []) (ascii "source 1 10000 1\ntarget 1 10000 1\n0 10000 0 10000 copy A\n"))
    ∷ row "listing cut off" (list-plan document (ones 40)) (result 0 (41 ∷ []) (ones 40))
    ∷ row "refusal in the text" (list-plan (plan_from byte (layout [] 0 1)) (ones 12)) (result 1 (0 ∷ []) (ones 12))
    ∷ row "last digit in base 8" (list-refusal 19 (ones 12)) (result 0 (11 ∷ []) (ascii "refused 19\n" ++ ones 1))
    ∷ row "line cut off" (list-refusal 19 (ones 10)) (result 0 (11 ∷ []) (ones 10))
    ∷ row "layout sheets swapped" (nakvisk-convert (sheets byte_sheet word_sheet) (7 ∷ 9 ∷ []) (range 2 0 2) (range 2 0 2) 9 (ones 4)) (result 0 (0 ∷ []) (7 ∷ 0 ∷ 9 ∷ 0 ∷ []))
    ∷ row "backward target range accepted" (nakvisk-convert (sheets byte_sheet byte_sheet) (7 ∷ 9 ∷ []) (range 2 0 0) (range 2 1 0) 9 (ones 2)) (result 21 (9 ∷ []) (ones 2))
    ∷ row "source's storage not handed on" (nakvisk-convert (sheets byte_sheet byte_sheet) (7 ∷ 9 ∷ []) (stored 1 3 0 2) (range 2 0 2) 9 (ones 2)) (result 22 (9 ∷ []) (ones 2))
    ∷ row "target's storage not handed on" (nakvisk-convert (sheets byte_sheet byte_sheet) (7 ∷ 9 ∷ []) (range 2 0 2) (stored 1 3 0 2) 9 (ones 2)) (result 22 (9 ∷ []) (ones 2))
    ∷ row "source range for target range" (nakvisk-convert (sheets byte_sheet byte_sheet) (7 ∷ 9 ∷ []) (range 2 1 2) (range 2 0 1) 9 (ones 2)) (result 0 (0 ∷ []) (9 ∷ 1 ∷ []))
    ∷ row "number lost not told, or added to the lent one" (nakvisk-convert (sheets word_sheet byte_sheet) (0 ∷ 1 ∷ 5 ∷ 0 ∷ []) (range 2 0 2) (range 2 0 2) 9 (ones 2)) (result 0 (1 ∷ []) (0 ∷ 5 ∷ []))
    ∷ row "lent number cleared where a sheet is refused" (nakvisk-convert (sheets [] byte_sheet) (0 ∷ 1 ∷ []) (range 1 0 1) (range 1 0 1) 9 (ones 1)) (result 2 (9 ∷ []) (ones 1))
    ∷ row "lent number cleared where a range is refused" (nakvisk-convert (sheets word_sheet byte_sheet) (0 ∷ 1 ∷ []) (range 1 0 1) (range 1 0 0) 9 (ones 1)) (result 17 (9 ∷ []) (ones 1))
    ∷ row "alignment for size" (nakvisk-point-size target_sheet 7) (result 0 (8 ∷ []) [])
    ∷ row "size of a refused sheet" (nakvisk-point-size [] 7) (result 2 (7 ∷ []) [])
    ∷ row "listed sheets swapped, text length for listing" (nakvisk-list (sheets source_sheet target_sheet) 7 (ones 42)) (result 0 (41 ∷ []) (document_text ++ ones 1))
    ∷ row "refused list writes" (nakvisk-list (sheets source_sheet []) 7 (ones 12)) (result 2 (7 ∷ []) (ones 12))
    ∷ row "the version before, patch for minor" nakvisk-version (result 0 (2048 ∷ []) [])
    ∷ row "alignment for size, one component for three" (nakvisk-datatype-of (plain 13)) (result 0 (12 ∷ 4 ∷ []) [])
    ∷ row "ByteArray of 0 accepted" (nakvisk-datatype-of (byte_array 0)) (result 6 (0 ∷ 0 ∷ []) [])
    ∷ row "length cut to 8 bits" (nakvisk-datatype-of (byte_array 300)) (result 0 (300 ∷ 1 ∷ []) [])
    ∷ row "Custom's alignment left out" (nakvisk-datatype-of (custom_of 16 128 7 9)) (result 0 (16 ∷ 128 ∷ []) [])
    ∷ row "Custom of size 0 accepted" (nakvisk-datatype-of (custom_of 0 8 7 9)) (result 6 (0 ∷ 0 ∷ []) [])
    ∷ row "last byte left out" (nakvisk-layout-of-sheet source_sheet) (result 0 (4 ∷ 2 ∷ 0 ∷ 2 ∷ []) [])
    ∷ row "refused sheet accepted" (nakvisk-layout-of-sheet (0x08 ∷ [])) (result 2 (0 ∷ 1 ∷ []) [])
    ∷ row "packed for default" (nakvisk-add-attribute first (definition 66 4)) (result 0 (8 ∷ 4 ∷ 0 ∷ 4 ∷ []) [])
    ∷ row "refusal left out" (nakvisk-add-attribute first (definition 65 4)) (result 8 (0 ∷ 1 ∷ []) [])
    ∷ row "fixed packing, default for packed" (nakvisk-add-attribute-packed first (definition 66 4) 3) (result 0 (7 ∷ 1 ∷ 0 ∷ 3 ∷ []) [])
    ∷ row "point layouts swapped" (nakvisk-convert-point byte word (7 ∷ []) (ones 2)) (result 0 [] (7 ∷ 0 ∷ []))
    ∷ row "short point accepted" (nakvisk-convert-point byte word [] (ones 2)) (result 20 [] (ones 2))
    ∷ row "stride for size" (nakvisk-read-point two 0 3 24 2) (result 0 (16 ∷ 2 ∷ []) [])
    ∷ row "start of a refused point" (nakvisk-read-point two 0 3 24 3) (result 18 (0 ∷ 0 ∷ []) [])
    ∷ row "members placed in list order, last end for size" (nakvisk-layout-of-members (member 65 4 8 ∷ member 66 4 0 ∷ []) 4) (result 0 (12 ∷ 4 ∷ 8 ∷ 0 ∷ []) [])
    ∷ row "layout of refused members" (nakvisk-layout-of-members (member 65 4 0 ∷ []) 3) (result 10 (0 ∷ 1 ∷ []) [])
    ∷ row "offset for place, first attribute always" (nakvisk-get-attribute-by-name two (ascii "P")) (result 0 (1 ∷ 1 ∷ []) [])
    ∷ row "long name cut off" (nakvisk-get-attribute-by-name two (replicate 32 80)) (result 4 (0 ∷ 0 ∷ []) [])
    ∷ row "missing name refused" (nakvisk-get-attribute-by-name two (ascii "Q")) (result 0 (0 ∷ 0 ∷ []) [])
    ∷ row "place from 1" (nakvisk-index-of two (letter_p 8)) (result 0 (1 ∷ 1 ∷ []) [])
    ∷ row "datatype not looked at" (nakvisk-index-of two (letter_p 2)) (result 0 (0 ∷ 0 ∷ []) [])
    ∷ row "place for offset" (nakvisk-offset-of two (letter_p 8)) (result 0 (1 ∷ 4 ∷ []) [])
    ∷ row "offset of another datatype" (nakvisk-offset-of two (letter_p 9)) (result 0 (0 ∷ 0 ∷ []) [])
    ∷ row "order looked at, offsets looked at" (nakvisk-compare-without-offsets two (layout (attribute "P" 8 0 ∷ attribute "C" 2 4 ∷ []) 6 1)) (result 0 (1 ∷ []) [])
    ∷ row "names alone compared" (nakvisk-compare-without-offsets byte word) (result 0 (0 ∷ []) [])
    ∷ row "point 0 written through the face" (nakvisk-write-point two 0 2 1 (7 ∷ 8 ∷ []) (ones 16)) (result 0 [] (ones 8 ++ (7 ∷ 8 ∷ ones 6)))
    ∷ row "offset and stride swapped" (nakvisk-view-of two 1 3 24) (result 0 (4 ∷ 8 ∷ 4 ∷ []) [])
    ∷ row "numbers of a refused view" (nakvisk-view-of two 1 2 24) (result 15 (0 ∷ 0 ∷ 0 ∷ []) [])
    ∷ row "view's stride left out" (nakvisk-read-part 6 1 2 1 2) (result 0 (5 ∷ 1 ∷ []) [])
    ∷ row "start of a refused part" (nakvisk-read-part 6 1 2 1 3) (result 18 (0 ∷ 0 ∷ []) [])
    ∷ row "offset for index" (nakvisk-write-part 1 2 1 0 (9 ∷ []) (3 ∷ 4 ∷ 5 ∷ 6 ∷ [])) (result 0 [] (3 ∷ 9 ∷ 5 ∷ 6 ∷ []))
    ∷ row "plan's layouts swapped, mapping lost" (nakvisk-plan-of-sheets (sheets source_sheet target_sheet)) (result 0 (4 ∷ 8 ∷ 0 ∷ 0 ∷ []) [])
    ∷ row "plan of a refused sheet" (nakvisk-plan-of-sheets (sheets source_sheet [])) (result 2 (0 ∷ 0 ∷ []) [])
    ∷ row "least significant byte of a length first" (nakvisk-plan-of-input input) (result 0 (4 ∷ 8 ∷ 0 ∷ 0 ∷ []) [])
    ∷ row "empty input accepted" (nakvisk-plan-of-input []) (result 2 (0 ∷ 0 ∷ []) [])
    ∷ row "mapping sheet not read" (nakvisk-plan-of-mapping-sheet first second (0x02 ∷ [])) (result 0 (1 ∷ 1 ∷ []) [])
    ∷ row "empty mapping sheet accepted" (nakvisk-plan-of-mapping-sheet first second []) (result 2 (0 ∷ 0 ∷ []) [])
    ∷ row "target not mapped" (nakvisk-for-layouts first first) (result 0 (1 ∷ 1 ∷ 0 ∷ 0 ∷ []) [])
    ∷ row "missing name passed over" (nakvisk-for-layouts first second) (result 12 (0 ∷ 0 ∷ []) [])
    ∷ row "found name passed over" (nakvisk-for-layouts-with-default first first) (result 0 (1 ∷ 1 ∷ 0 ∷ 0 ∷ []) [])
    ∷ row "missing source refused" (nakvisk-for-layouts-with-default first second) (result 0 (1 ∷ 1 ∷ []) [])
    ∷ row "mapping not set" (nakvisk-set-custom-mapping unmapped 0 0) (result 0 (1 ∷ 1 ∷ 0 ∷ 0 ∷ []) [])
    ∷ row "place cut to 8 bits" (nakvisk-set-custom-mapping unmapped 256 0) (result 13 (0 ∷ 0 ∷ []) [])
    ∷ row "first point alone converted by a plan" (nakvisk-convert-by-plan shifted (7 ∷ 9 ∷ []) (range 2 0 2) (range 2 0 2) 9 (ones 4)) (result 0 (0 ∷ []) (1 ∷ 7 ∷ 1 ∷ 9 ∷ []))
    ∷ row "backward source range accepted" (nakvisk-convert-by-plan shifted (7 ∷ 9 ∷ []) (range 2 1 0) (range 2 0 0) 9 (ones 4)) (result 21 (9 ∷ []) (ones 4))
    ∷ row "7 for interleaved points" (nakvisk-convert-by-plan shifted (7 ∷ 9 ∷ []) (range 2 0 2) (stored 7 2 0 2) 9 (ones 2)) (result 0 (0 ∷ []) (7 ∷ 9 ∷ []))
    ∷ row "source's storage not handed on" (nakvisk-convert-by-plan shifted (7 ∷ 9 ∷ []) (stored 1 3 0 2) (range 2 0 2) 9 (ones 4)) (result 22 (9 ∷ []) (ones 4))
    ∷ row "target's storage not handed on" (nakvisk-convert-by-plan shifted (7 ∷ 9 ∷ []) (range 2 0 2) (stored 1 2 0 2) 9 (ones 4)) (result 22 (9 ∷ []) (ones 4))
    ∷ row "unsound plan converted by" (nakvisk-convert-by-plan (plan_from byte (layout [] 0 1)) (7 ∷ []) (range 1 0 1) (range 1 0 1) 9 []) (result 1 (9 ∷ []) [])
    ∷ row "points before the range counted" (nakvisk-convert-by-plan narrow (0 ∷ 1 ∷ 5 ∷ 0 ∷ []) (range 2 1 2) (range 1 0 1) 9 (ones 1)) (result 0 (0 ∷ []) (5 ∷ []))
    ∷ row "kept points counted" (nakvisk-convert-by-plan narrow (0 ∷ 1 ∷ 5 ∷ 0 ∷ 0 ∷ 2 ∷ []) (range 3 0 3) (range 3 0 3) 9 (ones 3)) (result 0 (2 ∷ []) (0 ∷ 5 ∷ 0 ∷ []))
    ∷ row "a refusal that tells a number" (nakvisk-convert-by-plan narrow (0 ∷ 1 ∷ []) (range 1 0 1) (range 1 0 0) 9 (ones 1)) (result 17 (9 ∷ []) (ones 1))
    ∷ row "counts in the targets' order, or zeros not after them" (nakvisk-convert-by-mapping narrow_both (5 ∷ 0 ∷ 0 ∷ 1 ∷ []) (range 1 0 1) (range 1 0 1) (ones 2)) (result 0 (padded 0 (1 ∷ 0 ∷ []) 32) (5 ∷ 0 ∷ []))
    ∷ row "the sum in the place of the first count" (nakvisk-convert-by-mapping narrow_both (0 ∷ 1 ∷ 0 ∷ 1 ∷ []) (range 1 0 1) (range 1 0 1) (ones 2)) (result 0 (padded 0 (1 ∷ 1 ∷ []) 32) (0 ∷ 0 ∷ []))
    ∷ row "counts beside a refusal, or its number not handed back" (nakvisk-convert-by-mapping narrow (0 ∷ 1 ∷ []) (range 1 0 1) (range 1 0 0) (ones 1)) (result 17 (replicate 32 0) (ones 1))
    ∷ row "nothing converted without a count" (nakvisk-convert-uncounted narrow (0 ∷ 1 ∷ 5 ∷ 0 ∷ []) (range 2 0 2) (range 2 0 2) (ones 2)) (result 0 [] (0 ∷ 5 ∷ []))
    ∷ row "nothing refused without a count" (nakvisk-convert-uncounted narrow (0 ∷ 1 ∷ []) (range 1 0 1) (range 1 0 0) (ones 1)) (result 17 [] (ones 1))
    ∷ row "text length for the listing of a plan" (nakvisk-list-plan document 7 (ones 42)) (result 0 (41 ∷ []) (document_text ++ ones 1))
    ∷ row "unsound plan listed" (nakvisk-list-plan (plan_from byte (layout [] 0 1)) 7 (ones 12)) (result 1 (7 ∷ []) (ones 12))
    ∷ []

-- every row holds
abbrev pub RuledOut : Type 0
RuledOut = map given_at wrong_programs ≡ map expected wrong_programs
