-- The demands of document 00, and of document 02's points, as far as they are proved, whole: a record for each, with a field for each sentence.
-- What is handed back and lent stands in the contracts of the public functions, as `answer_of` and `left_by` of the definitions that are spoken
-- of here.
use Rattle.std.specs.Prelude.{◌≡◌}
use Rattle.common.specs.Logic.{true, List, map, ℕ, length}
use Rattle.common.specs.Refusal.{Outcome, got, refused}
use Rattle.datatype.specs.Claims.{ByteArrayClaim, CustomDatatypeClaim, DatatypeRefusalClaim, SameDatatypeClaim}
use Rattle.layout.specs.Calls.{Call, called, after, RecordCall, call_of, record_after}
use Rattle.layout.specs.Claims.{Disjoint, OnlyShares, WholeListClaim, DefaultClaim, UnpaddedClaim, SizedClaim, FoundEqualClaim}
use Rattle.layout.specs.Layout.{Attribute, Layout, is_sound}
use Rattle.layout.specs.Makers.{empty_layout, add_attribute, from_members}
use Rattle.layout.specs.Records.{attribute_of, definition_of, layout_of, listed, empty_point_layout, add_answer, given_answer}
use Rattle.layout.specs.declared.point_layout.FieldAlignment.{FieldAlignment}
use Rattle.layout.specs.declared.point_layout.PointAttributeDefinition.{PointAttributeDefinition}
use Rattle.layout.specs.declared.point_layout.PointAttributeMember.{PointAttributeMember}
use Rattle.layout.specs.declared.point_layout.PointLayout.{PointLayout}
use Rattle.numbers.specs.Claims.{NanClaim}
use Rattle.scalar_casts.specs.Claims.{CastInRange, ScalarNanClaim, KeptClaim, KeptCasesClaim}
use Rattle.pairs.specs.Claims.{PairCounts, CustomPairsClaim}
use Rattle.attribute_conversion.specs.Claims.{Copied, ByComponent, LostInClaim}
use Rattle.members.specs.Members.{members_answer}
use Rattle.point_buffer.specs.Claims.{StorageClaim, PlacesClaim}
use Rattle.buffer_conversion.specs.Claims.{ConversionClaim, CheckedClaim, LostClaim}
use Rattle.round_trip.specs.Claims.{RoundTripClaim, ItselfClaim}
use Rattle.plans.specs.Claims.{CustomMappingClaim}
use Rattle.plans.specs.Makers.{for_layouts, for_layouts_with_default, set_custom_mapping}
use Rattle.plans.specs.Plan.{Plan}
use Rattle.plans.specs.Records.{empty_plan, plan_of, for_layouts_answer, with_default_answer, custom_answer}
use Rattle.plans.specs.declared.plan.Plan.{Plan as PlanRecord}
use Rattle.layout_sheets.specs.Claims.{LengthClaim, CustomFieldsClaim, KeepsMeaning, OlderSheetsClaim, Sharing, DefectClaim}
use Rattle.layout_sheets.specs.Older.{format01}
use Rattle.sheets.specs.Claims.{MeaningClaim, MappingDefectClaim, FrameDefectClaim}
use Rattle.sheets.specs.Mapping.{MappingContents, mapping_contents, plan_from, mapping_sheet}
use Rattle.layout_sheets.specs.Records.{layout_record, sheet_answer}
use Rattle.sheets.specs.Records.{mapping_answer, sheets_answer}
use Rattle.layout_sheets.specs.Sheet.{placed as placed_sheet, given as given_sheet, contents, add_all, layout_sheet}
use Rattle.sheets.specs.Frame.{Sheets, frame, plan_of_sheets, three_sheets}
use Rattle.raw_attribute_view.specs.View.{fields_of, point_part, no_numbers, numbers_in}
use Rattle.point_blocks.specs.Claims.{PartsClaim, FoundClaim, ApartClaim, BlocksClaim}
use Rattle.nakvisk.specs.Calls.{layout_handed, plan_handed, view_handed, part_handed}
use Rattle.nakvisk.specs.Claims.{LostNumberClaim}
use Rattle.demands.specs.Numbers.{LayoutCalls, PlanCalls, PointCalls, SheetCalls, LentBytes}

-- ---- demand 1

-- "A refusal hands back its number alone"
pub record NumberAlone : Type 0 where
  pub add : (l : PointLayout) (d : PointAttributeDefinition) (f : FieldAlignment) (n : ℕ) → add_attribute (layout_of l) (definition_of d) f ≡ refused n → add_answer l d f ≡ refused n
  pub given : (ms : List PointAttributeMember) (count alignment n : ℕ) → from_members (listed ms count) alignment ≡ refused n → given_answer ms count alignment ≡ refused n
  pub lent : (ms : List PointAttributeMember) (alignment n : ℕ) → from_members (map attribute_of ms) alignment ≡ refused n → members_answer ms alignment ≡ refused n
  pub sheet : (s : List ℕ) (n : ℕ) → layout_sheet s ≡ refused n → sheet_answer (layout_sheet s) ≡ refused n
  pub all : (l m : PointLayout) (n : ℕ) → for_layouts (layout_of l) (layout_of m) ≡ refused n → for_layouts_answer l m ≡ refused n
  pub with-default : (l m : PointLayout) (n : ℕ) → for_layouts_with_default (layout_of l) (layout_of m) ≡ refused n → with_default_answer l m ≡ refused n
  pub custom : (p : PlanRecord) (i j n : ℕ) → set_custom_mapping (plan_of p) i j ≡ refused n → custom_answer p i j ≡ refused n
  pub mapping : (l m : PointLayout) (o : Outcome Plan) (n : ℕ) → o ≡ refused n → mapping_answer l m o ≡ refused n
  pub sheets : (o : Outcome Plan) (n : ℕ) → o ≡ refused n → sheets_answer o ≡ refused n
  pub view : (l : Layout) (place count bytes n : ℕ) → fields_of l place count bytes ≡ refused n → numbers_in (fields_of l place count bytes) ≡ no_numbers
  -- beside the number C gets the empty layout, the empty plan, and zeros: nothing that the call was handed stands in them
  pub layout-for-C : (o : Outcome PointLayout) (n : ℕ) → o ≡ refused n → layout_handed o ≡ record { refusal = n; layout = empty_point_layout }
  pub plan-for-C : (o : Outcome PlanRecord) (n : ℕ) → o ≡ refused n → plan_handed o ≡ record { refusal = n; plan = empty_plan }
  pub view-for-C : (l : Layout) (place count bytes n : ℕ) → fields_of l place count bytes ≡ refused n → view_handed (fields_of l place count bytes) ≡ record { refusal = n; view = record { offset = 0; stride = 0; size = 0 } }
  pub part : (l : Layout) (place count bytes i n : ℕ) → point_part l place count bytes i ≡ refused n → part_handed (point_part l place count bytes i) ≡ record { refusal = n; start = 0; size = 0 }

pub record Demand1 : Type 0 where
  -- "gets a finished answer or the first that applies of twenty numbered refusals"; those of document 02 join them
  pub layouts : LayoutCalls
  pub plans : PlanCalls
  pub points : PointCalls
  pub sheets : SheetCalls
  -- "A refusal hands back its number alone"
  pub alone : NumberAlone
  -- "and alters no lent byte"
  pub unaltered : LentBytes

-- ---- demand 2: what is proved of it; the differential run is compare/run

-- what the contents of a sheet give, and when that is refused: 8 to 11 for each added attribute or for the whole given list; 12 and 14 for each
-- target, then 13 and 14 for each line; source, target and mapping sheet in turn
pub record SheetsGive : Type 0 where
  pub placed : (s : List ℕ) (cs : List Call) → contents s ≡ got (placed_sheet cs) → layout_sheet s ≡ add_all empty_layout cs
  pub given : (s : List ℕ) (xs : List Attribute) (alignment : ℕ) → contents s ≡ got (given_sheet xs alignment) → layout_sheet s ≡ from_members xs alignment
  pub mapping :
      (l m : Layout) (s : List ℕ) (c : MappingContents) → is_sound l ≡ true → is_sound m ≡ true → mapping_contents s ≡ got c
      → mapping_sheet l m s ≡ plan_from l m c
  pub framed : (s : List ℕ) (f : Sheets) → frame s ≡ got f → three_sheets s ≡ plan_of_sheets f
  -- the record that is handed back stands for the layout
  pub stands : (l : Layout) → layout_of (layout_record l) ≡ l

pub record Demand2 : Type 0 where
  -- "the 110 casts from the Rust Reference and IEEE 754": where the pair is a cast, each component is the cast of that component (`cast_scalar`)
  pub casts : PairCounts
  pub cast : ByComponent
  pub fits : CastInRange
  -- "default placement from the Reference's C layout"
  pub placement : DefaultClaim
  -- "the sheets, both what they mean": the contents that their fields spell, and what these give
  pub meaning : MeaningClaim
  pub gives : SheetsGive
  -- "and when they are refused": with the first defect's number, before any number of what they say
  pub refused-layouts : DefectClaim
  pub refused-mappings : MappingDefectClaim
  pub refused-frames : FrameDefectClaim

-- ---- demand 3

-- document 01's accepted: "the empty layout of the start, and every layout that a call or a layout sheet gives". The members of a given list
-- are handed in as an array with a count, or lent
pub data AcceptedLayout : Layout → Type 0 where
  start : AcceptedLayout empty_layout
  added : (l k : Layout) (c : Call) → called l c ≡ got k → AcceptedLayout k
  given : (xs : List Attribute) (alignment : ℕ) (k : Layout) → from_members xs alignment ≡ got k → AcceptedLayout k
  lent : (ms : List PointAttributeMember) (alignment : ℕ) (p : PointLayout) → members_answer ms alignment ≡ got p → AcceptedLayout (layout_of p)
  sheet : (s : List ℕ) (k : Layout) → layout_sheet s ≡ got k → AcceptedLayout k

-- "A given list is refused for sharing exactly when no earlier check stops it and two of its attributes share a byte, in whichever order they
-- are listed": handed in, lent, and written in a sheet
pub record SharingDemand : Type 0 where
  pub given : (xs : List Attribute) (alignment : ℕ) → OnlyShares xs → from_members xs alignment ≡ refused 9
  pub given-only : (xs : List Attribute) (alignment : ℕ) → from_members xs alignment ≡ refused 9 → OnlyShares xs
  pub lent : (ms : List PointAttributeMember) (alignment : ℕ) → OnlyShares (map attribute_of ms) → members_answer ms alignment ≡ refused 9
  pub lent-only : (ms : List PointAttributeMember) (alignment : ℕ) → members_answer ms alignment ≡ refused 9 → OnlyShares (map attribute_of ms)
  pub sheet : (s : List ℕ) → Sharing s → layout_sheet s ≡ refused 9
  pub sheet-only : (s : List ℕ) → layout_sheet s ≡ refused 9 → Sharing s

pub record Demand3 : Type 0 where
  -- "Whichever sound plan comes, with whichever buffers and ranges that pass the five buffer checks, the conversion is carried out"; since
  -- document 02, point 1, they are six, and since point 2 each side is interleaved points or columns
  pub conversion : ConversionClaim
  -- and only then
  pub checked : CheckedClaim
  -- "For every list of `add_attribute` calls, refused ones included, from any sound layout, the layout after it holds exactly the attributes
  -- it began with, then those of the accepted calls in order, none moved"
  pub calls : WholeListClaim
  -- and so does the record that the calls hand on
  pub records : (l : PointLayout) (cs : List RecordCall) → length l.attributes ≡ 32 → layout_of (record_after l cs) ≡ after (layout_of l) (map call_of cs)
  -- "as in any accepted layout, however built, no two attributes share a byte and none passes the point's end"
  pub sound : (l : Layout) → AcceptedLayout l → is_sound l ≡ true
  pub disjoint : (l : Layout) → AcceptedLayout l → Disjoint l
  -- "A given list is refused for sharing exactly when"
  pub sharing : SharingDemand

-- ---- document 02, point 2

-- the new number, and its place in the order, are fields of `PointCalls`: `convert` and `convert-order`
pub record Point2 : Type 0 where
  -- "Columns: for each attribute in list order, the values of all points one after another, without padding", beside document 01's "point
  -- after point"
  pub places : PlacesClaim
  -- in either storage every attribute of every point lies within the buffer, and no byte lies in two
  pub storages : StorageClaim
  -- "Convert between interleaved and columns, all four pairs of storage, as `convert_into_range` does": whatever the ranges' storages are
  pub conversion : ConversionClaim
  -- "Turning points into columns and back, by the `for_layouts` plan of one layout to itself and over the same ranges, returns every attribute
  -- byte of those points; padding keeps what the receiving buffer had"
  pub itself : ItselfClaim
  -- and so between any two layouts with the same attributes
  pub round_trip : RoundTripClaim
  -- and a file of either storage, converted block after block, is converted as if in one: each block's parts lie within the file and hold its
  -- points, `part_of` finds them, and no two share a byte
  pub parts : PartsClaim
  pub found : FoundClaim
  pub apart : ApartClaim
  pub blocks : BlocksClaim

-- ---- document 02, point 3

-- "Two NaNs still match in differential runs" is for compare/run; "Document 01's two fixed patterns end here" with `cast_nan`
pub record Point3 : Type 0 where
  -- "A NaN cast to a float shall keep the sign, set the quiet bit and keep the 22 payload bits below it, which are the top 22 in F64; widening
  -- fills with zeros": so from format to format; and of no other pattern do these facts hold
  pub formats : NanClaim
  -- so `cast_scalar` from F64 to F32 and from F32 to F64; a scalar to itself is copied
  pub scalars : ScalarNanClaim
  -- so each component that is cast; and equal datatypes are copied, every byte
  pub components : ByComponent
  pub copies : Copied

-- ---- document 02, point 4

-- "every statement on sizes holds for the longer attributes": a datatype's n is any number in every claim on layouts, plans, buffers and
-- conversions; in the program it has 16 bits
pub record Point4 : Type 0 where
  -- "In a sheet, n of 0 is now followed by 16 bits that give a length from 256 to 65,535. Refusal 6 applies when those 16 bits are below 256"
  pub lengths : LengthClaim
  -- "and in a library call to length 0 only" (point 9 adds a Custom of size 0); and a ByteArray of any other length has that size
  pub refusals : DatatypeRefusalClaim
  pub arrays : ByteArrayClaim
  -- "Old accepted sheets keep their meaning"; mapping sheets and frames have the format that they had
  pub older : KeepsMeaning format01

-- ---- document 02, point 8

-- "Values that carry a shift or pose are judged on the cast only" comes with point 7
pub record Point8 : Type 0 where
  -- "Every cast must tell whether its result is the same number as its source": so `cast_scalar`, exactly where the target has that number
  pub same : KeptClaim
  -- "A NaN to a float counts as kept, a NaN to an integer as lost, minus zero to 0 and infinity to infinity as kept"
  pub cases : KeptCasesClaim
  -- and so the cast of an attribute: it loses as many components as are another number in the bytes that it gives
  pub attributes : LostInClaim
  -- "The conversion reports how many components were lost in the range, summed over the mappings, proved equal to that count taken from source
  -- bytes and storage, plan and range alone"
  pub counted : LostClaim
  -- so the exported calls, by a plan and by sheets
  pub exported : LostNumberClaim
  -- and a file that is converted block after block loses what it does in one (`InBlocks.lost`)
  pub blocks : BlocksClaim

-- ---- document 02, point 9

pub record Point9 : Type 0 where
  -- "Bring `Custom` over as code 17: 16 bits size, 8 bits minimum alignment, 128 bits name (any bits; 4 is for attribute names)"
  pub customs : CustomDatatypeClaim
  pub fields : CustomFieldsClaim
  -- "Two are equal exactly if size, alignment and name all agree"
  pub equal : SameDatatypeClaim
  -- "Code 17 pairs with no other code; the table grows to eighteen rows and columns, its rule still proved over the whole" (the whole table is
  -- in the contract of `pair_of`)
  pub pairs : CustomPairsClaim
  pub counts : PairCounts
  -- "Alignment 0 pads nothing, as in the Rust; the Reference remains the measure of default placement where every field's alignment is a power of
  -- two, or 0, read as 1"; and of every other
  pub unpadded : UnpaddedClaim
  pub default : DefaultClaim
  -- "Refusal 5 begins at 18 and refusal 6 also covers size 0, which no sound layout holds"
  pub refusals : DatatypeRefusalClaim
  pub sized : SizedClaim
  -- "Every attribute record, lookup and sound plan now uses this finer equality": `same_datatype` (`equal`) is the only one that the definitions
  -- have; so a lookup finds an equal datatype, and a mapping of a sound plan joins equal Customs
  pub found : FoundEqualClaim
  pub mapped : CustomMappingClaim
  -- accepted sheets of document 01 and of point 4 keep their meaning
  pub older : OlderSheetsClaim
