-- Wrong programs of plans, of the conversion by them, of single points and of strided casts, each named, with what the definitions give at an
-- input where it gives something else. The contracts of the public functions are equations with these definitions, so no such program is
-- proved.
use Rattle.std.specs.Prelude.{◌≡◌, ◌∷◌}
use Rattle.common.specs.Logic.{true, Bool, false, cond, List, [], map, None, Some, Option, ℕ, length, replicate}
use Prim.Native.String.{String}
use Rattle.datatype.specs.Datatype.{plain, custom as custom_of}
use Rattle.common.specs.Refusal.{Outcome, got, refused}
use Rattle.common.specs.Lists.{first}
use Rattle.attribute_conversion.specs.Lost.{cast_answer}
use Rattle.layout.specs.Layout.{Attribute, Layout}
use Rattle.strided.specs.Strided.{strided_fits, converted, lost_points}
use Rattle.strided.specs.declared.StridedCast.{StridedCast}
use Rattle.plans.specs.Makers.{for_layouts, for_layouts_with_default, set_custom_mapping}
use Rattle.plans.specs.Plan.{Plan, is_sound_plan}
use Rattle.plans.specs.declared.plan.Mapping.{Mapping}
use Rattle.buffer_conversion.specs.Conversion.{convert_into_range}
use Rattle.buffer_conversion.specs.Lost.{lost_over, converted_answer, lost_counts}
use Rattle.point_buffer.specs.declared.PointRange.{PointRange}
use Rattle.point_buffer.specs.declared.Storage.TheVariants.{Interleaved, Columns}
use Rattle.raw_point_converter.specs.Convert.{convert_point}
use Rattle.nakvisk.specs.Calls.{numbers_handed}

pub data Case : Type 0 where
  -- `Plan::for_layouts` and `Plan::for_layouts_with_default`: source and target
  all : Layout → Layout → Case
  with_default : Layout → Layout → Case
  -- `Plan::set_custom_mapping`: the plan, source place and target place
  custom : Plan → ℕ → ℕ → Case
  -- `Plan::sound`
  sound : Plan → Case
  -- `convert_into_range`: the source's bytes and range, the target's
  range : Plan → List ℕ → PointRange → List ℕ → PointRange → Case
  -- what it answers of the number lost; and what `convert_by_mapping` hands back beside its answer
  range_lost by_mapping : Plan → List ℕ → PointRange → List ℕ → PointRange → Case
  -- `convert_point`: the two layouts, the source point and the target point
  point : Layout → Layout → List ℕ → List ℕ → Case
  -- `cast_strided`: the number of points, source and target
  strided : StridedCast → ℕ → List ℕ → List ℕ → Case
  -- what it answers of the number lost
  strided_lost : StridedCast → ℕ → List ℕ → List ℕ → Case

pub data Result : Type 0 where
  refusal : ℕ → Result
  -- each mapping's source place and target place
  mappings : List (List ℕ) → Result
  truth : Bool → Result
  -- the target's bytes after the call
  bytes : List ℕ → Result
  -- whether it was cast, and the target's bytes after the call
  answer : Bool → List ℕ → Result
  -- the number of components lost; that of each mapping, 32 in all; or that nothing was cast
  lost : ℕ → Result
  counts : List ℕ → Result
  unfit : Result

pub record Row : Type 0 where
  pub name : String
  pub case : Case
  pub gives : Result

-- ---- what a case gives

places_in : Mapping → List ℕ
places_in x = x.source ∷ x.target ∷ []

of_plan : Outcome Plan → Result
unfolding places_in
of_plan (got p) = mappings (map places_in p.mappings)
of_plan (refused n) = refusal n

of_bytes : Outcome (List ℕ) → Result
of_bytes (got t) = bytes t
of_bytes (refused n) = refusal n

of_converted : Outcome ℕ → Result
of_converted (got n) = lost n
of_converted (refused n) = refusal n

of_cast : Option ℕ → Result
of_cast (Some n) = lost n
of_cast None = unfit

unfoldable pub result_in : Case → Result
unfolding of_plan of_bytes of_converted of_cast
result_in (all l m) = of_plan (for_layouts l m)
result_in (with_default l m) = of_plan (for_layouts_with_default l m)
result_in (custom p i j) = of_plan (set_custom_mapping p i j)
result_in (sound p) = truth (is_sound_plan p)
result_in (range p s from t to) = of_bytes (convert_into_range p s from t to)
result_in (range_lost p s from t to) = of_converted (converted_answer (convert_into_range p s from t to) (lost_over p from s))
result_in (by_mapping p s from t to) = counts (numbers_handed (converted_answer (convert_into_range p s from t to) (lost_counts p from s))).lost
result_in (point l m s t) = of_bytes (convert_point l m s t)
result_in (strided c n s t) = let fits = strided_fits c n (length s) (length t) in answer fits (cond fits (converted (c ∷ []) s n t) t)
result_in (strided_lost c n s t) = of_cast (cast_answer (strided_fits c n (length s) (length t)) (lost_points c s n))

unfoldable pub found : Row → Result
found r = result_in r.case

unfoldable pub told : Row → Result
told r = r.gives

-- ---- inputs

-- an attribute with a name of one byte, by code and offset
abbrev at : ℕ → ℕ → ℕ → Attribute
at name code offset = record { definition = record { name = name ∷ []; datatype = plain code }; offset = offset }

-- names
abbrev A : ℕ
A = 65

abbrev B : ℕ
B = 66

-- of alignment 1
abbrev laid : List Attribute → ℕ → Layout
laid xs size = record { attributes = xs; size = size; alignment = 1 }

-- one attribute at 0: U8, U16, Vec3u8
abbrev small : ℕ → Layout
small name = laid (at name 0 0 ∷ []) 1

abbrev wide : ℕ → Layout
wide name = laid (at name 2 0 ∷ []) 2

abbrev vector : ℕ → Layout
vector name = laid (at name 10 0 ∷ []) 3

-- two U8, A before B and B before A
abbrev both : Layout
both = laid (at A 0 0 ∷ at B 0 1 ∷ []) 2

-- three
abbrev three : Layout
three = laid (at A 0 0 ∷ at B 0 1 ∷ at 67 0 2 ∷ []) 3

abbrev turned : Layout
turned = laid (at B 0 0 ∷ at A 0 1 ∷ []) 2

-- U8 and U16 with a byte between them, and its plan to itself
abbrev padded : Layout
padded = laid (at A 0 0 ∷ at B 2 2 ∷ []) 4

abbrev itself : Plan
itself = record { source = padded; target = padded; mappings = record { source = 0; target = 0 } ∷ record { source = 1; target = 1 } ∷ [] }

-- two points of it: interleaved, and in columns
abbrev interleaved : List ℕ
interleaved = 5 ∷ 9 ∷ 1 ∷ 2 ∷ 6 ∷ 9 ∷ 3 ∷ 4 ∷ []

abbrev in_columns : List ℕ
in_columns = 5 ∷ 6 ∷ 1 ∷ 2 ∷ 3 ∷ 4 ∷ []

-- not sound: two attributes at one byte
abbrev shared : Layout
shared = laid (at A 0 0 ∷ at B 0 0 ∷ []) 1

-- A, a Custom of 2 bytes and alignment 1, by the lower half of its name
abbrev seal : ℕ → Layout
seal low = laid (record { definition = record { name = A ∷ []; datatype = custom_of 2 1 7 low }; offset = 0 } ∷ []) 2

abbrev to : ℕ → ℕ → Mapping
to i j = record { source = i; target = j }

-- two U16, and the plan from them to two U8, B first
abbrev words : Layout
words = laid (at A 2 0 ∷ at B 2 2 ∷ []) 4

abbrev narrow : Plan
narrow = record { source = wide A; target = small A; mappings = to 0 0 ∷ [] }

abbrev narrow_both : Plan
narrow_both = record { source = words; target = both; mappings = to 1 1 ∷ to 0 0 ∷ [] }

-- a U16 into two U8
abbrev doubled : Plan
doubled = record { source = wide A; target = both; mappings = to 0 0 ∷ to 0 1 ∷ [] }

-- the numbers that there are, and then zeros
abbrev counted : List ℕ → Result
counted ns = counts (first 0 ns 32)

abbrev plan : Layout → Layout → List Mapping → Plan
plan l m xs = record { source = l; target = m; mappings = xs }

-- the points from start to before end, of a buffer of so many: interleaved, and in columns
abbrev points : ℕ → ℕ → ℕ → PointRange
points start end count = record { storage = Interleaved; count = count; start = start; end = end }

abbrev columns : ℕ → ℕ → ℕ → PointRange
columns start end count = record { storage = Columns; count = count; start = start; end = end }

-- codes, then base and stride of the source's points, and of the target's
abbrev cast : ℕ → ℕ → ℕ → ℕ → ℕ → ℕ → StridedCast
cast from to base stride base' stride' =
    record {
      from = plain from;
      to = plain to;
      source = record { base = base; stride = stride };
      target = record { base = base'; stride = stride' };
    }

abbrev row : String → Case → Result → Row
row n c r = record { name = n; case = c; gives = r }

-- ---- the table

unfoldable pub table : List Row
table =
    -- `Plan::for_layouts`
    row "always turned down, or mapped by place" (all both turned) (mappings ((1 ∷ 0 ∷ []) ∷ (0 ∷ 1 ∷ []) ∷ []))
    ∷ row "a missing name not refused" (all (small A) (small B)) (refusal 12)
    ∷ row "a later target judged first" (all (small A) (laid (at A 10 0 ∷ at B 0 3 ∷ []) 4)) (refusal 14)
    ∷ row "the target's soundness not judged" (all both shared) (refusal 1)
    ∷ row "Customs of unequal names mapped" (all (seal 9) (seal 8)) (refusal 14)
    ∷ row "equal Customs not mapped" (all (seal 9) (seal 9)) (mappings ((0 ∷ 0 ∷ []) ∷ []))
    -- `Plan::for_layouts_with_default`
    ∷ row "a missing name refused, or mapped from the first attribute" (with_default (small A) turned) (mappings ((0 ∷ 1 ∷ []) ∷ []))
    ∷ row "pairs not judged" (with_default (small A) (vector A)) (refusal 14)
    ∷ row "the source's soundness not judged" (with_default shared both) (refusal 1)
    -- `Plan::set_custom_mapping`
    ∷ row "appended for replaced" (custom (plan both turned (to 0 0 ∷ to 1 1 ∷ [])) 1 0) (mappings ((1 ∷ 0 ∷ []) ∷ (1 ∷ 1 ∷ []) ∷ []))
    ∷ row "joined to the front" (custom (plan both turned (to 0 0 ∷ [])) 1 1) (mappings ((0 ∷ 0 ∷ []) ∷ (1 ∷ 1 ∷ []) ∷ []))
    ∷ row "the target place judged by the source's attributes" (custom (plan both (small A) []) 0 1) (refusal 13)
    ∷ row "the source place judged by the target's attributes" (custom (plan (small A) both []) 1 0) (refusal 13)
    ∷ row "the pair not judged" (custom (plan (small A) (vector A) []) 0 0) (refusal 14)
    ∷ row "the plan not judged" (custom (plan both turned (to 0 0 ∷ to 1 0 ∷ [])) 1 1) (refusal 1)
    -- `Plan::sound`
    ∷ row "never sound" (sound (plan both turned (to 0 0 ∷ to 0 1 ∷ []))) (truth true)
    ∷ row "targets not distinct" (sound (plan both turned (to 0 0 ∷ to 1 0 ∷ []))) (truth false)
    ∷ row "places not listed" (sound (plan both (small A) (to 0 1 ∷ []))) (truth false)
    ∷ row "pairs with neither copy nor cast" (sound (plan (small A) (vector A) (to 0 0 ∷ []))) (truth false)
    ∷ row "Customs of unequal names" (sound (plan (seal 9) (seal 8) (to 0 0 ∷ []))) (truth false)
    ∷ row "layouts not judged" (sound (plan both shared [])) (truth false)
    -- `convert_into_range`
    ∷ row "the first point only, a copy for a cast, nothing written, or every byte"
    (range (plan (small A) (laid (at A 2 1 ∷ []) 3) (to 0 0 ∷ [])) (5 ∷ 6 ∷ []) (points 0 2 2) (7 ∷ 7 ∷ 7 ∷ 7 ∷ 7 ∷ 7 ∷ []) (points 0 2 2)) (bytes (7 ∷ 5 ∷ 0 ∷ 7 ∷ 6 ∷ 0 ∷ []))
    ∷ row "points matched by their numbers"
    (range (plan (small A) (small A) (to 0 0 ∷ [])) (5 ∷ 6 ∷ 8 ∷ []) (points 1 3 3) (7 ∷ 7 ∷ 7 ∷ []) (points 0 2 3)) (bytes (6 ∷ 8 ∷ 7 ∷ []))
    ∷ row "the target range judged by the source's count" (range (plan (small A) (small A) (to 0 0 ∷ [])) (5 ∷ 6 ∷ []) (points 0 2 2) (7 ∷ []) (points 0 2 1)) (refusal 19)
    ∷ row "the source range judged by the target's count" (range (plan (small A) (small A) (to 0 0 ∷ [])) (5 ∷ []) (points 0 2 1) (7 ∷ 7 ∷ []) (points 0 2 2)) (refusal 18)
    ∷ row "the ranges' lengths not compared" (range (plan (small A) (small A) (to 0 0 ∷ [])) (5 ∷ []) (points 0 1 1) (7 ∷ []) (points 0 0 1)) (refusal 17)
    ∷ row "21 judged of the source only" (range (plan (small A) (small A) (to 0 0 ∷ [])) (5 ∷ []) (points 0 0 1) (7 ∷ []) (points 1 0 1)) (refusal 21)
    ∷ row "21 judged of the target only" (range (plan (small A) (small A) (to 0 0 ∷ [])) (5 ∷ []) (points 1 0 1) (7 ∷ []) (points 0 0 1)) (refusal 21)
    ∷ row "21 judged after 17" (range (plan (small A) (small A) (to 0 0 ∷ [])) (5 ∷ []) (points 1 0 1) (7 ∷ []) (points 0 1 1)) (refusal 21)
    ∷ row "21 judged after 18" (range (plan (small A) (small A) (to 0 0 ∷ [])) (5 ∷ []) (points 3 2 1) (7 ∷ []) (points 0 0 1)) (refusal 21)
    ∷ row "21 judged before 16" (range (plan (small A) (small A) (to 0 0 ∷ [])) (5 ∷ []) (points 1 0 1) (7 ∷ 7 ∷ []) (points 0 0 1)) (refusal 16)
    ∷ row "21 judged before 15" (range (plan (small A) (small A) (to 0 0 ∷ [])) (5 ∷ []) (points 1 0 2) (7 ∷ []) (points 0 0 1)) (refusal 15)
    ∷ row "an empty source range past the count accepted" (range (plan (small A) (small A) (to 0 0 ∷ [])) (5 ∷ []) (points 2 2 1) (7 ∷ []) (points 0 0 1)) (refusal 18)
    ∷ row "an empty target range past the count accepted" (range (plan (small A) (small A) (to 0 0 ∷ [])) (5 ∷ []) (points 0 0 1) (7 ∷ []) (points 2 2 1)) (refusal 19)
    ∷ row "a range that starts where it ends refused" (range (plan (small A) (small A) (to 0 0 ∷ [])) (5 ∷ []) (points 1 1 1) (7 ∷ []) (points 0 0 1)) (bytes (7 ∷ []))
    ∷ row "the source's length judged by the target's count" (range (plan (small A) (small A) (to 0 0 ∷ [])) (5 ∷ []) (points 0 1 2) (7 ∷ []) (points 0 1 1)) (refusal 15)
    ∷ row "the target's length judged by the source's point size" (range (plan (small A) (wide A) (to 0 0 ∷ [])) (5 ∷ []) (points 0 1 1) (7 ∷ []) (points 0 1 1)) (refusal 16)
    -- over columns
    ∷ row "a column that starts by point size" (range itself interleaved (points 0 2 2) (replicate 6 7) (columns 0 2 2)) (bytes in_columns)
    ∷ row "the second column overlapping the first by one byte" (range itself in_columns (columns 0 2 2) (replicate 8 7) (points 0 2 2)) (bytes (5 ∷ 7 ∷ 1 ∷ 2 ∷ 6 ∷ 7 ∷ 3 ∷ 4 ∷ []))
    ∷ row "a column that starts by the other side's count" (range itself in_columns (columns 1 2 2) (replicate 9 7) (columns 0 1 3)) (bytes (6 ∷ 7 ∷ 7 ∷ 3 ∷ 4 ∷ 7 ∷ 7 ∷ 7 ∷ 7 ∷ []))
    ∷ row "the range's start not added in a column" (range itself in_columns (columns 0 1 2) (replicate 6 7) (columns 1 2 2)) (bytes (7 ∷ 5 ∷ 7 ∷ 7 ∷ 1 ∷ 2 ∷ []))
    ∷ row "columns in the order of the offsets" (range (plan (laid (at A 0 1 ∷ at B 0 0 ∷ []) 2) both (to 0 0 ∷ to 1 1 ∷ [])) (5 ∷ 6 ∷ []) (columns 0 1 1) (7 ∷ 7 ∷ []) (points 0 1 1)) (bytes (5 ∷ 6 ∷ []))
    ∷ row "the target column's stride by the source's size" (range (plan (small A) (wide A) (to 0 0 ∷ [])) (5 ∷ 6 ∷ []) (columns 0 2 2) (replicate 4 7) (columns 0 2 2)) (bytes (5 ∷ 0 ∷ 6 ∷ 0 ∷ []))
    ∷ row "a byte between the second column and the third" (range (plan three three (to 0 0 ∷ to 1 1 ∷ to 2 2 ∷ [])) (1 ∷ 2 ∷ 3 ∷ 4 ∷ 5 ∷ 6 ∷ []) (points 0 2 2) (replicate 6 7) (columns 0 2 2)) (bytes (1 ∷ 4 ∷ 2 ∷ 5 ∷ 3 ∷ 6 ∷ []))
    ∷ row "22 where 15 is due" (range itself in_columns (points 0 2 2) (replicate 6 7) (columns 0 2 2)) (refusal 15)
    ∷ row "15 where 22 is due" (range itself interleaved (columns 0 2 2) (replicate 8 7) (points 0 2 2)) (refusal 22)
    ∷ row "22 where 16 is due" (range itself in_columns (columns 0 2 2) (replicate 6 7) (points 0 2 2)) (refusal 16)
    ∷ row "16 where 22 is due" (range itself interleaved (points 0 2 2) (replicate 8 7) (columns 0 2 2)) (refusal 22)
    ∷ row "the target judged first: a wrong source of points, a wrong target of columns" (range itself in_columns (points 0 2 2) (replicate 8 7) (columns 0 2 2)) (refusal 15)
    ∷ row "the target judged first: a wrong source of columns, a wrong target of points" (range itself interleaved (columns 0 2 2) (replicate 6 7) (points 0 2 2)) (refusal 22)
    ∷ row "21 judged before 22" (range itself interleaved (columns 2 0 2) (replicate 8 7) (points 0 2 2)) (refusal 22)
    ∷ row "17 judged before 22" (range itself interleaved (points 0 2 2) (replicate 8 7) (columns 0 1 2)) (refusal 22)
    ∷ row "the plan not judged" (range (plan both turned (to 0 0 ∷ to 1 0 ∷ [])) (5 ∷ 6 ∷ []) (points 0 1 1) (7 ∷ 7 ∷ []) (points 0 1 1)) (refusal 1)
    -- `convert_into_range`, the number lost, and `convert_by_mapping`: document 02, point 8
    ∷ row "points counted, not the lost ones: U16 256, 1, 257 to U8" (range_lost narrow (0 ∷ 1 ∷ 1 ∷ 0 ∷ 1 ∷ 1 ∷ []) (points 0 3 3) (replicate 3 7) (points 0 3 3)) (lost 2)
    ∷ row "points before the range counted" (range_lost narrow (0 ∷ 1 ∷ 1 ∷ 0 ∷ 1 ∷ 1 ∷ []) (points 1 2 3) (7 ∷ []) (points 0 1 1)) (lost 0)
    ∷ row "points behind the range counted, or those of the target's range" (range_lost narrow (1 ∷ 0 ∷ 0 ∷ 1 ∷ 1 ∷ 1 ∷ []) (points 0 2 3) (replicate 3 7) (points 1 3 3)) (lost 1)
    ∷ row "an empty range counted" (range_lost narrow (0 ∷ 1 ∷ []) (points 1 1 1) (7 ∷ []) (points 0 0 1)) (lost 0)
    ∷ row "a source in two mappings counted once" (range_lost doubled (0 ∷ 1 ∷ []) (points 0 1 1) (7 ∷ 7 ∷ []) (points 0 1 1)) (lost 2)
    ∷ row "attributes that no mapping names counted" (range_lost (plan words (small A) (to 0 0 ∷ [])) (1 ∷ 0 ∷ 0 ∷ 1 ∷ []) (points 0 1 1) (7 ∷ []) (points 0 1 1)) (lost 0)
    ∷ row "judged by the target's bytes before the call" (range_lost narrow (1 ∷ 0 ∷ []) (points 0 1 1) (255 ∷ []) (points 0 1 1)) (lost 0)
    ∷ row "the points of a column read as interleaved ones" (range_lost narrow_both (0 ∷ 1 ∷ 0 ∷ 1 ∷ 1 ∷ 0 ∷ 1 ∷ 0 ∷ []) (columns 0 1 2) (replicate 4 7) (columns 0 1 2)) (lost 1)
    ∷ row "a refusal that tells a number" (range_lost narrow (0 ∷ 1 ∷ []) (points 0 1 1) (7 ∷ 7 ∷ []) (points 0 2 2)) (refusal 17)
    ∷ row "counts of the mappings in the targets' order" (by_mapping narrow_both (1 ∷ 0 ∷ 0 ∷ 1 ∷ []) (points 0 1 1) (7 ∷ 7 ∷ []) (points 0 1 1)) (counted (1 ∷ 0 ∷ []))
    ∷ row "the sum for each mapping, or summed up from mapping to mapping" (by_mapping doubled (0 ∷ 1 ∷ 0 ∷ 1 ∷ []) (points 0 2 2) (replicate 4 7) (points 0 2 2)) (counted (2 ∷ 2 ∷ []))
    ∷ row "as many numbers as the plan has mappings, zeros not after them" (by_mapping narrow (0 ∷ 1 ∷ []) (points 0 1 1) (7 ∷ []) (points 0 1 1)) (counts (1 ∷ replicate 31 0))
    ∷ row "counts beside a refusal" (by_mapping narrow (0 ∷ 1 ∷ []) (points 0 1 1) (7 ∷ 7 ∷ []) (points 0 2 2)) (counts (replicate 32 0))
    -- `convert_point`
    ∷ row "Customs of unequal names skipped, or copied" (point (seal 9) (seal 8) (1 ∷ 2 ∷ []) (7 ∷ 7 ∷ [])) (refusal 14)
    ∷ row "equal Customs copied, not skipped" (point (seal 9) (seal 9) (1 ∷ 2 ∷ []) (7 ∷ 7 ∷ [])) (bytes (7 ∷ 7 ∷ []))
    ∷ row "equal datatypes copied" (point both (laid (at B 2 0 ∷ at A 0 2 ∷ []) 3) (5 ∷ 6 ∷ []) (7 ∷ 7 ∷ 7 ∷ [])) (bytes (6 ∷ 0 ∷ 7 ∷ []))
    ∷ row "cast at the source's offset" (point (laid (at A 0 1 ∷ []) 2) (wide A) (5 ∷ 6 ∷ []) (7 ∷ 7 ∷ 7 ∷ [])) (bytes (6 ∷ 0 ∷ 7 ∷ []))
    ∷ row "the target judged by the source's length" (point (small A) (wide A) (5 ∷ 6 ∷ []) (7 ∷ [])) (refusal 20)
    ∷ row "20 judged before 14" (point (small A) (vector A) [] []) (refusal 14)
    -- `cast_strided`
    ∷ row "the overlap judged by the source's stride" (strided (cast 0 2 0 2 0 1) 2 (5 ∷ 6 ∷ 8 ∷ []) (7 ∷ 7 ∷ 7 ∷ [])) (answer false (7 ∷ 7 ∷ 7 ∷ []))
    ∷ row "the source's points by the target's stride" (strided (cast 0 0 0 2 1 1) 2 (5 ∷ 6 ∷ 8 ∷ []) (7 ∷ 7 ∷ 7 ∷ [])) (answer true (7 ∷ 5 ∷ 8 ∷ []))
    ∷ row "the source's end not judged" (strided (cast 0 0 2 1 0 1) 2 (5 ∷ 6 ∷ 8 ∷ []) (7 ∷ 7 ∷ [])) (answer false (7 ∷ 7 ∷ []))
    ∷ row "the source's points counted by the target's stride" (strided_lost (cast 2 0 0 3 0 1) 2 (0 ∷ 1 ∷ 0 ∷ 1 ∷ 1 ∷ []) (7 ∷ 7 ∷ [])) (lost 2)
    ∷ row "the first point alone counted" (strided_lost (cast 2 0 0 2 0 1) 2 (1 ∷ 0 ∷ 0 ∷ 1 ∷ []) (7 ∷ 7 ∷ [])) (lost 1)
    ∷ row "a Vec3 counted once" (strided_lost (cast 11 10 0 6 0 3) 1 (0 ∷ 1 ∷ 0 ∷ 1 ∷ 0 ∷ 1 ∷ []) (7 ∷ 7 ∷ 7 ∷ [])) (lost 3)
    ∷ row "a copy counted" (strided_lost (cast 2 2 0 2 0 2) 1 (0 ∷ 1 ∷ []) (7 ∷ 7 ∷ [])) (lost 0)
    ∷ row "a number told where nothing was cast" (strided_lost (cast 2 0 1 2 0 1) 1 (0 ∷ 1 ∷ []) (7 ∷ [])) unfit
    -- copies of U16 without a gap: on both sides; in the source alone; in the target alone; and of no point, past the end
    ∷ row "the first point alone copied, or the bytes before and behind the points too" (strided (cast 2 2 1 2 1 2) 2 (1 ∷ 2 ∷ 3 ∷ 4 ∷ 5 ∷ 6 ∷ []) (7 ∷ 7 ∷ 7 ∷ 7 ∷ 7 ∷ 7 ∷ [])) (answer true (7 ∷ 2 ∷ 3 ∷ 4 ∷ 5 ∷ 7 ∷ []))
    ∷ row "copied at once over the target's gaps" (strided (cast 2 2 0 2 0 3) 2 (1 ∷ 2 ∷ 3 ∷ 4 ∷ []) (7 ∷ 7 ∷ 7 ∷ 7 ∷ 7 ∷ [])) (answer true (1 ∷ 2 ∷ 7 ∷ 3 ∷ 4 ∷ []))
    ∷ row "copied at once with the source's gaps" (strided (cast 2 2 0 3 0 2) 2 (1 ∷ 2 ∷ 3 ∷ 4 ∷ 5 ∷ []) (7 ∷ 7 ∷ 7 ∷ 7 ∷ [])) (answer true (1 ∷ 2 ∷ 4 ∷ 5 ∷ []))
    ∷ row "no point at all refused, or copied from past the end" (strided (cast 2 2 9 2 9 2) 0 (1 ∷ []) (7 ∷ [])) (answer true (7 ∷ []))
    ∷ row "the pair not judged" (strided (cast 0 10 0 1 0 3) 1 (5 ∷ []) (7 ∷ 7 ∷ 7 ∷ [])) (answer false (7 ∷ 7 ∷ 7 ∷ []))
    ∷ []

-- every row holds
abbrev pub RuledOut : Type 0
RuledOut = map found table ≡ map told table
