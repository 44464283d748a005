-- Document 01's cases marked (P), sections Layout and Cast: one table, each row in the paper's words, with its codes and bytes, and the theorem over it.
use Rattle.std.specs.Prelude.{◌≡◌, ◌∷◌}
use Rattle.common.specs.Logic.{List, [], map, ℕ}
use Prim.Native.String.{String}
use Rattle.common.specs.Refusal.{Outcome, got, refused, left_by}
use Rattle.datatype.specs.Datatype.{plain}
use Rattle.layout.specs.Calls.{Call, called}
use Rattle.layout.specs.Layout.{Attribute, Layout}
use Rattle.layout.specs.Makers.{empty_layout, placed, from_members}
use Rattle.layout.specs.declared.point_layout.FieldAlignment.{FieldAlignment}
use Rattle.layout.specs.declared.point_layout.FieldAlignment.TheVariants.{Default, Packed}
use Rattle.attribute_conversion.specs.Attributes.{cast_bytes}
use Rattle.pairs.specs.Pairs.{pair_of}
use Rattle.pairs.specs.declared.pair.Pair.{Pair}
use Rattle.pairs.specs.declared.pair.Pair.TheVariants.{Cast}

pub data Case : Type 0 where
  -- `add_attribute` calls from the empty layout, the first and those after it
  calls : Call → List Call → Case
  -- a given list with its alignment, then one call
  given_then : List Attribute → ℕ → Call → Case
  -- the bytes of an attribute, from a code to a code
  cast : ℕ → ℕ → List ℕ → Case

pub data Result : Type 0 where
  -- offsets, size, alignment
  layout : List ℕ → ℕ → ℕ → Result
  -- the offset that the last call's attribute would have, and the number of the refusal
  refusal : ℕ → ℕ → Result
  -- the pair of the two codes, and the bytes
  bytes : Pair → List ℕ → Result

pub record Row : Type 0 where
  pub name : String
  pub case : Case
  pub gives : Result

-- ---- what a case gives

offset_in : Attribute → ℕ
offset_in a = a.offset

result_of : Layout → Call → Outcome Layout → Result
unfolding offset_in
result_of l c (got k) = layout (map offset_in k.attributes) k.size k.alignment
result_of l c (refused n) = refusal (placed l.attributes c.definition c.alignment).offset n

-- what the last call gives, the first of them getting l
last_of : Layout → Call → List Call → Result
unfolding result_of
last_of l c [] = result_of l c (called l c)
last_of l c (d ∷ cs) = last_of (left_by l (called l c)) d cs

unfoldable pub result_in : Case → Result
unfolding last_of
result_in (calls c cs) = last_of empty_layout c cs
result_in (given_then xs a c) = last_of (left_by empty_layout (from_members xs a)) c []
result_in (cast from to s) = bytes (pair_of (plain from) (plain to)) (cast_bytes (plain from) (plain to) s)

unfoldable pub found : Row → Result
found r = result_in r.case

unfoldable pub told : Row → Result
told r = r.gives

-- ---- the table

-- names of one letter
abbrev A : List ℕ
A = 65 ∷ []

abbrev B : List ℕ
B = 66 ∷ []

abbrev C : List ℕ
C = 67 ∷ []

abbrev call : List ℕ → ℕ → FieldAlignment → Call
call name code f = record { definition = record { name = name; datatype = plain code }; alignment = f }

abbrev given : List ℕ → ℕ → ℕ → Attribute
given name code offset = record { definition = record { name = name; datatype = plain code }; offset = offset }

abbrev row : String → Case → Result → Row
row n c r = record { name = n; case = c; gives = r }

unfoldable pub table : List Row
table =
    row "U64, U8, U8 Default lie at 0, 8, 9, size 16, alignment 8"
    (calls (call A 6 Default) (call B 0 Default ∷ call C 0 Default ∷ [])) (layout (0 ∷ 8 ∷ 9 ∷ []) 16 8)
    ∷ row "U32, U8 Packed 4: 0, 4, size 5, alignment 1"
    (calls (call A 4 (Packed 4)) (call B 0 (Packed 4) ∷ [])) (layout (0 ∷ 4 ∷ []) 5 1)
    ∷ row "U32 Default, then U8 Packed 3: refusal 10"
    (calls (call A 4 Default) (call B 0 (Packed 3) ∷ [])) (refusal 4 10)
    ∷ row "Given U32 at 8, U32 at 0, alignment 4, then U64 Default: offset 8, refusal 9"
    (given_then (given A 4 8 ∷ given B 4 0 ∷ []) 4 (call C 6 Default)) (refusal 8 9)
    ∷ row "U16 65535 to I8 -1" (cast 2 1 (0xff ∷ 0xff ∷ [])) (bytes Cast (0xff ∷ []))
    ∷ row "I32 -1 to U64 18446744073709551615" (cast 5 6 (0xff ∷ 0xff ∷ 0xff ∷ 0xff ∷ [])) (bytes Cast (0xff ∷ 0xff ∷ 0xff ∷ 0xff ∷ 0xff ∷ 0xff ∷ 0xff ∷ 0xff ∷ []))
    ∷ row "U32 16777217 to F32 hex 4B800000" (cast 4 8 (0x01 ∷ 0x00 ∷ 0x00 ∷ 0x01 ∷ [])) (bytes Cast (0x00 ∷ 0x00 ∷ 0x80 ∷ 0x4b ∷ []))
    ∷ row "U32 16777219 to F32 hex 4B800002" (cast 4 8 (0x03 ∷ 0x00 ∷ 0x00 ∷ 0x01 ∷ [])) (bytes Cast (0x02 ∷ 0x00 ∷ 0x80 ∷ 0x4b ∷ []))
    ∷ row "U64 18446744073709551615 to F64 hex 43F0000000000000" (cast 6 9 (0xff ∷ 0xff ∷ 0xff ∷ 0xff ∷ 0xff ∷ 0xff ∷ 0xff ∷ 0xff ∷ [])) (bytes Cast (0x00 ∷ 0x00 ∷ 0x00 ∷ 0x00 ∷ 0x00 ∷ 0x00 ∷ 0xf0 ∷ 0x43 ∷ []))
    ∷ row "F32 300 to U8 255" (cast 8 0 (0x00 ∷ 0x00 ∷ 0x96 ∷ 0x43 ∷ [])) (bytes Cast (0xff ∷ []))
    ∷ row "F32 -1.5 to I8 -1" (cast 8 1 (0x00 ∷ 0x00 ∷ 0xc0 ∷ 0xbf ∷ [])) (bytes Cast (0xff ∷ []))
    ∷ row "F64 2^128 to F32 hex 7F800000" (cast 9 8 (0x00 ∷ 0x00 ∷ 0x00 ∷ 0x00 ∷ 0x00 ∷ 0x00 ∷ 0xf0 ∷ 0x47 ∷ [])) (bytes Cast (0x00 ∷ 0x00 ∷ 0x80 ∷ 0x7f ∷ []))
    ∷ row "F64 2^-149 to F32 hex 00000001" (cast 9 8 (0x00 ∷ 0x00 ∷ 0x00 ∷ 0x00 ∷ 0x00 ∷ 0x00 ∷ 0xa0 ∷ 0x36 ∷ [])) (bytes Cast (0x01 ∷ 0x00 ∷ 0x00 ∷ 0x00 ∷ []))
    ∷ row "F64 2^-150 to F32 0" (cast 9 8 (0x00 ∷ 0x00 ∷ 0x00 ∷ 0x00 ∷ 0x00 ∷ 0x00 ∷ 0x90 ∷ 0x36 ∷ [])) (bytes Cast (0x00 ∷ 0x00 ∷ 0x00 ∷ 0x00 ∷ []))
    ∷ []

-- document 01's theorem over the definitions: every case gives what the table says
abbrev pub CasesHold : Type 0
CasesHold = map found table ≡ map told table
