-- Document 01, section Datatype, and document 02, points 4 and 9: the eighteen codes, each with one size and one alignment. The size of a
-- ByteArray or of a Custom is any number but 0, a Custom's alignment any number and its name any two; in the program they have 16, 8 and twice
-- 64 bits.
use Rattle.std.specs.Prelude.{◌&&◌, ◌||◌, ◌∷◌}
use Rattle.common.specs.Logic.{true, Bool, cond, List, [], ℕ, max, eqb, ltb, get_or}
use Rattle.common.specs.Refusal.{Line, line, Outcome, check, left_by}
use Rattle.datatype.specs.declared.datatype.Datatype.{Datatype}
use Rattle.datatype.specs.declared.datatype.Properties.{Properties}
use Rattle.datatype.specs.declared.datatype.PointAttributeDataType.{PointAttributeDataType}
use Rattle.datatype.specs.declared.datatype.PointAttributeDataType.TheVariants.{U8, I8, U16, I16, U32, I32, U64, I64, F32, F64, Vec3u8, Vec3u16, Vec3f32, Vec3i32, Vec3f64, Vec4u8, ByteArray, Custom}

-- the datatype of a code that has no numbers beside it: 0 to 15
abbrev pub plain : ℕ → Datatype
plain c = record { code = c; n = 0; alignment = 0; name_high = 0; name_low = 0 }

-- a ByteArray of n
abbrev pub byte_array : ℕ → Datatype
byte_array n = record { code = 16; n = n; alignment = 0; name_high = 0; name_low = 0 }

-- document 02's Custom: size, minimum alignment, and the name's upper and lower 64 bits
abbrev pub custom : ℕ → ℕ → ℕ → ℕ → Datatype
custom s a h l = record { code = 17; n = s; alignment = a; name_high = h; name_low = l }

-- the same but for its code
abbrev pub with_code : Datatype → ℕ → Datatype
with_code d c = record { code = c; n = d.n; alignment = d.alignment; name_high = d.name_high; name_low = d.name_low }

-- what a code stands for, its size and its alignment in bytes
abbrev pub known : PointAttributeDataType → ℕ → ℕ → Properties
known d s a = record { datatype = d; size = s; alignment = a }

-- code after code, with the size, the alignment and the name of d where a code has them
unfoldable pub codes : Datatype → List Properties
codes d =
    known U8 1 1
    ∷ known I8 1 1
    ∷ known U16 2 2
    ∷ known I16 2 2
    ∷ known U32 4 4
    ∷ known I32 4 4
    ∷ known U64 8 8
    ∷ known I64 8 8
    ∷ known F32 4 4
    ∷ known F64 8 8
    ∷ known Vec3u8 3 1
    ∷ known Vec3u16 6 2
    ∷ known Vec3f32 12 4
    ∷ known Vec3i32 12 4
    ∷ known Vec3f64 24 8
    ∷ known Vec4u8 4 1
    ∷ known (ByteArray d.n) d.n 1
    ∷ known (Custom d.n d.alignment d.name_high d.name_low) d.n d.alignment
    ∷ []

-- 5: a datatype code is above 17; 6: a ByteArray or a Custom has size 0
unfoldable pub datatype_lines : Datatype → List Line
datatype_lines d = line 5 (ltb 17 d.code) ∷ line 6 ((eqb d.code 16 || eqb d.code 17) && eqb d.n 0) ∷ []

-- no datatype: of no size and no alignment
abbrev pub unlisted : Properties
unlisted = known U8 0 0

unfoldable pub datatype_of : Datatype → Outcome Properties
datatype_of d = check (datatype_lines d) (get_or (codes d) d.code unlisted)

-- 0 where the datatype is refused
unfoldable pub size_of : Datatype → ℕ
size_of d = (left_by unlisted (datatype_of d)).size

unfoldable pub align_of : Datatype → ℕ
align_of d = (left_by unlisted (datatype_of d)).alignment

-- the alignment of which 0 is read as 1 (document 02, points 9, 11 and 12)
unfoldable pub read_align : Datatype → ℕ
read_align d = max 1 (align_of d)

-- document 02: two Customs are equal exactly if size, alignment and name all agree
unfoldable pub same_custom : Datatype → Datatype → Bool
same_custom a b =
    (eqb a.n b.n && eqb a.alignment b.alignment) && (eqb a.name_high b.name_high && eqb a.name_low b.name_low)

-- documents 01 and 02: equal datatypes have equal codes and, for ByteArray, equal n, for Custom, equal size, alignment and name
unfoldable pub same_datatype : Datatype → Datatype → Bool
same_datatype a b =
    eqb a.code b.code && cond (eqb a.code 16) (eqb a.n b.n) (cond (eqb a.code 17) (same_custom a b) true)
