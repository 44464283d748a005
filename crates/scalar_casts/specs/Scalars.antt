-- The ten scalars, document 01's codes 0 to 9, the cast from each to each, and whether it keeps the number.
use Rattle.std.specs.Prelude.{◌∷◌, ◌*◌}
use Rattle.common.specs.Logic.{Bool, cond, List, [], ℕ, eqb}
use Rattle.std.specs.Float.{binary32, binary64}
use Rattle.numbers.specs.Casts.{Kind, unsigned, signed, float, cast_of}
use Rattle.kept_casts.specs.Kept.{same_number, value_in}
use Rattle.scalar_casts.specs.declared.scalar.Scalar.{Scalar}
use Rattle.scalar_casts.specs.declared.scalar.Scalar.TheVariants.{U8, I8, U16, I16, U32, I32, U64, I64, F32, F64}

abbrev pub code_of : Scalar → ℕ
code_of U8 = 0
code_of I8 = 1
code_of U16 = 2
code_of I16 = 3
code_of U32 = 4
code_of I32 = 5
code_of U64 = 6
code_of I64 = 7
code_of F32 = 8
code_of F64 = 9

abbrev pub scalars : List Scalar
scalars = U8 ∷ I8 ∷ U16 ∷ I16 ∷ U32 ∷ I32 ∷ U64 ∷ I64 ∷ F32 ∷ F64 ∷ []

abbrev pub kind_of : Scalar → Kind
kind_of U8 = unsigned 8
kind_of I8 = signed 8
kind_of U16 = unsigned 16
kind_of I16 = signed 16
kind_of U32 = unsigned 32
kind_of I32 = signed 32
kind_of U64 = unsigned 64
kind_of I64 = signed 64
kind_of F32 = float binary32
kind_of F64 = float binary64

-- its size in bytes, and in bits
abbrev pub width_of : Scalar → ℕ
width_of U8 = 1
width_of I8 = 1
width_of U16 = 2
width_of I16 = 2
width_of U32 = 4
width_of I32 = 4
width_of U64 = 8
width_of I64 = 8
width_of F32 = 4
width_of F64 = 8

abbrev pub bits_of : Scalar → ℕ
bits_of s = 8 * width_of s

-- The pattern x of the scalar `from` as the scalar `to`. Equal scalars are copied: x itself, every NaN kept; the diagonal is never a rounding cast.
unfoldable pub cast_scalar : Scalar → Scalar → ℕ → ℕ
cast_scalar from to x = cond (eqb (code_of from) (code_of to)) x (cast_of (kind_of from) (kind_of to) x)

-- Document 02, point 8: "Every cast must tell whether its result is the same number as its source": the cast of the pattern x is.
unfoldable pub keeps_number : Scalar → Scalar → ℕ → Bool
keeps_number from to x = same_number (value_in (kind_of from) x) (value_in (kind_of to) (cast_scalar from to x))
