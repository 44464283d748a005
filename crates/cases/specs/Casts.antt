-- Wrong programs of the casts, each named, with what the definitions give at an input where it gives something else. The contracts of `cast_scalar`,
-- `pair_of`, `cast_attribute`, `lost_attribute` and of the functions beneath them are equations with these definitions, so no such program is proved.
use Rattle.std.specs.Prelude.{◌≡◌, ◌∷◌, ◌-◌, ◌*◌, ◌^◌, ◌%◌}
use Rattle.common.specs.Logic.{true, Bool, false, cond, List, [], map, None, Some, Option, ℕ, leb, length, replicate}
use Prim.Native.String.{String}
use Rattle.std.specs.Float.Ieee.{prec, emax, hid, ones, top}
use Rattle.std.specs.Float.Ieee.Nearest.{closest}
use Rattle.datatype.specs.Datatype.{plain, byte_array, custom, size_of}
use Rattle.datatype.specs.declared.datatype.Datatype.{Datatype}
use Rattle.attribute_conversion.specs.Attributes.{cast_bytes, cast_fits}
use Rattle.attribute_conversion.specs.Lost.{lost_in, cast_answer}
use Rattle.numbers.specs.Casts.{format_of, format_bits, sign_bit}
use Rattle.numbers.specs.Widths.{bits_in}
use Rattle.numbers.specs.declared.format.Format.TheVariants.{Binary32, Binary64}
use Rattle.numbers.specs.declared.integer.Width.TheVariants.{W16, W64}
use Rattle.pairs.specs.Pairs.{pair_of}
use Rattle.scalar_casts.specs.Scalars.{width_of, bits_of, cast_scalar, keeps_number}
use Rattle.pairs.specs.declared.pair.Pair.{Pair}
use Rattle.pairs.specs.declared.pair.Pair.TheVariants.{Copy, Cast, Nothing}
use Rattle.scalar_casts.specs.declared.scalar.Scalar.{Scalar}
use Rattle.scalar_casts.specs.declared.scalar.Scalar.TheVariants.{U8, I8, U16, I16, U32, I32, U64, I64, F32, F64}

pub data Case : Type 0 where
  -- `cast_scalar`, its pattern and whether it is the same number: from, to, and the pattern
  scalar keeping : Scalar → Scalar → ℕ → Case
  -- `pair_of`: from and to
  pair : Datatype → Datatype → Case
  -- `cast_attribute`: from, to, the source's bytes, and the target's before the call
  attribute : Datatype → Datatype → List ℕ → List ℕ → Case
  -- what it answers of the number lost; and `lost_attribute`: from, to, the source's bytes
  attribute_lost : Datatype → Datatype → List ℕ → List ℕ → Case
  lost_only : Datatype → Datatype → List ℕ → Case
  -- a number by the definition that the contract of one of the functions beneath cites
  number : ℕ → Case

pub data Result : Type 0 where
  pattern : ℕ → Result
  kept : Bool → Result
  entry : Pair → Result
  -- whether it was cast, and the target's bytes after the call
  answer : Bool → List ℕ → Result
  -- the number of components lost, or that nothing was cast
  lost : ℕ → Result
  unfit : Result

pub record Row : Type 0 where
  pub name : String
  pub case : Case
  pub gives : Result

of_answer : Option ℕ → Result
of_answer (Some n) = lost n
of_answer None = unfit

unfoldable pub result_in : Case → Result
unfolding of_answer
result_in (scalar from to x) = pattern (cast_scalar from to (x % 2 ^ bits_of from))
result_in (keeping from to x) = kept (keeps_number from to (x % 2 ^ bits_of from))
result_in (pair from to) = entry (pair_of from to)
result_in (attribute from to s t) = let fits = cast_fits from to (length s) (length t) in answer fits (cond fits (cast_bytes from to s) t)
result_in (attribute_lost from to s t) = of_answer (cast_answer (cast_fits from to (length s) (length t)) (lost_in from to s))
result_in (lost_only from to s) = lost (cond (cast_fits from to (length s) (size_of to)) (lost_in from to s) 0)
result_in (number n) = pattern n

unfoldable pub found : Row → Result
found r = result_in r.case

unfoldable pub told : Row → Result
told r = r.gives

abbrev row : String → Case → Result → Row
row n c r = record { name = n; case = c; gives = r }

-- a code that has no numbers beside it
abbrev code : ℕ → Datatype
code c = plain c

unfoldable pub table : List Row
table =
    -- `cast_scalar`
    row "integers held at the target's ends: U16 300 to U8 is 44" (scalar U16 U8 300) (pattern 44)
    ∷ row "sign extension left out: I8 -1 to U16 is 65535" (scalar I8 U16 0xff) (pattern 0xffff)
    ∷ row "higher bits not cut off: they do not count" (scalar U8 U16 0x1ff) (pattern 0xff)
    ∷ row "ties away from even: U64 16777217 to F32" (scalar U64 F32 16777217) (pattern 0x4b80_0000)
    ∷ row "by way of F64: U64 9007199791611905 to F32" (scalar U64 F32 9007199791611905) (pattern 0x5a00_0001)
    ∷ row "the sign left out: I16 -2 to F64" (scalar I16 F64 0xfffe) (pattern 0xc000_0000_0000_0000)
    -- document 02, point 5: the six casts from integers to floats that can drop digits
    ∷ row "ties away from even: U32 16777219 to F32" (scalar U32 F32 16777219) (pattern 0x4b80_0002)
    ∷ row "one place too few shifted: U32 3 to F32" (scalar U32 F32 3) (pattern 0x4040_0000)
    ∷ row "a carry not counted by the exponent: U32 4294967295 to F32" (scalar U32 F32 0xffff_ffff) (pattern 0x4f80_0000)
    ∷ row "ties away from even: I32 -16777219 to F32" (scalar I32 F32 0xfeff_fffd) (pattern 0xcb80_0002)
    ∷ row "the lowest as if it had no sign: I32 -2147483648 to F32" (scalar I32 F32 0x8000_0000) (pattern 0xcf00_0000)
    ∷ row "0 as a power of two: U64 0 to F32" (scalar U64 F32 0) (pattern 0)
    ∷ row "a digit lost at the top: U64 18446744073709551615 to F32" (scalar U64 F32 0xffff_ffff_ffff_ffff) (pattern 0x5f80_0000)
    ∷ row "ties away from even: I64 -16777219 to F32" (scalar I64 F32 0xffff_ffff_feff_fffd) (pattern 0xcb80_0002)
    ∷ row "one place too few shifted: I64 -3 to F32" (scalar I64 F32 0xffff_ffff_ffff_fffd) (pattern 0xc040_0000)
    ∷ row "the lowest as if it had no sign: I64 -9223372036854775808 to F32" (scalar I64 F32 0x8000_0000_0000_0000) (pattern 0xdf00_0000)
    ∷ row "ties away from even, upwards: U64 9007199254740993 to F64" (scalar U64 F64 9007199254740993) (pattern 0x4340_0000_0000_0000)
    ∷ row "ties away from even, downwards: U64 9007199254740995 to F64" (scalar U64 F64 9007199254740995) (pattern 0x4340_0000_0000_0002)
    ∷ row "one place too few shifted: U64 3 to F64" (scalar U64 F64 3) (pattern 0x4008_0000_0000_0000)
    ∷ row "0 with a sign: I64 0 to F64" (scalar I64 F64 0) (pattern 0)
    ∷ row "ties away from even: I64 -9007199254740995 to F64" (scalar I64 F64 0xffdf_ffff_ffff_fffd) (pattern 0xc340_0000_0000_0002)
    ∷ row "a carry not counted by the exponent: I64 9223372036854775807 to F64" (scalar I64 F64 0x7fff_ffff_ffff_ffff) (pattern 0x43e0_0000_0000_0000)
    ∷ row "the whole part one too small: F64 1 to U8" (scalar F64 U8 0x3ff0_0000_0000_0000) (pattern 1)
    ∷ row "towards the nearest: F32 1.75 to I32" (scalar F32 I32 0x3fe0_0000) (pattern 1)
    ∷ row "held at 128: F32 150 to I8 is 127" (scalar F32 I8 0x4316_0000) (pattern 127)
    ∷ row "held at -127: F32 -150 to I8 is -128" (scalar F32 I8 0xc316_0000) (pattern 128)
    ∷ row "NaN to the largest: it gives 0" (scalar F32 I32 0x7fc0_0000) (pattern 0)
    ∷ row "one digit too few: F64 1 + 2^-23 to F32" (scalar F64 F32 0x3ff0_0000_2000_0000) (pattern 0x3f80_0001)
    ∷ row "one digit too many, or cut off: F64 1 + 3 * 2^-24 to F32" (scalar F64 F32 0x3ff0_0000_3000_0000) (pattern 0x3f80_0002)
    ∷ row "ties away from even: F64 1 + 2^-24 to F32" (scalar F64 F32 0x3ff0_0000_1000_0000) (pattern 0x3f80_0000)
    ∷ row "subnormals one digit short: F64 3 * 2^-149 to F32" (scalar F64 F32 0x36b8_0000_0000_0000) (pattern 3)
    -- a NaN: document 02, point 3
    ∷ row "sign dropped, or a payload in the low 29 bits made an infinity: F64 hex FFF0000000000001 to F32" (scalar F64 F32 0xfff0_0000_0000_0001) (pattern 0xffc0_0000)
    ∷ row "quiet bit not set, or payload dropped: F32 hex 7F800001 to F64" (scalar F32 F64 0x7f80_0001) (pattern 0x7ff8_0000_2000_0000)
    ∷ row "payload dropped: F64 hex 7FFFFFFFFFFFFFFF to F32" (scalar F64 F32 0x7fff_ffff_ffff_ffff) (pattern 0x7fff_ffff)
    ∷ row "quiet bit not set: F64 hex 7FF0000020000000 to F32" (scalar F64 F32 0x7ff0_0000_2000_0000) (pattern 0x7fc0_0001)
    ∷ row "payload rounded, not cut: F64 hex 7FF800001FFFFFFF to F32" (scalar F64 F32 0x7ff8_0000_1fff_ffff) (pattern 0x7fc0_0000)
    ∷ row "payload from the low 22 bits: F64 hex 7FF80000003FFFFF to F32" (scalar F64 F32 0x7ff8_0000_003f_ffff) (pattern 0x7fc0_0000)
    ∷ row "document 01's pattern: F64 hex FFF8000020000001 to F32" (scalar F64 F32 0xfff8_0000_2000_0001) (pattern 0xffc0_0001)
    ∷ row "sign dropped, or filled with ones: F32 hex FFFFFFFF to F64" (scalar F32 F64 0xffff_ffff) (pattern 0xffff_ffff_e000_0000)
    ∷ row "document 01's pattern: F32 hex FFC00001 to F64" (scalar F32 F64 0xffc0_0001) (pattern 0xfff8_0000_2000_0000)
    ∷ row "a signalling NaN made quiet where F32 is copied" (scalar F32 F32 0xff80_0001) (pattern 0xff80_0001)
    ∷ row "a signalling NaN made quiet where F64 is copied" (scalar F64 F64 0xfff0_0000_0000_0001) (pattern 0xfff0_0000_0000_0001)
    -- `cast_scalar`, whether it is the same number: document 02, point 8. The first four come back from the cast and the cast back
    ∷ row "kept judged by casting back: U8 255 to I8" (keeping U8 I8 255) (kept false)
    ∷ row "kept judged by casting back: U64 18446744073709551615 to F64" (keeping U64 F64 0xffff_ffff_ffff_ffff) (kept false)
    ∷ row "kept judged by casting back: F32 2^32 to U32" (keeping F32 U32 0x4f80_0000) (kept false)
    ∷ row "kept judged by casting back: I64 9223372036854775807 to F64" (keeping I64 F64 0x7fff_ffff_ffff_ffff) (kept false)
    ∷ row "higher bits not cut off: U8 hex 17F to I8" (keeping U8 I8 0x17f) (kept true)
    ∷ row "a lost sign told as kept: I32 -1 to U64" (keeping I32 U64 0xffff_ffff) (kept false)
    ∷ row "the lowest integer told as lost: I64 -128 to I8" (keeping I64 I8 0xffff_ffff_ffff_ff80) (kept true)
    ∷ row "the highest digits told as too many, not those in use: U64 2^63 + 2^11 to F64" (keeping U64 F64 0x8000_0000_0000_0800) (kept true)
    ∷ row "one digit more than F32 has: U32 16777217 to F32" (keeping U32 F32 16777217) (kept false)
    ∷ row "the lowest integer told as lost: I64 -9223372036854775808 to F32" (keeping I64 F32 0x8000_0000_0000_0000) (kept true)
    ∷ row "the lowest integer told as lost: F64 -2147483648 to I32" (keeping F64 I32 0xc1e0_0000_0000_0000) (kept true)
    ∷ row "held at the target's end and told as kept: F64 2147483648 to I32" (keeping F64 I32 0x41e0_0000_0000_0000) (kept false)
    ∷ row "digits after the point not looked at: F32 1.5 to U8" (keeping F32 U8 0x3fc0_0000) (kept false)
    ∷ row "minus zero told as lost, the patterns compared: F64 -0 to U8" (keeping F64 U8 0x8000_0000_0000_0000) (kept true)
    ∷ row "a NaN to an integer told as kept: F32 hex 7FC00001 to I64" (keeping F32 I64 0x7fc0_0001) (kept false)
    ∷ row "a NaN to a float told as lost: F64 hex FFF0000000000001 to F32" (keeping F64 F32 0xfff0_0000_0000_0001) (kept true)
    ∷ row "a NaN told as lost where it is copied: F32 hex 7F800001 to F32" (keeping F32 F32 0x7f80_0001) (kept true)
    ∷ row "an infinity told as lost: F64 hex FFF0000000000000 to F32" (keeping F64 F32 0xfff0_0000_0000_0000) (kept true)
    ∷ row "a number made an infinity told as kept: F64 2^128 to F32" (keeping F64 F32 0x47f0_0000_0000_0000) (kept false)
    ∷ row "F32's subnormals told as lost: F64 2^-149 to F32" (keeping F64 F32 0x36a0_0000_0000_0000) (kept true)
    ∷ row "F32's subnormals with all digits of its normal numbers: F64 1.5 * 2^-149 to F32" (keeping F64 F32 0x36a8_0000_0000_0000) (kept false)
    ∷ row "a number made 0 told as kept: F64 2^-151 to F32" (keeping F64 F32 0x3680_0000_0000_0000) (kept false)
    -- `pair_of`
    ∷ row "an entry wrong: I8 to U8 is a cast" (pair (code 1) (code 0)) (entry Cast)
    ∷ row "copy for all arrays: ByteArray of 3 to ByteArray of 4" (pair (byte_array 3) (byte_array 4)) (entry Nothing)
    ∷ row "no array copied: ByteArray of 3 to itself" (pair (byte_array 3) (byte_array 3)) (entry Copy)
    ∷ row "Vec4 cast like Vec3" (pair (code 15) (code 10)) (entry Nothing)
    ∷ row "a scalar cast to Vec3" (pair (code 0) (code 10)) (entry Nothing)
    ∷ row "no Custom copied: one of 3 bytes to itself" (pair (custom 3 1 7 9) (custom 3 1 7 9)) (entry Copy)
    ∷ row "names not compared: Customs of 3 bytes" (pair (custom 3 1 7 9) (custom 3 1 7 8)) (entry Nothing)
    ∷ row "the name's upper half not compared" (pair (custom 3 1 7 9) (custom 3 1 6 9)) (entry Nothing)
    ∷ row "alignment not compared: Customs of 3 bytes" (pair (custom 3 1 7 9) (custom 3 2 7 9)) (entry Nothing)
    ∷ row "a Custom castable to a ByteArray of its size" (pair (custom 3 1 7 9) (byte_array 3)) (entry Nothing)
    ∷ row "a ByteArray castable to a Custom of its size" (pair (byte_array 3) (custom 3 1 7 9)) (entry Nothing)
    ∷ row "a Custom of size 0 copied" (pair (custom 0 1 7 9) (custom 0 1 7 9)) (entry Nothing)
    ∷ row "the last column taken for a cast: U8 to Custom" (pair (code 0) (custom 1 1 7 9)) (entry Nothing)
    ∷ row "ByteArray of 0 copied" (pair (byte_array 0) (byte_array 0)) (entry Nothing)
    ∷ row "a code above 17 copied" (pair (code 18) (code 18)) (entry Nothing)
    -- `cast_attribute`
    ∷ row "the target judged by the source's size: U16 to U8 in two bytes" (attribute (code 2) (code 0) (1 ∷ 0 ∷ []) (7 ∷ 8 ∷ [])) (answer false (7 ∷ 8 ∷ []))
    ∷ row "Vec4 cast like Vec3, in bytes" (attribute (code 15) (code 10) (1 ∷ 2 ∷ 3 ∷ 4 ∷ []) (7 ∷ 8 ∷ 9 ∷ [])) (answer false (7 ∷ 8 ∷ 9 ∷ []))
    ∷ row "ByteArray of 0 copied, in bytes" (attribute (byte_array 0) (byte_array 0) [] []) (answer false [])
    ∷ row "copied where it should be cast: F32 1 to U32" (attribute (code 8) (code 4) (0x00 ∷ 0x00 ∷ 0x80 ∷ 0x3f ∷ []) (7 ∷ 7 ∷ 7 ∷ 7 ∷ [])) (answer true (1 ∷ 0 ∷ 0 ∷ 0 ∷ []))
    ∷ row "the highest byte first: U16 to U32" (attribute (code 2) (code 4) (1 ∷ 2 ∷ []) (7 ∷ 7 ∷ 7 ∷ 7 ∷ [])) (answer true (1 ∷ 2 ∷ 0 ∷ 0 ∷ []))
    ∷ row "the first component alone, or another order: Vec3u8 to Vec3u16" (attribute (code 10) (code 11) (1 ∷ 2 ∷ 3 ∷ []) (7 ∷ 7 ∷ 7 ∷ 7 ∷ 7 ∷ 7 ∷ [])) (answer true (1 ∷ 0 ∷ 2 ∷ 0 ∷ 3 ∷ 0 ∷ []))
    ∷ row "a component's scalar wrong: Vec3i32 -1, 0, 2 to Vec3f64"
    (attribute (code 13) (code 14) (0xff ∷ 0xff ∷ 0xff ∷ 0xff ∷ 0 ∷ 0 ∷ 0 ∷ 0 ∷ 2 ∷ 0 ∷ 0 ∷ 0 ∷ []) (replicate 24 7))
    (answer true (0 ∷ 0 ∷ 0 ∷ 0 ∷ 0 ∷ 0 ∷ 0xf0 ∷ 0xbf ∷ 0 ∷ 0 ∷ 0 ∷ 0 ∷ 0 ∷ 0 ∷ 0 ∷ 0 ∷ 0 ∷ 0 ∷ 0 ∷ 0 ∷ 0 ∷ 0 ∷ 0 ∷ 0x40 ∷ []))
    ∷ row "a component's payload dropped: Vec3f64 of three NaN to Vec3f32"
    (attribute (code 14) (code 12) (1 ∷ 0 ∷ 0 ∷ 0 ∷ 0 ∷ 0 ∷ 0xf0 ∷ 0xff ∷ 0 ∷ 0 ∷ 0 ∷ 0x20 ∷ 0 ∷ 0 ∷ 0xf0 ∷ 0x7f ∷ 0 ∷ 0 ∷ 0 ∷ 0x40 ∷ 0 ∷ 0 ∷ 0xf8 ∷ 0xff ∷ []) (replicate 12 7))
    (answer true (0 ∷ 0 ∷ 0xc0 ∷ 0xff ∷ 1 ∷ 0 ∷ 0xc0 ∷ 0x7f ∷ 2 ∷ 0 ∷ 0xc0 ∷ 0xff ∷ []))
    ∷ row "unequal Customs copied, in bytes" (attribute (custom 2 1 7 9) (custom 2 1 7 8) (1 ∷ 2 ∷ []) (7 ∷ 7 ∷ [])) (answer false (7 ∷ 7 ∷ []))
    ∷ row "a Custom cast as numbers, or its last byte left out" (attribute (custom 2 1 7 9) (custom 2 1 7 9) (1 ∷ 2 ∷ []) (7 ∷ 7 ∷ [])) (answer true (1 ∷ 2 ∷ []))
    ∷ row "the last byte of a copy left out: ByteArray of 3" (attribute (byte_array 3) (byte_array 3) (1 ∷ 2 ∷ 3 ∷ []) (7 ∷ 7 ∷ 7 ∷ [])) (answer true (1 ∷ 2 ∷ 3 ∷ []))
    -- `cast_attribute`, the number lost, and `lost_attribute`: document 02, point 8
    ∷ row "a Vec3 counted once: Vec3u16 256, 1, 257 to Vec3u8" (attribute_lost (code 11) (code 10) (0 ∷ 1 ∷ 1 ∷ 0 ∷ 1 ∷ 1 ∷ []) (7 ∷ 7 ∷ 7 ∷ [])) (lost 2)
    ∷ row "the first component alone counted: Vec3u16 1, 256, 257 to Vec3u8" (attribute_lost (code 11) (code 10) (1 ∷ 0 ∷ 0 ∷ 1 ∷ 1 ∷ 1 ∷ []) (7 ∷ 7 ∷ 7 ∷ [])) (lost 2)
    ∷ row "the kept counted, not the lost: Vec3u16 1, 2, 256 to Vec3u8" (attribute_lost (code 11) (code 10) (1 ∷ 0 ∷ 2 ∷ 0 ∷ 0 ∷ 1 ∷ []) (7 ∷ 7 ∷ 7 ∷ [])) (lost 1)
    ∷ row "a copy of a NaN counted: F32 hex 7F800001" (attribute_lost (code 8) (code 8) (0x01 ∷ 0x00 ∷ 0x80 ∷ 0x7f ∷ []) (replicate 4 7)) (lost 0)
    ∷ row "a NaN to an integer told as kept, in bytes: F32 to I32" (attribute_lost (code 8) (code 5) (0x00 ∷ 0x00 ∷ 0xc0 ∷ 0x7f ∷ []) (replicate 4 7)) (lost 1)
    ∷ row "a NaN to a float counted: F32 to F64" (attribute_lost (code 8) (code 9) (0x00 ∷ 0x00 ∷ 0xc0 ∷ 0x7f ∷ []) (replicate 8 7)) (lost 0)
    ∷ row "kept judged by casting back: U8 255 to I8, in bytes" (attribute_lost (code 0) (code 1) (255 ∷ []) (7 ∷ [])) (lost 1)
    ∷ row "the highest byte first: U16 1 to U8" (attribute_lost (code 2) (code 0) (1 ∷ 0 ∷ []) (7 ∷ [])) (lost 0)
    ∷ row "a number told where nothing was cast: U16 256 to U8 in two bytes" (attribute_lost (code 2) (code 0) (0 ∷ 1 ∷ []) (7 ∷ 8 ∷ [])) unfit
    ∷ row "a copy counted as if the bytes were numbers: ByteArray of 2" (attribute_lost (byte_array 2) (byte_array 2) (255 ∷ 255 ∷ []) (7 ∷ 7 ∷ [])) (lost 0)
    ∷ row "lost_attribute: nothing told as lost" (lost_only (code 2) (code 0) (0 ∷ 1 ∷ [])) (lost 1)
    ∷ row "lost_attribute: a source that is too short counted" (lost_only (code 2) (code 0) (255 ∷ [])) (lost 0)
    ∷ row "lost_attribute: a pair without a cast counted: Vec4u8 to Vec3u8" (lost_only (code 15) (code 10) (1 ∷ 2 ∷ 3 ∷ 4 ∷ [])) (lost 0)
    -- `precision`, `bias`, `infinity`, `sign_bit`, `pattern`, `shift_round`, `low_bits`, `select`, `bits` and `distance` of numbers; `width` of scalar_casts
    ∷ row "precision: the leading digit not counted" (number (prec (format_of Binary32))) (pattern 24)
    ∷ row "precision: of binary32 for binary64" (number (prec (format_of Binary64))) (pattern 53)
    ∷ row "bias: one more" (number (emax (format_of Binary32))) (pattern 127)
    ∷ row "bias: of binary32 for binary64" (number (emax (format_of Binary64))) (pattern 1023)
    ∷ row "infinity: the largest number, binary32" (number (ones (format_of Binary32) * hid (format_of Binary32))) (pattern 0x7f80_0000)
    ∷ row "infinity: of binary32 for binary64" (number (ones (format_of Binary64) * hid (format_of Binary64))) (pattern 0x7ff0_0000_0000_0000)
    ∷ row "sign_bit: of binary32 for binary64" (number (cond true (top (format_of Binary64)) 0)) (pattern 0x8000_0000_0000_0000)
    ∷ row "sign_bit: set where the number is not negative" (number (cond false (top (format_of Binary32)) 0)) (pattern 0)
    ∷ row "pattern: higher bits of a binary32 not cut off" (number (0x1_0000_0001 % 2 ^ format_bits (format_of Binary32))) (pattern 1)
    ∷ row "pattern: a binary64 cut to 32 bits" (number (0x1_0000_0001 % 2 ^ format_bits (format_of Binary64))) (pattern 0x1_0000_0001)
    ∷ row "shift_round: ties away from even, downwards" (number (closest (3 % 2 ^ 63) (2 ^ 1))) (pattern 2)
    ∷ row "shift_round: ties away from even, upwards" (number (closest (5 % 2 ^ 63) (2 ^ 1))) (pattern 2)
    ∷ row "shift_round: the 64th bit counted" (number (closest (0x8000_0000_0000_0001 % 2 ^ 63) (2 ^ 0))) (pattern 1)
    ∷ row "shift_round: by no place at 64" (number (closest (0xffff_ffff_ffff_ffff % 2 ^ 63) (2 ^ 64))) (pattern 0)
    ∷ row "low_bits: one bit more" (number (0x1ff % 2 ^ 8)) (pattern 0xff)
    ∷ row "low_bits: none at 64" (number (0xffff_ffff_ffff_ffff % 2 ^ 64)) (pattern 0xffff_ffff_ffff_ffff)
    ∷ row "select: always the second" (number (cond true 1 2)) (pattern 1)
    ∷ row "select: always the first" (number (cond false 1 2)) (pattern 2)
    ∷ row "bits: in bytes" (number (bits_in W16)) (pattern 16)
    ∷ row "bits: at most 32" (number (bits_in W64)) (pattern 64)
    ∷ row "distance: of a negative number one too small" (number (cond (leb (2 ^ 63) 0xffff_ffff_ffff_ffff) (2 ^ 64 - 0xffff_ffff_ffff_ffff) 0xffff_ffff_ffff_ffff)) (pattern 1)
    ∷ row "distance: of every number as if it were negative" (number (cond (leb (2 ^ 63) 5) (2 ^ 64 - 5) 5)) (pattern 5)
    ∷ row "sign_place: one place too low" (number (sign_bit (format_of Binary64))) (pattern 63)
    ∷ row "sign_place: of binary32 as of binary64" (number (sign_bit (format_of Binary32))) (pattern 31)
    ∷ row "width: in bits" (number (width_of I16)) (pattern 2)
    ∷ row "width: F64 as long as F32" (number (width_of F64)) (pattern 8)
    ∷ []

-- every row holds
abbrev pub RuledOut : Type 0
RuledOut = map found table ≡ map told table
