-- Document 01, section Cast: what a number becomes as another type, from the Rust Reference and IEEE 754 (the logic's `lib.Ieee`); of a NaN
-- as a float, document 02, point 3.
-- A float is its pattern in a format, an unsigned integer itself, a signed integer of w bits its two's complement pattern.
use Rattle.std.specs.Prelude.{◌+◌, ◌-◌, ◌*◌, ◌^◌, ◌%◌, ◌/◌, ℤ, pos, negsuc, from_bits, to_bits, Float}
use Rattle.common.specs.Logic.{cond, ℕ, suc, ltb}
use Rattle.std.specs.Float.{nan, inf, fin, Format, binary32, binary64}
use Rattle.std.specs.Float.Ieee.{hid, ones, up, down, round, of_int, to_unsigned, to_signed, nan_bits}
use Rattle.numbers.specs.declared.format.Format.{Format as Coded}
use Rattle.numbers.specs.declared.format.Format.TheVariants.{Binary32, Binary64}

-- the format that the code's enum stands for
abbrev pub format_of : Coded → Format
format_of Binary32 = binary32
format_of Binary64 = binary64

-- of the two formats, the one that the given one is not
abbrev pub other : Format → Format
other binary32 = binary64
other binary64 = binary32

-- how many bits a pattern of the format has
abbrev pub format_bits : Format → ℕ
format_bits binary32 = 32
format_bits binary64 = 64

-- ---- integers: two's complement in w bits

-- the integer whose pattern is b, and the pattern of an integer
abbrev pub signed_of : ℕ → ℕ → ℤ
signed_of w b = cond (ltb b (2 ^ (w - 1))) (pos b) (negsuc (2 ^ w - suc b))

abbrev pub pattern_of : ℕ → ℤ → ℕ
pattern_of w (pos n) = n
pattern_of w (negsuc n) = 2 ^ w - suc n

-- "Integer to integer keeps the low bits, sign extended from a signed source": the w lowest digits of the two's complement
unfoldable pub int_to_int : ℕ → ℤ → ℕ
int_to_int w (pos n) = n % 2 ^ w
int_to_int w (negsuc n) = 2 ^ w - suc (n % 2 ^ w)

-- ---- floats

-- a float's value in the format f: to the nearest, ties to even, with the subnormals and the infinities of f
unfoldable pub rounded : Format → Float → Float
rounded f nan = nan
rounded f (inf s) = inf s
rounded f (fin s m e) = round f s (m * up e) (down e)

-- "To a float: nearest, ties to even": `of_int` rounds once, into f
unfoldable pub int_to_float : Format → ℤ → ℕ
int_to_float f z = to_bits f (of_int f z)

-- "Float to integer: towards zero, held at the target's ends, NaN gives 0": `to_unsigned` for w bits, and for w bits with a sign
unfoldable pub float_to_signed : ℕ → Float → ℕ
float_to_signed w v = pattern_of w (to_signed (w - 1) v)

-- ---- NaN: document 02, point 3

-- the bit of b with the weight 2 ^ i
abbrev pub bit : ℕ → ℕ → ℕ
bit i b = b / 2 ^ i % 2

-- which bit of a format is the sign, and which is a NaN's quiet bit, by IEEE 754
abbrev pub sign_bit : Format → ℕ
sign_bit binary32 = 31
sign_bit binary64 = 63

abbrev pub quiet_bit : Format → ℕ
quiet_bit binary32 = 22
quiet_bit binary64 = 51

-- the lowest of "the 22 payload bits below it", which are kept
abbrev pub lowest_kept_bit : Format → ℕ
lowest_kept_bit binary32 = 0
lowest_kept_bit binary64 = 29

-- these 22 bits, which are the whole payload in F32 and "the top 22 in F64", as a number
abbrev pub kept_payload : Format → ℕ → ℕ
kept_payload g b = b / 2 ^ lowest_kept_bit g % 2 ^ 22

-- "A NaN cast to a float shall keep the sign, set the quiet bit and keep the 22 payload bits below it [..]; widening fills with zeros": sign,
-- exponent, quiet bit and payload, from the NaN b of the format g
unfoldable pub cast_nan : Format → Format → ℕ → ℕ
cast_nan g f b = bit (sign_bit g) b * 2 ^ sign_bit f + ones f * hid f + 2 ^ quiet_bit f + kept_payload g b * 2 ^ lowest_kept_bit f

-- a float of the format g to the format f: a NaN has no number to round
unfoldable pub cast_float : Format → Format → ℕ → ℕ
cast_float g f b = cond (nan_bits g b) (cast_nan g f b) (to_bits f (rounded f (from_bits g b)))

-- ---- every type of numbers

-- integers of a number of bits, and floats of a format
pub data Kind : Type 0 where
  unsigned signed : ℕ → Kind
  float : Format → Kind

-- how many bits a pattern of the kind has
abbrev pub kind_bits : Kind → ℕ
kind_bits (unsigned w) = w
kind_bits (signed w) = w
kind_bits (float f) = format_bits f

pub data Number : Type 0 where
  integer : ℤ → Number
  floating : Float → Number

-- the number that a pattern stands for
abbrev pub number_of : Kind → ℕ → Number
number_of (unsigned w) x = integer (pos x)
number_of (signed w) x = integer (signed_of w x)
number_of (float f) x = floating (from_bits f x)

-- the pattern of a number as a value of the kind
abbrev pub of_number : Kind → Number → ℕ
of_number (unsigned w) (integer z) = int_to_int w z
of_number (unsigned w) (floating v) = to_unsigned w v
of_number (signed w) (integer z) = int_to_int w z
of_number (signed w) (floating v) = float_to_signed w v
of_number (float f) (integer z) = int_to_float f z
of_number (float f) (floating v) = to_bits f (rounded f v)

-- Rust's `as` on patterns: the number, as a value of the other kind; from float to float with document 02's NaN
abbrev pub cast_of : Kind → Kind → ℕ → ℕ
cast_of (unsigned w) l x = of_number l (number_of (unsigned w) x)
cast_of (signed w) l x = of_number l (number_of (signed w) x)
cast_of (float g) (unsigned w) x = of_number (unsigned w) (number_of (float g) x)
cast_of (float g) (signed w) x = of_number (signed w) (number_of (float g) x)
cast_of (float g) (float f) x = cast_float g f x
