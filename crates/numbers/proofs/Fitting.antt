-- A cast fits its target, whichever kinds they are.
use Rattle.std.specs.Prelude.{◌≡◌, ◌<◌, ◌-◌, ◌*◌, ◌^◌}
use Rattle.common.specs.Logic.{true, false, ⊎_elim, ℕ, lt_of_lt_of_le, mod-lt, arith, T}
use Rattle.std.proofs.Common.{ℤ, pos, negsuc, pow_pos, pow_mono}
use lib.Ieee.{Float, nan, inf, fin, Format, binary32, binary64, up, down, of_int, of_bits, to_bits, to_signed, nan_bits, fits}
use lib.Signed.{mag}
use lib.Ieee.Bits.{to_bits-lt}
use lib.Ieee.Casts.{to_unsigned-lt, to_signed_in}
use lib.Ieee.Fits.{of_int-fits, nan-fits, inf-fits, round-fits}
use Rattle.common.proofs.Lists.{decide}
use Rattle.numbers.specs.Casts.{Kind, unsigned, signed, float, format_bits, kind_bits, Number, integer, floating, pattern_of, int_to_int, rounded, int_to_float, float_to_signed, cast_float, of_number, number_of, cast_of}
use Rattle.numbers.proofs.Nan.{nan-claim}

int-fits : (w : ℕ) (z : ℤ) → int_to_int w z < 2 ^ w
unfolding int_to_int
int-fits w (pos n) = mod-lt n (pow_pos w)
int-fits w (negsuc n) = omega (arith, pow_pos w)

pub pattern-fits : (w : ℕ) (z : ℤ) → mag z < 2 ^ (w - 1) → pattern_of w z < 2 ^ w
pattern-fits w (pos n) h = lt_of_lt_of_le h (pow_mono {i = w - 1} {j = w} (omega arith))
pattern-fits w (negsuc n) h = omega (arith, pow_pos w)

signed-fits : (w : ℕ) (v : Float) → float_to_signed w v < 2 ^ w
unfolding float_to_signed
signed-fits w v = pattern-fits w (to_signed (w - 1) v) (to_signed_in (w - 1) v)

-- the pattern of a float of the format
bits_fit : (f : Format) (v : Float) → T (fits f v) → to_bits f v < 2 ^ format_bits f
bits_fit binary32 v h = to_bits-lt binary32 v h
bits_fit binary64 v h = to_bits-lt binary64 v h

integer-fits : (f : Format) (z : ℤ) → int_to_float f z < 2 ^ format_bits f
unfolding int_to_float
integer-fits f z = bits_fit f (of_int f z) (of_int-fits f z)

float_fits : (f : Format) (v : Float) → to_bits f (rounded f v) < 2 ^ format_bits f
unfolding rounded
float_fits f nan = bits_fit f nan (nan-fits f)
float_fits f (inf s) = bits_fit f (inf s) (inf-fits f s)
float_fits f (fin s m e) = bits_fit f _ (round-fits f s (m * up e) (down e))

cast-float-fits : (g f : Format) (b : ℕ) → cast_float g f b < 2 ^ format_bits f
unfolding cast_float
cast-float-fits g f b =
    ⊎_elim (λ (e : nan_bits g b ≡ true). (nan-claim.kept g f b e).pattern) (λ (e : nan_bits g b ≡ false). rw e (float_fits f (of_bits g b))) (decide (nan_bits g b))

number_fits : (k : Kind) (v : Number) → of_number k v < 2 ^ kind_bits k
number_fits (unsigned w) (integer z) = int-fits w z
number_fits (unsigned w) (floating v) = to_unsigned-lt w v
number_fits (signed w) (integer z) = int-fits w z
number_fits (signed w) (floating v) = signed-fits w v
number_fits (float f) (integer z) = integer-fits f z
number_fits (float f) (floating v) = float_fits f v

pub cast_fits_lem : (k l : Kind) (x : ℕ) → cast_of k l x < 2 ^ kind_bits l
cast_fits_lem (unsigned v) l x = number_fits l (number_of (unsigned v) x)
cast_fits_lem (signed v) l x = number_fits l (number_of (signed v) x)
cast_fits_lem (float g) (unsigned w) x = number_fits (unsigned w) (number_of (float g) x)
cast_fits_lem (float g) (signed w) x = number_fits (signed w) (number_of (float g) x)
cast_fits_lem (float g) (float f) x = cast-float-fits g f x
