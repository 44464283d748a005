-- What a reader may believe of the casts between floats beyond the contracts; proved in proofs/Nan.antt.
use Rattle.std.specs.Prelude.{◌≡◌, ◌<◌, ◌-◌, ◌^◌}
use Rattle.common.specs.Logic.{true, ℕ}
use Rattle.std.specs.Float.{Format}
use Rattle.std.specs.Float.Ieee.{prec, nan_bits}
use Rattle.numbers.specs.Casts.{format_bits, bit, cast_float}

-- r is what the NaN b of the format g becomes in the format f, fact by fact. IEEE 754 has the sign in a pattern's highest bit, then the
-- exponent, then prec - 1 digits, of which a NaN's first is the quiet bit and the others are the payload: places are reckoned from that here,
-- and not taken from Casts.
pub record NanKept (g f : Format) (b r : ℕ) : Type 0 where
  -- it is a pattern of the target
  pub pattern : r < 2 ^ format_bits f
  -- of a NaN, never of an infinity
  pub nan : nan_bits f r ≡ true
  -- "keep the sign"
  pub sign : bit (format_bits f - 1) r ≡ bit (format_bits g - 1) b
  -- "set the quiet bit"
  pub quiet : bit (prec f - 2) r ≡ 1
  -- "keep the 22 payload bits below it, which are the top 22 in F64": counted down from the quiet bit
  pub payload : (i : ℕ) → i < 22 → bit (prec f - 3 - i) r ≡ bit (prec g - 3 - i) b
  -- "widening fills with zeros": every digit below those 22
  pub zeros : (i : ℕ) → i < prec f - 24 → bit i r ≡ 0

-- document 02, point 3, of any two formats. Between equal ones nothing is cast: `cast_scalar` copies
pub record NanClaim : Type 0 where
  pub kept : (g f : Format) (b : ℕ) → nan_bits g b ≡ true → NanKept g f b (cast_float g f b)
  -- and of no other pattern do these facts hold
  pub only : (g f : Format) (b r : ℕ) → nan_bits g b ≡ true → NanKept g f b r → r ≡ cast_float g f b
