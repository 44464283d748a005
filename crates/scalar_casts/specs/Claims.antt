-- What a reader may believe of the casts of scalars beyond the contracts; each is proved in proofs/Claims.antt.
use Rattle.std.specs.Prelude.{◌≡◌, ◌⊎◌, ◌↔◌, ◌<◌, ◌^◌}
use Rattle.common.specs.Logic.{true, false, Bool, ℕ}
use Rattle.std.specs.Float.{inf, binary32, binary64}
use Rattle.std.specs.Float.Ieee.{is_nan, nan_bits}
use Rattle.numbers.specs.Claims.{NanKept}
use Rattle.kept_casts.specs.Kept.{value_in, is_float, Has}
use Rattle.scalar_casts.specs.Scalars.{kind_of, bits_of, cast_scalar, keeps_number}
use Rattle.scalar_casts.specs.declared.scalar.Scalar.{Scalar}
use Rattle.scalar_casts.specs.declared.scalar.Scalar.TheVariants.{F32, F64}

-- a cast fits its target: a pattern of `from` becomes a pattern of `to`
abbrev pub CastInRange : Type 0
CastInRange = (from to : Scalar) (x : ℕ) → x < 2 ^ bits_of from → cast_scalar from to x < 2 ^ bits_of to

-- document 02, point 3, of the scalars
pub record ScalarNanClaim : Type 0 where
  pub narrowed : (b : ℕ) → nan_bits binary64 b ≡ true → NanKept binary64 binary32 b (cast_scalar F64 F32 b)
  pub widened : (b : ℕ) → nan_bits binary32 b ≡ true → NanKept binary32 binary64 b (cast_scalar F32 F64 b)
  -- equal scalars are copied: every bit stays, a signalling NaN's too
  pub copied : (s : Scalar) (b : ℕ) → cast_scalar s s b ≡ b

-- Document 02, point 8, said without the cast: a cast keeps exactly the numbers that its target has, and a NaN exactly where the target is a
-- float. So no other pattern of the target would have done better than the cast's.
abbrev pub KeptClaim : Type 0
KeptClaim =
    (from to : Scalar) (x : ℕ) → x < 2 ^ bits_of from
    → (keeps_number from to x ≡ true) ↔ (((is_nan (value_in (kind_of from) x) ≡ true) × (is_float (kind_of to) ≡ true)) ⊎ Has (kind_of to) (value_in (kind_of from) x))

-- document 02's cases, over all patterns
pub record KeptCasesClaim : Type 0 where
  -- "A NaN to a float counts as kept"
  pub nan_to_float : (from to : Scalar) (x : ℕ) → x < 2 ^ bits_of from → is_nan (value_in (kind_of from) x) ≡ true → is_float (kind_of to) ≡ true → keeps_number from to x ≡ true
  -- "a NaN to an integer as lost"
  pub nan_to_integer : (from to : Scalar) (x : ℕ) → x < 2 ^ bits_of from → is_nan (value_in (kind_of from) x) ≡ true → is_float (kind_of to) ≡ false → keeps_number from to x ≡ false
  -- "minus zero to 0 [..] as kept": the pattern of the sign alone, to every scalar
  pub minus_zero32 : (to : Scalar) → keeps_number F32 to 0x8000_0000 ≡ true
  pub minus_zero64 : (to : Scalar) → keeps_number F64 to 0x8000_0000_0000_0000 ≡ true
  -- "infinity to infinity as kept", with either sign
  pub infinity : (from to : Scalar) (x : ℕ) (s : Bool) → x < 2 ^ bits_of from → value_in (kind_of from) x ≡ inf s → is_float (kind_of to) ≡ true → keeps_number from to x ≡ true
  -- equal scalars are copied, and keep everything
  pub copied : (s : Scalar) (x : ℕ) → keeps_number s s x ≡ true
