-- From the laws of each class to any two kinds.
use Rattle.std.specs.Prelude.{◌≡◌, ◌⊎◌, ◌*◌, ◌^◌, ◌%◌, ◌<◌}
use Rattle.common.specs.Logic.{refl, sym, ◌∙◌, subst, Bool, true, false, inl, inr, ℕ, le_of_eq, lt_of_le_of_lt, mod-lt, T}
use mathlib.Core.Bool.{false≢true}
use Rattle.std.proofs.Common.{ℤ, pow_pos}
use lib.Ieee.{Float, Format, binary32, binary64, top, eq, is_nan, of_bits, fits}
use lib.Ieee.Bits.{is_true, of_bits-fits}
use lib.Ieee.Fits.{fits_widens}
use Rattle.numbers.specs.Casts.{Kind, float, format_bits, rounded}
use Rattle.kept_casts.specs.Kept.{exactly, value_in, is_kept, is_float, Has}
use Rattle.kept_casts.specs.Steps.{integer_kind, integer_of, in_range, Tells}
use Rattle.kept_casts.proofs.Same.{self-same, rounded-held}
use Rattle.kept_casts.proofs.Kept.{kept-means, kept-has, kept_nan}
use Rattle.kept_casts.proofs.Ranges.{HasInt, range-has, has-range}
use Rattle.kept_casts.proofs.FewDigits.{agree, value-is}
use Rattle.kept_casts.proofs.Fractions.{kept-rounded}
use Rattle.kept_casts.proofs.Wholes.{integer-kind, wide-kind}

-- the low bits of x are a pattern of the float
pub float-cut : (f : Format) (x : ℕ) {y : ℕ} → y ≡ x % 2 ^ format_bits f → y < 2 * top f
float-cut binary32 x Y = lt_of_le_of_lt (le_of_eq Y) (mod-lt x (pow_pos 32))
float-cut binary64 x Y = lt_of_le_of_lt (le_of_eq Y) (mod-lt x (pow_pos 64))

-- ---- float to float: a format has the numbers of its own, and binary64 those of binary32
has_all : (g f : Format) (x : ℕ) → T (fits f (of_bits g x)) → true ≡ is_kept (float g) (float f) x
has_all g f x F = go (is_nan (of_bits g x)) refl
  where
    go : (b : Bool) → is_nan (of_bits g x) ≡ b → true ≡ is_kept (float g) (float f) x
    go true e = sym (kept_nan (float g) (float f) x e refl)
    go false e = let v = of_bits g x in sym (kept-rounded (float g) f x e ∙ is_true (eq v (rounded f v)) (rounded-held f v v F (self-same v e)))

pub same_format : (f : Format) (x : ℕ) → true ≡ is_kept (float f) (float f) x
same_format f x = has_all f f x (of_bits-fits f x)

pub from-single : (f : Format) (x : ℕ) → true ≡ is_kept (float binary32) (float f) x
from-single binary32 x = same_format binary32 x
from-single binary64 x = has_all binary32 binary64 x (fits_widens (of_bits binary32 x) (of_bits-fits binary32 x))

-- ---- integer to integer
module _ (s t : Bool) (v w x : ℕ) (W : 0 < w) where
  told : Tells (is_kept (integer_kind s v) (integer_kind t w) x) (HasInt (integer_kind t w) (integer_of s v x))
  unfolding HasInt
  told = (there, back)
    where
      k : Kind
      k = integer_kind s v

      l : Kind
      l = integer_kind t w

      z : ℤ
      z = integer_of s v x

      e : value_in (integer_kind s v) x ≡ exactly (integer_of s v x)
      e = value-is s v x

      pick : ((is_nan (value_in k x) ≡ true) × (is_float l ≡ true)) ⊎ Has l (value_in k x) → HasInt l z
      pick (inl n) = absurd (false≢true (sym (integer-kind t w) ∙ n.1))
      pick (inr (y, b, h)) = (y, b, subst (λ (u : Float). T (eq u (value_in l y))) e (subst T (sym h) tt))

      there : is_kept k l x ≡ true → HasInt l z
      there h = pick (kept-means k l x h)

      back : HasInt l z → is_kept k l x ≡ true
      back (y, b, h) = kept-has k l x (wide-kind t w W) (y, b, is_true (eq (value_in k x) (value_in l y)) (subst (λ (u : Float). T (eq u (value_in l y))) (sym e) h))

  pub range-kept : in_range (integer_kind t w) (integer_of s v x) ≡ is_kept (integer_kind s v) (integer_kind t w) x
  range-kept =
      let l = integer_kind t w in
      let z = integer_of s v x in
      agree (in_range l z) (is_kept (integer_kind s v) l x) ((λ h. range-has l z (integer-kind t w) (wide-kind t w W) h), (λ h. has-range l z (wide-kind t w W) h)) told
