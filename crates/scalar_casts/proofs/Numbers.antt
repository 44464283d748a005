-- Which numbers a cast of scalars keeps, by the two kinds.
use Rattle.std.specs.Prelude.{◌≡◌, ◌⊎◌, ◌<◌, ◌^◌, ◌%◌}
use Rattle.common.specs.Logic.{◌∙◌, sym, ap, ap₂, refl, subst, true, false, Bool, ⊎_elim, inl, inr, ℕ, mod-lt, eqb-true, eqb, lit<, T}
use mathlib.Core.Bool.{true≢false, false≢true}
use lib.Pow.{pow_pos}
use lib.Ieee.{inf, Format, binary32, binary64, eq, is_nan, of_bits, of_fields, odd, size, round, units, to_bits, to_unsigned, to_signed, nan_bits}
use lib.Ieee.Bits.{is_true, of_bits-to_bits, to_bits-lt}
use lib.Ieee.Fits.{inf-fits}
use Rattle.common.proofs.Lists.{decide}
use Rattle.numbers.specs.Casts.{Kind, unsigned, signed, float, format_bits, kind_bits, rounded, float_to_signed, cast_float}
use Rattle.kept_casts.specs.Kept.{value_in, same_number, is_kept, is_float, Has}
use Rattle.kept_casts.proofs.Casting.{Wide, same_number_lem}
use Rattle.kept_casts.proofs.Kept.{same_self, kept-means, kept-has, kept_nan, kept-own}
use Rattle.kept_casts.proofs.Same.{self-same}
use Rattle.scalar_casts.specs.Claims.{KeptClaim}
use Rattle.scalar_casts.specs.Scalars.{code_of, kind_of, bits_of, cast_scalar, keeps_number}
use Rattle.scalar_casts.specs.declared.scalar.Scalar.{Scalar}
use Rattle.scalar_casts.specs.declared.scalar.Scalar.TheVariants.{F32, F64}
use Rattle.scalar_casts.proofs.Scalars.{each, same-scalar, kind-bits, copied}

wide : (s : Scalar) → Wide (kind_of s)
wide = each (λ (s : Scalar). Wide (kind_of s)) (lit< tt) (lit< tt) (lit< tt) (lit< tt) (lit< tt) (lit< tt) (lit< tt) (lit< tt) (lit< tt) (lit< tt)

pub copy-kept : (s : Scalar) (x : ℕ) → keeps_number s s x ≡ true
unfolding keeps_number
copy-kept s x = ap (λ (r : ℕ). same_number (value_in (kind_of s) x) (value_in (kind_of s) r)) (copied s x) ∙ same_self (value_in (kind_of s) x)

-- equal scalars keep everything either way
module _ (a b : Scalar) (x : ℕ) (L : x < 2 ^ bits_of a) where
  at-equal : a ≡ b → keeps_number a b x ≡ is_kept (kind_of a) (kind_of b) x
  at-equal e =
      subst (λ (s : Scalar). keeps_number a s x ≡ is_kept (kind_of a) (kind_of s) x) e
      (copy-kept a x ∙ sym (kept-own (kind_of a) x (wide a) (subst (λ (w : ℕ). x < 2 ^ w) (sym (kind-bits a)) L)))

  at_other : eqb (code_of a) (code_of b) ≡ false → keeps_number a b x ≡ is_kept (kind_of a) (kind_of b) x
  unfolding keeps_number is_kept cast_scalar
  at_other e = rw e refl

  by-kinds : keeps_number a b x ≡ is_kept (kind_of a) (kind_of b) x
  by-kinds = ⊎_elim (λ (e : eqb (code_of a) (code_of b) ≡ true). at-equal (same-scalar a b (eqb-true (code_of a) (code_of b) e))) at_other (decide (eqb (code_of a) (code_of b)))

-- as the code answers
pub keeps-is : (a b : Scalar) (x : ℕ) {k l : Kind} {r : Bool} → k ≡ kind_of a → l ≡ kind_of b → r ≡ is_kept k l (x % 2 ^ kind_bits k) → r ≡ keeps_number a b (x % 2 ^ bits_of a)
keeps-is a b x K L R =
    R ∙ ap₂ (λ (k l : Kind). is_kept k l (x % 2 ^ kind_bits k)) K L ∙ ap (λ (w : ℕ). is_kept (kind_of a) (kind_of b) (x % 2 ^ w)) (kind-bits a)
    ∙ sym (by-kinds a b (x % 2 ^ bits_of a) (mod-lt x (pow_pos (bits_of a))))

-- ---- the claims

pub kept-claim : KeptClaim
kept-claim from to x L = ((λ h. kept-means (kind_of from) (kind_of to) x (sym (by-kinds from to x L) ∙ h)), back)
  where
    back : ((is_nan (value_in (kind_of from) x) ≡ true) × (is_float (kind_of to) ≡ true)) ⊎ Has (kind_of to) (value_in (kind_of from) x) → keeps_number from to x ≡ true
    back (inl n) = by-kinds from to x L ∙ kept_nan (kind_of from) (kind_of to) x n.0 n.1
    back (inr h) = by-kinds from to x L ∙ kept-has (kind_of from) (kind_of to) x (wide to) h

pub nan-lost : (from to : Scalar) (x : ℕ) → x < 2 ^ bits_of from → is_nan (value_in (kind_of from) x) ≡ true → is_float (kind_of to) ≡ false → keeps_number from to x ≡ false
nan-lost from to x L n F = ⊎_elim (λ e. absurd (no ((kept-claim from to x L).0 e))) (λ e. e) (decide (keeps_number from to x))
  where
    no : ((is_nan (value_in (kind_of from) x) ≡ true) × (is_float (kind_of to) ≡ true)) ⊎ Has (kind_of to) (value_in (kind_of from) x) → ⊥
    no (inl q) = true≢false (sym q.1 ∙ F)
    no (inr (y, l, e)) = true≢false (sym n ∙ same_number_lem (value_in (kind_of from) x) (value_in (kind_of to) y) (subst T (sym e) tt))

-- every format has the infinities
infinite : (s : Bool) → is_nan (inf s) ≡ false
unfolding is_nan
infinite s = refl

has-infinity : (l : Kind) (s : Bool) → is_float l ≡ true → Has l (inf s)
has-infinity (unsigned w) s F = absurd (false≢true F)
has-infinity (signed w) s F = absurd (false≢true F)
has-infinity (float f) s F = (to_bits f (inf s), below f, ap (eq (inf s)) (of_bits-to_bits f (inf s) (inf-fits f s)) ∙ is_true (eq (inf s) (inf s)) (self-same (inf s) (infinite s)))
  where
    below : (f : Format) → to_bits f (inf s) < 2 ^ format_bits f
    below binary32 = to_bits-lt binary32 (inf s) (inf-fits binary32 s)
    below binary64 = to_bits-lt binary64 (inf s) (inf-fits binary64 s)

pub infinity-kept : (from to : Scalar) (x : ℕ) (s : Bool) → x < 2 ^ bits_of from → value_in (kind_of from) x ≡ inf s → is_float (kind_of to) ≡ true → keeps_number from to x ≡ true
infinity-kept from to x s L e F = (kept-claim from to x L).1 (inr (subst (Has (kind_of to)) (sym e) (has-infinity (kind_of to) s F)))

-- minus zero, by computation
pub minus-zero : (to : Scalar) → (keeps_number F32 to 0x8000_0000 ≡ true) × (keeps_number F64 to 0x8000_0000_0000_0000 ≡ true)
unfolding keeps_number cast_scalar same_number eq is_nan of_bits of_fields odd size round units to_bits to_unsigned to_signed nan_bits rounded float_to_signed cast_float
minus-zero =
    each (λ (s : Scalar). (keeps_number F32 s 0x8000_0000 ≡ true) × (keeps_number F64 s 0x8000_0000_0000_0000 ≡ true))
    (refl, refl) (refl, refl) (refl, refl) (refl, refl) (refl, refl) (refl, refl) (refl, refl) (refl, refl) (refl, refl) (refl, refl)
