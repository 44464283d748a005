-- What `of_bits` reads from the three fields of a pattern.
use Rattle.std.specs.Prelude.{◌≡◌, ◌≤◌, ◌+◌, ◌-◌, ◌*◌, ◌^◌, ◌%◌, ◌/◌}
use Rattle.common.specs.Logic.{◌∙◌, sym, ap, refl, subst, ap₂, Bool, false, cond, not, ℕ, suc, zero, arith, le-ltb, eq-eqb, ne_eqb, eqb, leb, T}
use lib.Bits.{bit_and, and_mask}
use lib.Pow.{field}
use lib.Ieee.{Float, nan, inf, Format, binary32, binary64, prec, low, hid, ones, top, odd, of_fields, of_bits, nan_bits}
use lib.Ieee.Bits.{nan_bits_above}
use lib.Ieee.Exact.{HasValue, odd_sign}
use Rattle.numbers.proofs.Closest.{unit-is}
use Rattle.numbers.proofs.Round.{prec-le}

-- ---- the fields, as the code takes them out

pub middle : (f : Format) (n : ℕ) → n % top f / hid f ≡ n / hid f % suc (ones f)
middle binary32 n = field n 8 23
middle binary64 n = field n 11 52

-- ---- what the fields are read as

of_zero : (f : Format) (s : Bool) (x t : ℕ) → x ≡ 0 → of_fields f s x t ≡ odd (prec f) s t 0 (low f)
unfolding of_fields
of_zero f s zero t e = refl
of_zero f s (suc x) t e = absurd (omega arith)

of-middle : (f : Format) (s : Bool) (x t : ℕ) → (x ≡ 0 → ⊥) → (x ≡ ones f → ⊥) → of_fields f s x t ≡ odd (prec f) s (hid f + t) (x - 1) (low f)
unfolding of_fields
of-middle f s zero t a b = absurd (a refl)
of-middle f s (suc x) t a b = let e : x ≡ suc x - 1 = omega arith in rw (ne_eqb (suc x) (ones f) b) (ap (λ (k : ℕ). odd (prec f) s (hid f + t) k (low f)) e)

of-last : (f : Format) (s : Bool) (x t : ℕ) → x ≡ ones f → of_fields f s x t ≡ cond (eqb t 0) (inf s) nan
unfolding of_fields
of-last f s zero t e = absurd (omega arith)
of-last f s (suc x) t e = ap (λ (c : Bool). cond c (cond (eqb t 0) (inf s) nan) (odd (prec f) s (hid f + t) x (low f))) (eq-eqb (suc x) (ones f) e)

-- ---- the code's numbers: p, the leading digit's weight, and the digits
module _ (f : Format) (b p : ℕ) (P : p ≡ prec f) where
  pub lead_is : 1 * 2 ^ (p - 1) % 2 ^ 64 ≡ hid f
  lead_is = ap (λ (x : ℕ). 1 * 2 ^ (x - 1) % 2 ^ 64) P ∙ unit-is 0 (prec f - 1) (omega (arith, prec-le f))

  pub digits-is : bit_and b (1 * 2 ^ (p - 1) % 2 ^ 64 - 1) ≡ b % hid f
  digits-is = ap (λ (x : ℕ). bit_and b (x - 1)) lead_is ∙ and_mask b (prec f - 1)

-- ---- what is read, by the fields x and t: a value in units of the format's smallest, an infinity, or a NaN
module _ (f : Format) (b : ℕ) (s : Bool) (x t : ℕ) (S : s ≡ leb (top f) b) (X : x ≡ b % top f / hid f) (D : t ≡ b % hid f) where
  as_fields : of_bits f b ≡ of_fields f s x t
  unfolding of_bits
  as_fields = ap₂ (λ (y z : ℕ). of_fields f (leb (top f) b) y z) (sym X) (sym D) ∙ ap (λ (c : Bool). of_fields f c x t) (sym S)

  pub read_low : x ≡ 0 → HasValue (of_bits f b) s (t * 2 ^ 0) (2 ^ low f)
  read_low e = subst (λ (v : Float). HasValue v s (t * 2 ^ 0) (2 ^ low f)) (sym (as_fields ∙ of_zero f s x t e)) (odd_sign (prec f) s t 0 (low f))

  pub read-middle : (m k : ℕ) → m ≡ hid f + t → k ≡ x - 1 → (x ≡ 0 → ⊥) → (x ≡ ones f → ⊥) → HasValue (of_bits f b) s (m * 2 ^ k) (2 ^ low f)
  read-middle m k M K a c =
      subst (λ (v : Float). HasValue v s (m * 2 ^ k) (2 ^ low f)) (sym (as_fields ∙ of-middle f s x t a c))
      (subst (λ (y : ℕ). HasValue (odd (prec f) s (hid f + t) (x - 1) (low f)) s y (2 ^ low f)) (sym (ap₂ (λ (y z : ℕ). y * 2 ^ z) M K)) (odd_sign (prec f) s (hid f + t) (x - 1) (low f)))

  pub read-infinite : x ≡ ones f → t ≡ 0 → of_bits f b ≡ inf s
  read-infinite e z = as_fields ∙ of-last f s x t e ∙ ap (λ (c : Bool). cond c (inf s) nan) (eq-eqb t 0 z)

  pub read-nan : x ≡ ones f → (t ≡ 0 → ⊥) → of_bits f b ≡ nan
  read-nan e n = as_fields ∙ of-last f s x t e ∙ ap (λ (c : Bool). cond c (inf s) nan) (ne_eqb t 0 n)

-- ---- up to an infinity, without its sign, a pattern is no NaN
module _ (f : Format) (b : ℕ) (H : b % top f ≤ ones f * hid f) where
  pub no_nan : nan_bits f b ≡ false
  no_nan = nan_bits_above f b ∙ le-ltb (ones f * hid f) (b % top f) H

  pub number-bits : T (not (nan_bits f b))
  number-bits = subst (λ (c : Bool). T (not c)) (sym no_nan) tt
