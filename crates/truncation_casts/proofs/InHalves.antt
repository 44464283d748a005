-- A float from 1/4 on plus 2 ^ (p - 2) - 1/4, p being the format's precision: the sum is rounded to halves, and above the last digit of its
-- pattern is the float's whole part.
use Rattle.std.specs.Prelude.{◌≡◌, ◌≤◌, ◌<◌, ◌+◌, ◌-◌, ◌*◌, ◌^◌, ◌%◌, ◌/◌}
use Rattle.common.specs.Logic.{◌∙◌, sym, ap, refl, subst, ap₂, false, not, ⊎_elim, ℕ, suc, zero, le_trans, lt_of_lt_of_le, le_of_eq, lt_of_le_of_lt, mod-lt, mul-le-mul_right, mod-eq_of_lt, le_of_lt, div-add-mod', mul-lt-mul_of_pos_right, le-add_right, div-div-eq-div-mul, arith, lt-leb, lit≤, T, lit<}
use Rattle.std.proofs.Common.{true≢false, mul-le-mul, sub-le, pow_pos, pow_mono, pow-add}
use native.Mathlib.Nat.{mod-le}
use lib.Arith.{digits_div, digits_mod}
use lib.Ieee.{of_bits, Float, Format, binary32, binary64, prec, emax, low, hid, ones, top, round, add, to_bits, is_nan, nan_bits}
use lib.Ieee.Exact.{HasValue}
use lib.Ieee.Fits.{reach}
use lib.Ieee.Nearest.{closest}
use Rattle.truncation_casts.specs.Truncation.{whole_of}
use Rattle.numbers.proofs.Size.{lt-or-ge}
use Rattle.numbers.proofs.Round.{round-bits, prec-le, bits_fit, far}
use Rattle.numbers.proofs.Closest.{near}
use Rattle.numbers.proofs.Decoding.{number-bits}
use Rattle.numbers.proofs.Machine.{number-round}
use Rattle.numbers.proofs.Sums.{plus, on-top, amount, amount-is, value-of, amount-lt}
use Rattle.truncation_casts.proofs.Powers.{last, Between, last-lt, field-ge, field_lt, field-some, whole-under}

-- ---- z less a fourth of 2 ^ (j + 2), in halves of it and to the nearest: with the last digit cut off, the whole part of z / 2 ^ (j + 2)
module _ (z j : ℕ) (L : 2 ^ j ≤ z) where
  abbrev odd : ℕ
  odd = (z - 2 ^ j) / 2 ^ (j + 1) % 2

  abbrev unit : ℕ
  unit = 2 ^ (j + 2)

  in_halves : closest (z - 2 ^ j) (2 ^ (j + 1)) / 2 ≡ z / unit
  in_halves =
      let w = pow_pos j in
      let two : 2 ^ (j + 1) ≡ 2 ^ j * 2 = pow-add 2 j 1 in
      let four : unit ≡ 2 ^ j * 4 = pow-add 2 j 2 in
      let all : 2 ^ (j + 1) * 2 ≡ unit = omega arith in
      let parts = div-add-mod' z unit in
      ap (λ (x : ℕ). x / 2) (sym (near (z - 2 ^ j) j))
      ∙ div-div-eq-div-mul (z - 2 ^ j + (2 ^ j - 1) + odd) (2 ^ (j + 1)) 2
      ∙ ap (λ (x : ℕ). (z - 2 ^ j + (2 ^ j - 1) + odd) / x) all
      ∙ ⊎_elim
      (λ (h : 0 < z % unit).
      let e : z - 2 ^ j + (2 ^ j - 1) + odd ≡ z / unit * unit + (z % unit - 1 + odd) = omega arith in
      ap (λ (x : ℕ). x / unit) e ∙ digits_div (z / unit) (omega (arith, mod-lt z (pow_pos (j + 2)), mod-lt ((z - 2 ^ j) / 2 ^ (j + 1)) {m = 2} (lit< tt))))
      (λ (h : z % unit ≤ 0).
      let k = before (z / unit) (2 ^ j) (z % unit) z (ap (λ (u : ℕ). z / unit * u + z % unit) (sym four) ∙ parts) h L w in
      let o : odd ≡ 1 = ap₂ (λ (x y : ℕ). x / y % 2) k.1 two ∙ ap (λ (x : ℕ). x % 2) (digits_div (2 * k.0 + 1) {m = 2 ^ j * 2} {r = 2 ^ j} (omega arith)) ∙ omega arith in
      let e : z - 2 ^ j + (2 ^ j - 1) + odd ≡ z = omega arith in
      ap (λ (x : ℕ). x / unit) e)
      (lt-or-ge 0 (z % unit))
    where
      -- below a whole number of units lie an odd number of their halves, and a fourth
      before : (m w r z : ℕ) → m * (w * 4) + r ≡ z → r ≤ 0 → w ≤ z → 0 < w → (k : ℕ) × (z - w ≡ (2 * k + 1) * (w * 2) + w)
      before zero w r z a b c d = absurd (omega arith)
      before (suc k) w r z a b c d = (k, omega arith)

-- ---- the constant, the pattern before that of 2 ^ (p - 2)
abbrev pub pattern : Format → ℕ
pattern f = low f * hid f - 1

constant : (f : Format) → HasValue (of_bits f (pattern f)) false (hid f * 2 ^ (low f - 2 + 1) - 2 ^ (low f - 2)) (2 ^ low f)
constant binary32 = value-of binary32 (pattern binary32) false 148 (2 ^ 23 - 1) refl refl refl (lit< tt)
constant binary64 = value-of binary64 (pattern binary64) false 1073 (2 ^ 52 - 1) refl refl refl (lit< tt)

-- ---- numbers of the formats
numbers : (f : Format) → (low f - 2 + 2 ≡ low f) × (hid f ≡ 2 * 2 ^ (prec f - 2)) × (suc (suc (low f - 2 + 1)) ≤ ones f) × (2 ^ (low f - 2) ≤ hid f * 2 ^ (low f - 2 + 1)) × (9 ≤ prec f)
numbers binary32 = (refl, refl, lit≤ tt, lit≤ tt, lit≤ tt)
numbers binary64 = (refl, refl, lit≤ tt, lit≤ tt, lit≤ tt)

-- ---- the pattern c of a float from 1/4 to 2 ^ (p - 8)
module _ (f : Format) (c : ℕ) (B : Between f c) where
  abbrev x : ℕ
  x = c / hid f

  abbrev t : ℕ
  t = c % hid f

  abbrev j : ℕ
  j = low f - 2

  -- its value in units of the format's smallest value, of which 2 ^ j are 1/4
  abbrev z : ℕ
  z = amount f x t

  abbrev total : Float
  total = add f (of_bits f c) (of_bits f (pattern f))

  under : c < (emax f + (prec f - 2)) * hid f
  under = lt_of_le_of_lt B.1 (mul-lt-mul_of_pos_right {m = emax f + (prec f - 8)} {n = emax f + (prec f - 2)} (omega (arith, (numbers f).4)) (pow_pos (prec f - 1)))

  below_last : c < last f
  below_last = lt_of_lt_of_le under (mul-le-mul_right {m = emax f + (prec f - 2)} {n = ones f} (hid f) (omega (arith, reach f)))

  pub below_top : c < top f
  below_top = lt_of_lt_of_le below_last (le_of_lt (last-lt f))

  pub no_nan : T (not (nan_bits f c))
  no_nan = number-bits f c (le_trans (mod-le c (top f)) (le_of_lt below_last))

  value : HasValue (of_bits f c) false z (2 ^ low f)
  value = value-of f c false x t (sym (lt-leb (top f) c below_top)) (ap (λ (y : ℕ). y / hid f) (sym (mod-eq_of_lt below_top))) refl (field_lt f c (ones f) below_last)

  z-is : z ≡ (hid f + t) * 2 ^ (x - 1)
  z-is = let s = field-some f c B.0 in amount-is f x t (omega arith)

  z-ge : 2 ^ j ≤ z
  z-ge =
      let all : j ≡ prec f - 1 + (emax f - 3) = omega (arith, far f, (numbers f).4) in
      le_trans (le_of_eq (ap (λ (k : ℕ). 2 ^ k) all ∙ pow-add 2 (prec f - 1) (emax f - 3)))
      (le_trans (mul-le-mul (le-add_right (hid f) t) (pow_mono {i = emax f - 3} {j = x - 1} (omega (arith, field-ge f c (emax f - 2) B.0)))) (le_of_eq (sym z-is)))

  rest_lt : z - 2 ^ j < hid f * 2 ^ (j + 1)
  rest_lt =
      let all : prec f + j ≡ prec f - 1 + (j + 1) = omega (arith, (numbers f).4) in
      lt_of_le_of_lt (sub-le z (2 ^ j))
      (lt_of_lt_of_le (amount-lt f x t j (mod-lt c (pow_pos (prec f - 1))) (omega (arith, far f, (numbers f).4, field_lt f c (emax f + (prec f - 2)) under)))
      (le_of_eq (ap (λ (k : ℕ). 2 ^ k) all ∙ pow-add 2 (prec f - 1) (j + 1))))

  -- ---- the sum is 2 ^ (p - 2), and on top of it what c is above 1/4
  total-is : total ≡ round f false (hid f * 2 ^ (j + 1) + (z - 2 ^ j)) (2 ^ low f)
  total-is =
      let e : z + (hid f * 2 ^ (j + 1) - 2 ^ j) ≡ hid f * 2 ^ (j + 1) + (z - 2 ^ j) = omega (arith, z-ge, (numbers f).3) in
      plus f (of_bits f c) (of_bits f (pattern f)) false z (hid f * 2 ^ (j + 1) - 2 ^ j) (2 ^ low f) (pow_pos (low f)) value (constant f) (λ e. absurd (true≢false (sym e)))
      ∙ ap (λ (y : ℕ). round f false y (2 ^ low f)) e

  pub total-number : T (not (is_nan total))
  total-number = subst (λ (v : Float). T (not (is_nan v))) (sym total-is) (number-round f false (hid f * 2 ^ (j + 1) + (z - 2 ^ j)) (2 ^ low f))

  pub total-fits : to_bits f total < 2 ^ 64
  total-fits = lt_of_le_of_lt (le_of_eq (ap (to_bits f) total-is ∙ round-bits f false _ (2 ^ low f) (pow_pos (low f)))) (bits_fit f false _)

  abbrev P : ℕ
  P = 2 ^ (prec f - 2)

  -- THE LAW of the sum
  pub total-whole : to_bits f total / 2 % P ≡ whole_of f c
  total-whole =
      ap (λ (y : ℕ). y / 2 % P) (ap (to_bits f) total-is ∙ on-top f (z - 2 ^ j) (j + 1) rest_lt (numbers f).2 ∙ ap (λ (y : ℕ). suc (j + 1) * y + above) (numbers f).1)
      ∙ ap (λ (y : ℕ). y % P) (halve (suc (j + 1)) P above)
      ∙ ap (λ (y : ℕ). (suc (j + 1) * P + y) % P) (in_halves z j z-ge ∙ ap₂ (λ (y k : ℕ). y / 2 ^ k) z-is (numbers f).0)
      ∙ digits_mod (suc (j + 1)) (whole-under f c (prec f - 2) B.0 under (omega (arith, prec-le f)))
    where
      above : ℕ
      above = closest (z - 2 ^ j) (2 ^ (j + 1))

      halve : (k P q : ℕ) → (k * (2 * P) + q) / 2 ≡ k * P + q / 2
      halve k P q = omega arith
