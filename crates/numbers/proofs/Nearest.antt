-- An integer of up to 64 digits as a float: its digits are brought to the top of 64 bits, and those below the leading one are rounded to as many
-- as the format has.
use Rattle.std.specs.Prelude.{◌≡◌, ◌≤◌, ◌<◌, ◌+◌, ◌-◌, ◌*◌, ◌^◌, ◌%◌}
use Rattle.common.specs.Logic.{◌∙◌, sym, ap, ap₂, false, cond, ⊎_elim, ℕ, suc, le_trans, lt_of_lt_of_le, le_of_eq, le_of_lt, mod-lt, mod-eq_of_lt, mul-one, one-mul, zero-mul, add-mul, pow-succ', arith, eq-eqb, ne_eqb, eqb, zero-lt-suc}
use lib.Bits.{bit_and, and_mask}
use Rattle.std.proofs.Common.{pos, pow_pos, pow_mono, pow-add, shl_lt}
use lib.Pow as pow
use lib.Ieee.{Format, binary32, binary64, prec, emax, low, hid, size, round, of_int, to_bits}
use lib.Ieee.Digits.{size-lt, size-le, size_reaches}
use lib.Ieee.Fits.{two}
use lib.Ieee.Nearest.{closest, closest_same}
use lib.Ieee.Scale.{round_same}
use Rattle.common.proofs.Digits.{size-pos}
use Rattle.numbers.specs.Casts.{int_to_float}
use Rattle.numbers.proofs.Size.{lt-or-ge, times-pow}
use Rattle.numbers.proofs.Round.{prec-le, far, zero_is}
use Rattle.numbers.proofs.Closest.{closest-le}
use Rattle.numbers.proofs.Sums.{on-top}

module _ (x : ℕ) (B : x < 2 ^ 64) where
  abbrev n : ℕ
  n = x * 2 ^ (64 - size x)

  size_64 : size x ≤ 64
  size_64 = size-le x 64 B

  n-lt : n < 2 ^ 64
  n-lt = let e : size x + (64 - size x) ≡ 64 = omega (arith, size_64) in lt_of_lt_of_le (shl_lt (size x) (64 - size x) (size-lt x)) (pow_mono (le_of_eq e))

  -- the shift's count by its low six bits: 0 has none to shift
  pub shift_is : (k : ℕ) → k ≡ size x → x * 2 ^ bit_and (64 - k) 63 % 2 ^ 64 ≡ n
  shift_is k K =
      ap (λ (j : ℕ). x * 2 ^ j % 2 ^ 64) (and_mask (64 - k) 6 ∙ ap (λ (z : ℕ). (64 - z) % 64) K)
      ∙ ⊎_elim
      (λ (h : 0 < x). let e : (64 - size x) % 64 ≡ 64 - size x = omega (arith, size-pos x h, size_64) in rw e (mod-eq_of_lt n-lt))
      (λ (h : x ≤ 0).
      let e : x ≡ 0 = omega arith in
      let none : (j : ℕ) → x * 2 ^ j ≡ 0 = λ j. ap (λ (y : ℕ). y * 2 ^ j) e ∙ zero-mul (2 ^ j) in
      ap (λ (y : ℕ). y % 2 ^ 64) (none ((64 - size x) % 64)) ∙ sym (none (64 - size x)))
      (lt-or-ge 0 x)

-- ---- an x that is not 0, as 2 ^ (s - 1) and t, the digits below the leading one
module _ (f : Format) (x : ℕ) (B : x < 2 ^ 64) (X : 0 < x) where
  abbrev s : ℕ
  s = size x

  abbrev t : ℕ
  t = x - 2 ^ (s - 1)

  -- x in units of the format's smallest value has so many digits more than the format
  abbrev more : ℕ
  more = s + low f - prec f

  some : 0 < s
  some = size-pos x X

  parts : 2 ^ (s - 1) + t ≡ x
  parts = omega (arith, size_reaches x (s - 1) (omega (arith, some)))

  t-lt : t < 2 ^ (s - 1)
  t-lt = let e : s ≡ suc (s - 1) = omega (arith, some) in omega (arith, size-lt x, ap (λ (j : ℕ). 2 ^ j) e ∙ pow-succ' 2 (s - 1), parts)

  -- a power of two and t, times a power of two
  times : (j : ℕ) → 2 ^ (s - 1 + j) + t * 2 ^ j ≡ x * 2 ^ j
  times j = ap (λ (y : ℕ). y + t * 2 ^ j) (pow-add 2 (s - 1) j) ∙ sym (add-mul (2 ^ (s - 1)) t (2 ^ j)) ∙ ap (λ (y : ℕ). y * 2 ^ j) parts

  -- below the top of 64 bits stands t
  below : x * 2 ^ (64 - s) % 2 ^ 63 ≡ t * 2 ^ (64 - s)
  below =
      let e : s - 1 + (64 - s) ≡ 63 = omega (arith, some, size_64 x B) in
      ap (λ (y : ℕ). y % 2 ^ 63) (sym (times (64 - s)) ∙ ap (λ (j : ℕ). 2 ^ j + t * 2 ^ (64 - s)) e ∙ ap (λ (y : ℕ). y + t * 2 ^ (64 - s)) (sym (one-mul (2 ^ 63))))
      ∙ pow.low 1 63 (lt_of_lt_of_le (shl_lt (s - 1) (64 - s) t-lt) (le_of_eq (ap (λ (j : ℕ). 2 ^ j) e)))

  -- it is rounded at the same digit
  same : closest (x * 2 ^ (64 - s) % 2 ^ 63) (2 ^ (64 - prec f)) ≡ closest (t * 2 ^ low f) (2 ^ more)
  same =
      let e : 64 - s + more ≡ low f + (64 - prec f) = omega (arith, size_64 x B, prec-le f, far f) in
      ap (λ (y : ℕ). closest y (2 ^ (64 - prec f))) below
      ∙ closest_same (t * 2 ^ (64 - s)) (2 ^ (64 - prec f)) (t * 2 ^ low f) (2 ^ more) (pow_pos (64 - prec f)) (pow_pos more)
      (times-pow t (64 - s) more ∙ ap (λ (j : ℕ). t * 2 ^ j) e ∙ sym (times-pow t (low f) (64 - prec f)))

  -- there it is t on top of hid * 2 ^ more
  lead : 2 ^ (s - 1 + low f) ≡ hid f * 2 ^ more
  lead = let e : s - 1 + low f ≡ prec f - 1 + more = omega (arith, some, far f, two f) in ap (λ (j : ℕ). 2 ^ j) e ∙ pow-add 2 (prec f - 1) more

  some_is : (emax f + s - 1) * hid f + closest (x * 2 ^ (64 - s) % 2 ^ 63) (2 ^ (64 - prec f)) ≡ int_to_float f (pos x)
  unfolding int_to_float of_int
  some_is =
      let e : emax f + s - 1 ≡ suc more = omega (arith, some, far f, two f) in
      ap₂ (λ (j q : ℕ). j * hid f + q) e same
      ∙ sym (on-top f (t * 2 ^ low f) more (lt_of_lt_of_le (shl_lt (s - 1) (low f) t-lt) (le_of_eq lead)) (omega (arith, size_64 x B, far f, two f)))
      ∙ ap (λ (y : ℕ). to_bits f (round f false y (2 ^ low f))) (ap (λ (y : ℕ). y + t * 2 ^ low f) (sym lead) ∙ times (low f))
      ∙ ap (to_bits f) (round_same f false (x * 2 ^ low f) (2 ^ low f) x 1 (pow_pos (low f)) (zero-lt-suc 0) (mul-one (x * 2 ^ low f)))

-- ---- as the code makes it: p and o are the format's numbers, k digits, and q what was rounded
module _ (f : Format) (x : ℕ) (B : x < 2 ^ 64) (p o k q : ℕ) (P : p ≡ prec f) (O : o ≡ emax f) (K : k ≡ size x) (Q : q ≡ closest (x * 2 ^ (64 - size x) % 2 ^ 63) (2 ^ (64 - p))) where
  digits-is : q ≡ closest (x * 2 ^ (64 - size x) % 2 ^ 63) (2 ^ (64 - prec f))
  digits-is = Q ∙ ap (λ (j : ℕ). closest (x * 2 ^ (64 - size x) % 2 ^ 63) (2 ^ (64 - j))) P

  digits_le : q ≤ hid f
  digits_le =
      let e : 63 ≡ prec f - 1 + (64 - prec f) = omega (arith, two f, prec-le f) in
      le_trans (le_of_eq digits-is)
      (closest-le _ (hid f) (2 ^ (64 - prec f)) (pow_pos (64 - prec f))
      (le_trans (le_of_lt (mod-lt (x * 2 ^ (64 - size x)) (pow_pos 63))) (le_of_eq (ap (λ (j : ℕ). 2 ^ j) e ∙ pow-add 2 (prec f - 1) (64 - prec f)))))

  field_is : (o + k - 1) * 2 ^ (p - 1) % 2 ^ 64 ≡ (emax f + size x - 1) * hid f
  field_is = ap₂ (λ (y j : ℕ). y * 2 ^ (j - 1) % 2 ^ 64) (ap₂ (λ (y j : ℕ). y + j - 1) O K) P ∙ go f
    where
      go : (f : Format) → (emax f + size x - 1) * 2 ^ (prec f - 1) % 2 ^ 64 ≡ (emax f + size x - 1) * hid f
      go binary32 = omega (arith, size_64 x B)
      go binary64 = omega (arith, size_64 x B)

  pub pattern-fits : (o + k - 1) * 2 ^ (p - 1) % 2 ^ 64 + q < 2 ^ 64
  pattern-fits = rw field_is (go f digits_le)
    where
      go : (f : Format) → q ≤ hid f → (emax f + size x - 1) * hid f + q < 2 ^ 64
      go binary32 h = omega (arith, size_64 x B)
      go binary64 h = omega (arith, size_64 x B)

  pub pattern-is : cond (eqb x 0) 0 ((o + k - 1) * 2 ^ (p - 1) % 2 ^ 64 + q) ≡ int_to_float f (pos x)
  unfolding int_to_float of_int
  pattern-is =
      ap₂ (λ (y d : ℕ). cond (eqb x 0) 0 (y + d)) field_is digits-is
      ∙ ⊎_elim
      (λ (h : 0 < x). rw (ne_eqb x 0 (λ (e : x ≡ 0). omega arith)) (some_is f x B h))
      (λ (h : x ≤ 0). let e : x ≡ 0 = omega arith in rw (eq-eqb x 0 e, e) (sym (zero_is f false)))
      (lt-or-ge 0 x)
