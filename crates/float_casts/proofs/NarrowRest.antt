-- binary64 to binary32 outside of binary32's normal numbers. Below them the sum with 2 ^ -97 rounds to binary32's smallest values: it is a
-- binary64 whose last digit is 2 ^ -149. From 2 ^ 128 on there is only the infinity; a NaN is cast by its fields.
use Rattle.std.specs.Prelude.{◌≡◌, ◌⊎◌, ◌≤◌, ◌<◌, ◌+◌, ◌-◌, ◌*◌, ◌^◌, ◌%◌, ◌/◌}
use Rattle.common.specs.Logic.{◌∙◌, sym, ap, refl, subst, ap₂, true, Bool, false, cond, not, ⊎_elim, inl, inr, ℕ, min, le_trans, lt_of_lt_of_le, le_of_eq, lt_of_le_of_lt, mod-lt, mod-eq_of_lt, le_of_lt, mul_assoc, le-add_right, arith, lt-ltb, le-ltb, le-leb, lt-leb, ltb-false, leb, ltb, lit≤, T, lit<}
use mathlib.Core.Bool.{true≢false}
use native.Mathlib.Nat.{add_comm}
use lib.Pow.{pow_pos, shl_lt, shr_lt, mod-mod-pow}
use lib.Ieee.{Float, binary32, binary64, hid, ones, top, round, add, of_bits, to_bits, is_nan, nan_bits}
use lib.Ieee.Digits.{size-le}
use lib.Ieee.Nearest.{closest, closest_same}
use lib.Ieee.Order.{drop, kept}
use Rattle.numbers.specs.Casts.{cast_nan, cast_float}
use Rattle.float_casts.specs.Narrowing.{normal_in32}
use Rattle.numbers.proofs.Size.{lt-or-ge}
use Rattle.numbers.proofs.Round.{sign, round-bits}
use Rattle.numbers.proofs.Closest.{closest-le}
use Rattle.numbers.proofs.Decoding.{number-bits, read-infinite}
use Rattle.numbers.proofs.Value.{cast-nan, cast-infinite, cast-finite}
use Rattle.numbers.proofs.Machine.{number-round}
use Rattle.numbers.proofs.Sums.{plus, on-top, amount, value-of, amount-lt}
use Rattle.float_casts.proofs.Narrow.{over-is}

-- ---- n units of binary64 below 2 ^ -126, by those of binary32
module _ (n : ℕ) (N : n < 2 ^ 948) where
  none_dropped : drop 24 (n * 2 ^ 149) (2 ^ 1074) ≡ 0
  none_dropped = omega (arith, size-le (n * 2 ^ 149 / 2 ^ 1074) 23 (shr_lt 23 1074 (shl_lt 948 149 N)))

  nearest-is : kept 24 (n * 2 ^ 149) (2 ^ 1074) ≡ closest n (2 ^ 925)
  nearest-is =
      ap (λ (x : ℕ). closest (n * 2 ^ 149) (2 ^ 1074 * 2 ^ x)) none_dropped
      ∙ closest_same (n * 2 ^ 149) (2 ^ 1074 * 2 ^ 0) n (2 ^ 925) (pow_pos 1074) (pow_pos 925) (mul_assoc n (2 ^ 149) (2 ^ 925))

  nearest-small : closest n (2 ^ 925) ≤ 2 ^ 23
  nearest-small = closest-le n (2 ^ 23) (2 ^ 925) (pow_pos 925) (le_of_lt N)

  small-bits : (s : Bool) → to_bits binary32 (round binary32 s n (2 ^ 1074)) ≡ sign binary32 s + closest n (2 ^ 925)
  small-bits s =
      let e : min (0 * 2 ^ 23 + closest n (2 ^ 925)) (255 * 2 ^ 23) ≡ closest n (2 ^ 925) = omega (arith, nearest-small) in
      round-bits binary32 s n (2 ^ 1074) (pow_pos 1074)
      ∙ ap₂ (λ (x y : ℕ). sign binary32 s + min (x * 2 ^ 23 + y) (255 * 2 ^ 23)) none_dropped nearest-is
      ∙ ap (λ (x : ℕ). sign binary32 s + x) e

-- ---- the sum with 2 ^ -97, of a pattern below that of 2 ^ -126
abbrev pub lifted : ℕ → Float
lifted x = add binary64 (of_bits binary64 x) (of_bits binary64 0x39e0_0000_0000_0000)

module _ (x : ℕ) (L : x < 897 * 2 ^ 52) where
  abbrev amount-of : ℕ
  amount-of = amount binary64 (x % top binary64 / hid binary64) (x % hid binary64)

  field-le : x % 2 ^ 63 / 2 ^ 52 ≤ 896
  field-le = omega arith

  amount-small : amount-of < 2 ^ 948
  amount-small = amount-lt binary64 (x % top binary64 / hid binary64) (x % hid binary64) 895 (mod-lt x (pow_pos 52)) field-le

  lifted-is : lifted x ≡ round binary64 false (hid binary64 * 2 ^ 925 + amount-of) (2 ^ 1074)
  lifted-is =
      plus binary64 (of_bits binary64 x) (of_bits binary64 0x39e0_0000_0000_0000) false amount-of (hid binary64 * 2 ^ 925) (2 ^ 1074) (pow_pos 1074)
      (value-of binary64 x false _ _ (sym (lt-leb (top binary64) x (lt_of_lt_of_le L (lit≤ tt)))) refl refl (lt_of_le_of_lt field-le (lit< tt)))
      (value-of binary64 0x39e0_0000_0000_0000 false 926 0 refl refl refl (lit< tt))
      (λ e. absurd (true≢false (sym e)))
      ∙ ap (λ (y : ℕ). round binary64 false y (2 ^ 1074)) (add_comm amount-of (hid binary64 * 2 ^ 925))

  lifted-bits : to_bits binary64 (lifted x) ≡ 0x39e0_0000_0000_0000 + closest amount-of (2 ^ 925)
  lifted-bits =
      ap (to_bits binary64) lifted-is
      ∙ on-top binary64 amount-of 925 (lt_of_lt_of_le amount-small (lit≤ tt)) (lit≤ tt)

  pub small-number : T (not (nan_bits binary64 x))
  small-number = number-bits binary64 x (omega arith)

  pub lifted-number : T (not (is_nan (lifted x)))
  lifted-number = subst (λ (v : Float). T (not (is_nan v))) (sym lifted-is) (number-round binary64 false (hid binary64 * 2 ^ 925 + amount-of) (2 ^ 1074))

  pub lifted-from : 0x39e0_0000_0000_0000 ≤ to_bits binary64 (lifted x)
  lifted-from = le_trans (le-add_right 0x39e0_0000_0000_0000 (closest amount-of (2 ^ 925))) (le_of_eq (sym lifted-bits))

  above-is : to_bits binary64 (lifted x) - 0x39e0_0000_0000_0000 ≡ closest amount-of (2 ^ 925)
  above-is = omega (arith, lifted-bits)

  above-le : to_bits binary64 (lifted x) - 0x39e0_0000_0000_0000 ≤ 2 ^ 23
  above-le = le_trans (le_of_eq above-is) (nearest-small amount-of amount-small)

-- ---- what is cast, by the pattern without its sign
module _ (b : ℕ) where
  abbrev negative : Bool
  negative = leb (top binary64) b

  small_is : (h : b % 2 ^ 63 < 897 * 2 ^ 52) → to_bits binary64 (lifted (b % 2 ^ 63)) - 0x39e0_0000_0000_0000 + sign binary32 negative ≡ cast_float binary64 binary32 b
  small_is h =
      cast-finite binary64 binary32 b negative (amount-of (b % 2 ^ 63) h) 1074 _
      (value-of binary64 b negative _ _ refl (sym same-field) (mod-mod-pow b 11 52) (lt_of_le_of_lt (field-le (b % 2 ^ 63) h) (lit< tt))) refl
      (add_comm _ (sign binary32 negative)
      ∙ ap (λ (y : ℕ). sign binary32 negative + y) (above-is (b % 2 ^ 63) h)
      ∙ sym (small-bits (amount-of (b % 2 ^ 63) h) (amount-small (b % 2 ^ 63) h) negative))
    where
      same-field : b % top binary64 / hid binary64 ≡ b % 2 ^ 63 % top binary64 / hid binary64
      same-field = ap (λ (y : ℕ). y / 2 ^ 52) (sym (mod-eq_of_lt (mod-lt b (pow_pos 63))))

  large_is : 1151 * 2 ^ 52 ≤ b % 2 ^ 63 → b % 2 ^ 63 ≤ 2047 * 2 ^ 52 → ones binary32 * hid binary32 + sign binary32 negative ≡ cast_float binary64 binary32 b
  large_is l u =
      let x = b % 2 ^ 63 in
      let ge : 1151 ≤ x / 2 ^ 52 = omega arith in
      add_comm (ones binary32 * hid binary32) (sign binary32 negative)
      ∙ ⊎_elim
      (λ (h : x < 2047 * 2 ^ 52). over-is b (b % top binary64 / hid binary64) (b % hid binary64) refl refl (le_trans (lit≤ tt) ge) ge (omega arith))
      (λ (h : 2047 * 2 ^ 52 ≤ x).
      let last : x / 2 ^ 52 ≡ 2047 = omega arith in
      let none : b % 2 ^ 52 ≡ 0 = omega arith in
      cast-infinite binary64 binary32 b negative (read-infinite binary64 b negative _ _ refl refl refl last none))
      (lt-or-ge x (2047 * 2 ^ 52))

  none_is : 2047 * 2 ^ 52 < b % 2 ^ 63 → cast_nan binary64 binary32 b ≡ cast_float binary64 binary32 b
  none_is h = cast-nan binary64 binary32 b h

  -- what is not below the normal numbers is above them
  beyond : normal_in32 (b * 2 ^ 1 % 2 ^ 64) ≡ false → 897 * 2 ^ 52 ≤ b % 2 ^ 63 → 1151 * 2 ^ 52 ≤ b % 2 ^ 63
  beyond p h =
      let lower : 897 * 2 ^ 53 ≤ b * 2 ^ 1 % 2 ^ 64 = omega arith in
      let upper : 1151 * 2 ^ 53 ≤ b * 2 ^ 1 % 2 ^ 64 =
      ltb-false (b * 2 ^ 1 % 2 ^ 64) 0x8fe0_0000_0000_0000
      (sym (ap (λ (c : Bool). cond c (ltb (b * 2 ^ 1 % 2 ^ 64) 0x8fe0_0000_0000_0000) false) (le-leb 0x7020_0000_0000_0000 (b * 2 ^ 1 % 2 ^ 64) lower)) ∙ p) in
      omega arith

-- ---- the code's numbers: a is the pattern without its sign, x what the sum takes, and y what it gives or the infinity
module _ (a x : ℕ) (X : x ≡ cond (ltb a 0x3810_0000_0000_0000) a 0) where
  pub taken-lt : x < 897 * 2 ^ 52
  taken-lt =
      ⊎_elim (λ (h : a < 897 * 2 ^ 52). lt_of_le_of_lt (le_of_eq (X ∙ ap (λ (c : Bool). cond c a 0) (lt-ltb a (897 * 2 ^ 52) h))) h)
      (λ (h : 897 * 2 ^ 52 ≤ a). lt_of_le_of_lt (le_of_eq (X ∙ ap (λ (c : Bool). cond c a 0) (le-ltb a (897 * 2 ^ 52) h))) (lit< tt))
      (lt-or-ge a (897 * 2 ^ 52))

  module _ (y s j : ℕ) (n : Bool) (Y : y ≡ cond (ltb a 0x3810_0000_0000_0000) (to_bits binary64 (lifted x) - 0x39e0_0000_0000_0000) j) (J : j ≡ ones binary32 * hid binary32) (S : s ≡ sign binary32 n) where
    pub rest-fits : y + s < 2 ^ 64
    rest-fits = go (ltb a 0x3810_0000_0000_0000) (to_bits binary64 (lifted x) - 0x39e0_0000_0000_0000) n Y S (above-le x taken-lt)
      where
        go : (c : Bool) (l : ℕ) (n : Bool) → y ≡ cond c l j → s ≡ sign binary32 n → l ≤ 2 ^ 23 → y + s < 2 ^ 64
        go true l true p q h = omega arith
        go true l false p q h = omega arith
        go false l true p q h = omega arith
        go false l false p q h = omega arith

    pub rest-is : (b i z r : ℕ) → normal_in32 (b * 2 ^ 1 % 2 ^ 64) ≡ false
        → a ≡ b % 2 ^ 63 → n ≡ leb (top binary64) b → i ≡ ones binary64 * hid binary64 → z ≡ cast_nan binary64 binary32 b → r ≡ cond (leb a i) (y + s) z → r ≡ cast_float binary64 binary32 b
    rest-is b i z r P A N I Z R = R ∙ go (lt-or-ge (ones binary64 * hid binary64) a)
      where
        with-sign : s ≡ sign binary32 (leb (top binary64) b)
        with-sign = S ∙ ap (sign binary32) N

        number : b % 2 ^ 63 ≤ 2047 * 2 ^ 52 → (a < 897 * 2 ^ 52) ⊎ (897 * 2 ^ 52 ≤ a) → y + s ≡ cast_float binary64 binary32 b
        number u (inl h) =
            let t = lt-ltb a (897 * 2 ^ 52) h in
            ap₂ ◌+◌ (Y ∙ ap (λ (c : Bool). cond c (to_bits binary64 (lifted x) - 0x39e0_0000_0000_0000) j) t ∙ ap (λ (v : ℕ). to_bits binary64 (lifted v) - 0x39e0_0000_0000_0000) (X ∙ ap (λ (c : Bool). cond c a 0) t ∙ A)) with-sign
            ∙ small_is b (lt_of_le_of_lt (le_of_eq (sym A)) h)
        number u (inr h) =
            ap₂ ◌+◌ (Y ∙ ap (λ (c : Bool). cond c (to_bits binary64 (lifted x) - 0x39e0_0000_0000_0000) j) (le-ltb a (897 * 2 ^ 52) h) ∙ J) with-sign
            ∙ large_is b (beyond b P (le_trans h (le_of_eq A))) u

        go : (2047 * 2 ^ 52 < a) ⊎ (a ≤ 2047 * 2 ^ 52) → cond (leb a i) (y + s) z ≡ cast_float binary64 binary32 b
        go (inl h) = ap (λ (c : Bool). cond c (y + s) z) (ap (leb a) I ∙ lt-leb a (2047 * 2 ^ 52) h) ∙ Z ∙ none_is b (lt_of_lt_of_le h (le_of_eq A))
        go (inr h) = ap (λ (c : Bool). cond c (y + s) z) (ap (leb a) I ∙ le-leb a (2047 * 2 ^ 52) h) ∙ number (le_trans (le_of_eq (sym A)) h) (lt-or-ge a (897 * 2 ^ 52))
