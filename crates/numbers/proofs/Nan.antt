-- What a NaN becomes as a float of a format, bit by bit.
use Rattle.std.specs.Prelude.{◌≡◌, ◌≤◌, ◌<◌, ◌+◌, ◌-◌, ◌*◌, ◌^◌, ◌%◌, ◌/◌}
use Rattle.common.specs.Logic.{◌∙◌, sym, ap, refl, subst, ap₂, true, not, ⊎_elim, ℕ, suc, zero, lt_of_lt_of_le, le_of_eq, mod-lt, div-eq_of_lt, arith, lt-ltb, eqb-true, eqb}
use native.Mathlib.Nat.{mod-one}
use Rattle.std.proofs.Common.{pow_pos, shr-shr}
use lib.Pow.{low, field, mod-pow-add, mod-mod-pow}
use lib.Ieee.{Format, binary32, binary64, prec, hid, ones, top, nan_bits}
use lib.Ieee.Bits.{nan_bits_above}
use Rattle.numbers.specs.Casts.{format_bits, bit, sign_bit, quiet_bit, lowest_kept_bit, kept_payload, cast_nan, cast_float}
use Rattle.numbers.specs.Claims.{NanKept, NanClaim}
use Rattle.common.proofs.Lists.{and_left}
use Rattle.numbers.proofs.Size.{lt-or-ge}
use Rattle.numbers.proofs.Value.{cast-nan-bits}

-- ---- bits

-- a bit of the w low bits
low_bit : (w i x : ℕ) → i < w → bit i (x % 2 ^ w) ≡ bit i x
low_bit w i x h = subst (λ (v : ℕ). bit i (x % 2 ^ v) ≡ bit i x) above (ap (λ (y : ℕ). y % 2) (field x (w - suc i + 1) i) ∙ mod-mod-pow (x / 2 ^ i) (w - suc i) 1)
  where
    above : w - suc i + 1 + i ≡ w
    above = omega arith

-- a bit of the w bits from the bit a on
middle-bit : (w a i x : ℕ) → i < w → bit (a + i) x ≡ bit i (x / 2 ^ a % 2 ^ w)
middle-bit w a i x h = ap (λ (y : ℕ). y % 2) (sym (shr-shr x a i)) ∙ sym (low_bit w i (x / 2 ^ a) h)

zero_bit : (i : ℕ) → bit i 0 ≡ 0
zero_bit i = ap (λ (y : ℕ). y % 2) (div-eq_of_lt (pow_pos i))

-- ---- where a format has the bits of a NaN
sign_at : (f : Format) → format_bits f - 1 ≡ sign_bit f
sign_at binary32 = refl
sign_at binary64 = refl

-- the sign's weight
pub sign_top : (f : Format) {r : ℕ} → r ≡ sign_bit f → 2 ^ r ≡ top f
sign_top binary32 e = ap (λ (n : ℕ). 2 ^ n) e
sign_top binary64 e = ap (λ (n : ℕ). 2 ^ n) e

quiet_at : (f : Format) → prec f - 2 ≡ quiet_bit f
quiet_at binary32 = refl
quiet_at binary64 = refl

payload-at : (f : Format) (i : ℕ) → i < 22 → prec f - 3 - i ≡ lowest_kept_bit f + (21 - i)
payload-at binary32 i h = omega arith
payload-at binary64 i h = omega arith

zeros-at : (f : Format) → prec f - 24 ≡ lowest_kept_bit f
zeros-at binary32 = refl
zeros-at binary64 = refl

-- ---- a pattern with the sign s and the payload p
abbrev nan_of : Format → ℕ → ℕ → ℕ
nan_of f s p = s * 2 ^ sign_bit f + ones f * hid f + 2 ^ quiet_bit f + p * 2 ^ lowest_kept_bit f

module _ (s p : ℕ) (S : s < 2) (P : p < 2 ^ 22) where
  of-pattern : (f : Format) → nan_of f s p < 2 ^ format_bits f
  of-pattern binary32 = omega arith
  of-pattern binary64 = omega arith

  above-infinity : (f : Format) → ones f * hid f < nan_of f s p % top f
  above-infinity binary32 = lt_of_lt_of_le (omega arith) (le_of_eq (sym (ap (λ (y : ℕ). y % 2 ^ 31) (omega arith) ∙ low s 31 {lo = 255 * 2 ^ 23 + 2 ^ 22 + p} (omega arith))))
  above-infinity binary64 = lt_of_lt_of_le (omega arith) (le_of_eq (sym (ap (λ (y : ℕ). y % 2 ^ 63) (omega arith) ∙ low s 63 {lo = 2047 * 2 ^ 52 + 2 ^ 51 + p * 2 ^ 29} (omega arith))))

  sign-is : (f : Format) → bit (sign_bit f) (nan_of f s p) ≡ s
  sign-is binary32 = omega arith
  sign-is binary64 = omega arith

  quiet_is : (f : Format) → bit (quiet_bit f) (nan_of f s p) ≡ 1
  quiet_is binary32 = omega arith
  quiet_is binary64 = omega arith

  payload-is : (f : Format) → kept_payload f (nan_of f s p) ≡ p
  payload-is binary32 = omega arith
  payload-is binary64 = omega arith

  rest-is : (f : Format) → nan_of f s p % 2 ^ lowest_kept_bit f ≡ 0
  rest-is binary32 = omega arith
  rest-is binary64 = omega arith

-- ---- the claim
kept : (g f : Format) (b r : ℕ) → r ≡ nan_of f (bit (sign_bit g) b) (kept_payload g b) → NanKept g f b r
kept g f b r R =
    record {
      pattern = subst (λ (x : ℕ). x < 2 ^ format_bits f) (sym R) (of-pattern s p S P f);
      nan = nan_bits_above f r ∙ lt-ltb (ones f * hid f) (r % top f) (subst (λ (x : ℕ). ones f * hid f < x % top f) (sym R) (above-infinity s p S P f));
      sign = ap₂ bit (sign_at f) R ∙ sign-is s p S P f ∙ sym (ap (λ (k : ℕ). bit k b) (sign_at g));
      quiet = ap₂ bit (quiet_at f) R ∙ quiet_is s p S P f;
      payload = λ i h. in-payload f r i h ∙ ap (bit (21 - i)) (ap (kept_payload f) R ∙ payload-is s p S P f) ∙ sym (in-payload g b i h);
      zeros = λ i h. sym (low_bit (prec f - 24) i r h) ∙ ap (bit i) (ap₂ (λ (k x : ℕ). x % 2 ^ k) (zeros-at f) R ∙ rest-is s p S P f) ∙ zero_bit i;
    }
  where
    s : ℕ
    s = bit (sign_bit g) b

    p : ℕ
    p = kept_payload g b

    S : s < 2
    S = mod-lt (b / 2 ^ sign_bit g) (pow_pos 1)

    P : p < 2 ^ 22
    P = mod-lt (b / 2 ^ lowest_kept_bit g) (pow_pos 22)

    in-payload : (f : Format) (x i : ℕ) → i < 22 → bit (prec f - 3 - i) x ≡ bit (21 - i) (kept_payload f x)
    in-payload f x i h = ap (λ (k : ℕ). bit k x) (payload-at f i h) ∙ middle-bit 22 (lowest_kept_bit f) (21 - i) x (omega arith)

cast-kept : (g f : Format) (b : ℕ) → nan_bits g b ≡ true → NanKept g f b (cast_float g f b)
unfolding cast_nan
cast-kept g f b h = kept g f b (cast_float g f b) (sym (cast-nan-bits g f b h))

-- ---- no other pattern

-- two numbers with the same w low bits
same_low : (w x y : ℕ) → ((i : ℕ) → i < w → bit i x ≡ bit i y) → x % 2 ^ w ≡ y % 2 ^ w
same_low zero x y h = mod-one x ∙ sym (mod-one y)
same_low (suc w) x y h =
    subst (λ (v : ℕ). x % 2 ^ v ≡ y % 2 ^ v) {x = 1 + w} (omega arith)
    (mod-pow-add x 1 w ∙ ap₂ (λ (a c : ℕ). a * 2 ^ w + c) (h w (omega arith)) (same_low w x y (λ i l. h i (omega arith))) ∙ sym (mod-pow-add y 1 w))

exponent-is : (f : Format) (r : ℕ) → nan_bits f r ≡ true → r % top f / hid f ≡ ones f
unfolding nan_bits
exponent-is f r h = eqb-true (r % top f / hid f) (ones f) (and_left (eqb (r % top f / hid f) (ones f)) (not (eqb (r % hid f) 0)) h)

-- a NaN's pattern, by its sign and its digits
fields : (f : Format) (r : ℕ) → r < 2 ^ format_bits f → r % top f / hid f ≡ ones f → r ≡ bit (format_bits f - 1) r * top f + ones f * hid f + r % hid f
fields binary32 r h e = omega arith
fields binary64 r h e = omega arith

module _ (g f : Format) (b r q : ℕ) (K : NanKept g f b r) (L : NanKept g f b q) where
  same-digit : (i : ℕ) → i < prec f - 1 → bit i r ≡ bit i q
  same-digit i h =
      ⊎_elim
      (λ (l : i < prec f - 24). K.zeros i l ∙ sym (L.zeros i l))
      (λ (m : prec f - 24 ≤ i). ⊎_elim
      (λ (l : i < prec f - 2).
      let j = prec f - 3 - i in
      let n : j < 22 = omega arith in
      let e : prec f - 3 - j ≡ i = omega arith in
      subst (λ (k : ℕ). bit k r ≡ bit k q) e (K.payload j n ∙ sym (L.payload j n)))
      (λ (l : prec f - 2 ≤ i). subst (λ (k : ℕ). bit k r ≡ bit k q) {x = prec f - 2} {y = i} (omega arith) (K.quiet ∙ sym L.quiet))
      (lt-or-ge i (prec f - 2)))
      (lt-or-ge i (prec f - 24))

  same : r ≡ q
  same =
      fields f r K.pattern (exponent-is f r K.nan)
      ∙ ap₂ (λ (x y : ℕ). x * top f + ones f * hid f + y) (K.sign ∙ sym L.sign) (same_low (prec f - 1) r q same-digit)
      ∙ sym (fields f q L.pattern (exponent-is f q L.nan))

pub nan-claim : NanClaim
nan-claim = record { kept = cast-kept; only = λ g f b r h K. same g f b r (cast_float g f b) K (cast-kept g f b h) }
