-- The casts between the two formats: binary64 among the normal numbers of binary32 and above them, and every binary32 as a binary64.
use Rattle.std.specs.Prelude.{◌≡◌, ◌&&◌, ◌≤◌, ◌<◌, ◌+◌, ◌-◌, ◌*◌, ◌^◌, ◌%◌, ◌/◌}
use Rattle.common.specs.Logic.{◌∙◌, sym, ap, refl, subst, ap₂, true, Bool, false, cond, ⊎_elim, ℕ, suc, zero, min, compare, le_trans, lt_of_lt_of_le, le_of_eq, lt_of_le_of_lt, mod-lt, zero-mul, sub-add_cancel, mul-one, arith, leb-true, ltb-true, eqb, leb, ltb, lit≤, T, ltb→lt}
use lib.Dec.{leb→le}
use lib.IntN.{ℤ, pos, negsuc}
use lib.Pow.{pow-add, pow_mono, pow_pos, shl_lt, split, mod-mod-pow}
use lib.Ieee.{Float, nan, inf, fin, Format, binary32, binary64, prec, emax, low, hid, ones, top, up, down, size, round, of_bits, to_bits, is_nan, fits}
use lib.Ieee.Bits.{nan_bits_is, of_bits-fits}
use lib.Ieee.Exact.{HasValue, round_exact}
use lib.Ieee.Fits.{and_l, and_r, fits_widens, down_pos}
use lib.Ieee.Nearest.{closest, nearest-ge}
use lib.Ieee.Scale.{round_same}
use Rattle.common.proofs.Lists.{clash, decide}
use Rattle.common.proofs.Digits.{size_exact}
use Rattle.numbers.specs.Casts.{rounded, cast_float}
use Rattle.float_casts.specs.Narrowing.{normal_in32}
use Rattle.numbers.proofs.Size.{pow_le_back, times-pow}
use Rattle.numbers.proofs.Round.{sign, bits_of_value, kept-le, scaled-bits}
use Rattle.numbers.proofs.Closest.{right}
use Rattle.numbers.proofs.Sums.{closest-plus}
use Rattle.numbers.proofs.Decoding.{read-middle, no_nan}
use Rattle.numbers.proofs.Value.{cast-finite, number}

-- ---- binary64 to binary32, from the normal numbers of binary32 on: the exponent's field e, and the digits t
module _ (b e t : ℕ) (X : e ≡ b % top binary64 / hid binary64) (D : t ≡ b % hid binary64) (A : 897 ≤ e) where
  abbrev m : ℕ
  m = 2 ^ 52 + t

  abbrev k : ℕ
  k = e - 897

  abbrev l : ℕ
  l = e - 1 + 149

  abbrev negative : Bool
  negative = leb (top binary64) b

  t-lt : t < 2 ^ 52
  t-lt = lt_of_le_of_lt (le_of_eq D) (mod-lt b (pow_pos 52))

  -- the pattern without its sign
  low-is : b % 2 ^ 63 ≡ (e - 1) * 2 ^ 52 + m
  low-is =
      let e-is : e * 2 ^ 52 + t ≡ (e - 1) * 2 ^ 52 + (2 ^ 52 + t) = omega arith in
      sym (split (b % 2 ^ 63) 52) ∙ ap₂ (λ (x y : ℕ). x * 2 ^ 52 + y) (sym X) (mod-mod-pow b 11 52 ∙ sym D) ∙ e-is

  whole_part : closest (b % 2 ^ 63) (2 ^ 29) ≡ (e - 1) * 2 ^ 23 + closest m (2 ^ 29)
  whole_part =
      let units : (e - 1) * 2 ^ 52 + m ≡ (e - 1) * 2 ^ 23 * 2 ^ 29 + m = omega arith in
      ap (λ (x : ℕ). closest x (2 ^ 29)) (low-is ∙ units) ∙ closest-plus ((e - 1) * 2 ^ 23) m (2 ^ 29) (pow_pos 29) (omega arith)

  size_is : size m ≡ 53
  size_is = size_exact 52 m (omega arith) (omega (arith, t-lt))

  k-is : k ≡ size m + l - (1074 + 24)
  k-is = omega (arith, size_is)

  m-pos : 0 < m
  m-pos = omega arith

  kept-is : closest m (2 ^ 29) ≡ closest (m * 2 ^ l) (2 ^ (1074 + k))
  kept-is = let gap : 29 ≡ 1074 + k - l = omega arith in ap (λ (x : ℕ). closest m (2 ^ x)) gap ∙ right m l (1074 + k) (omega arith)

  small : closest m (2 ^ 29) ≤ 2 ^ 24
  small = le_trans (le_of_eq kept-is) (kept-le binary32 m 1074 l k m-pos k-is)

  pub moved : 896 * 2 ^ 23 ≤ closest (b % 2 ^ 63) (2 ^ 29)
  moved = rw whole_part (omega arith)

  -- what the cast writes
  abbrev written : ℕ
  written = min (k * hid binary32 + closest (m * 2 ^ l) (2 ^ (1074 + k))) (ones binary32 * hid binary32)

  cast_is : e < ones binary64 → sign binary32 negative + written ≡ cast_float binary64 binary32 b
  cast_is h =
      cast-finite binary64 binary32 b negative (m * 2 ^ (e - 1)) 1074 _
      (read-middle binary64 b negative e t refl X D m (e - 1) refl refl (λ q. omega arith) (λ q. omega arith)) refl
      (sym (scaled-bits binary32 m 1074 l k m-pos k-is negative (e - 1) refl))

  -- from 2 ^ 128 on it is the infinity
  pub over-is : 1151 ≤ e → e < ones binary64 → sign binary32 negative + ones binary32 * hid binary32 ≡ cast_float binary64 binary32 b
  over-is B h =
      let lead : 2 ^ 23 ≤ closest m (2 ^ 29) = le_trans (omega arith) (nearest-ge (m / 2 ^ 29) (compare (m % 2 ^ 29 * 2) (2 ^ 29))) in
      let all : 255 * 2 ^ 23 ≡ min (k * 2 ^ 23 + closest m (2 ^ 29)) (255 * 2 ^ 23) = omega arith in
      ap (λ (x : ℕ). sign binary32 negative + x) (all ∙ ap (λ (x : ℕ). min (k * hid binary32 + x) (ones binary32 * hid binary32)) kept-is) ∙ cast_is h

  -- below it nothing is brought to the infinity
  module _ (B : e < 1151) where
    value-is : closest (b % 2 ^ 63) (2 ^ 29) - 896 * 2 ^ 23 ≡ written
    value-is =
        let e-is : (e - 1) * 2 ^ 23 + closest m (2 ^ 29) - 896 * 2 ^ 23 ≡ min (k * 2 ^ 23 + closest m (2 ^ 29)) (255 * 2 ^ 23) = omega (arith, small) in
        ap (λ (x : ℕ). x - 896 * 2 ^ 23) whole_part ∙ e-is ∙ ap (λ (x : ℕ). min (k * hid binary32 + x) (ones binary32 * hid binary32)) kept-is

    -- moved by less, and cut to 32 bits
    cut-is : (r : ℕ) → r ≡ closest (b % 2 ^ 63) (2 ^ 29) → (r - 0xc000_0000) % 2 ^ 32 ≡ written
    cut-is r R = ap (λ (x : ℕ). (x - 0xc000_0000) % 2 ^ 32) R ∙ omega (arith, moved, value-is)

    pub narrow-is : (n : Bool) (s r c : ℕ) → n ≡ negative → s ≡ sign binary32 n → r ≡ closest (b % 2 ^ 63) (2 ^ 29) → c ≡ (r - 0xc000_0000) % 2 ^ 32 → s + c ≡ cast_float binary64 binary32 b
    narrow-is n s r c N S R C = ap₂ ◌+◌ (S ∙ ap (sign binary32) N) (C ∙ cut-is r R) ∙ cast_is (lt_of_lt_of_le B (lit≤ tt))

-- the test, on the pattern without its sign
pub normal-from : (b : ℕ) (r : Bool) → r ≡ normal_in32 (b * 2 ^ 1 % 2 ^ 64) → r ≡ true
    → (897 ≤ b % top binary64 / hid binary64) × (b % top binary64 / hid binary64 < 1151)
normal-from b r R h =
    let x = b * 2 ^ 1 % 2 ^ 64 in
    ⊎_elim
    (λ (q : leb 0x7020_0000_0000_0000 x ≡ true).
    let p : ltb x 0x8fe0_0000_0000_0000 ≡ true = sym (ap (λ (c : Bool). cond c (ltb x 0x8fe0_0000_0000_0000) false) q) ∙ sym R ∙ h in
    let l : 897 * 2 ^ 53 ≤ x = leb-true 0x7020_0000_0000_0000 x q in
    let u : x < 1151 * 2 ^ 53 = ltb-true x 0x8fe0_0000_0000_0000 p in
    (omega arith, omega arith))
    (λ (q : leb 0x7020_0000_0000_0000 x ≡ false). clash refl (sym (sym (ap (λ (c : Bool). cond c (ltb x 0x8fe0_0000_0000_0000) false) q) ∙ sym R ∙ h)))
    (decide (leb 0x7020_0000_0000_0000 x))

-- ---- a value that the format holds is not changed by rounding into it
module _ (f : Format) where
  held : (s : Bool) (q num den j : ℕ) → 0 < den → q < 2 ^ prec f → q * 2 ^ j < 2 ^ (low f + suc (emax f)) → num * 2 ^ low f ≡ q * 2 ^ j * den
      → HasValue (round f s num den) s (q * 2 ^ j) (2 ^ low f)
  held s q num den j d a b e =
      subst (λ (x : Float). HasValue x s (q * 2 ^ j) (2 ^ low f)) (sym (round_same f s num den (q * 2 ^ j) (2 ^ low f) d (pow_pos (low f)) e))
      (round_exact f s (q * 2 ^ j) (2 ^ low f) q j (pow_pos (low f)) a b refl)

  same_bits : (s : Bool) (m j : ℕ) (e : ℤ) → m < 2 ^ prec f → m * 2 ^ j < 2 ^ (low f + suc (emax f)) → m * up e * 2 ^ low f ≡ m * 2 ^ j * down e
      → to_bits f (round f s (m * up e) (down e)) ≡ to_bits f (fin s m e)
  same_bits s m j e a b h =
      bits_of_value f s (round f s (m * up e) (down e)) (m * 2 ^ j) (held s m (m * up e) (down e) j (down_pos e) a b h)
      ∙ sym (bits_of_value f s (fin s m e) (m * 2 ^ j) (refl, h))

  finite : (s : Bool) (m : ℕ) (e : ℤ) → m < 2 ^ prec f → down e ≤ 2 ^ low f → m * up e < 2 ^ suc (emax f) * down e → to_bits f (round f s (m * up e) (down e)) ≡ to_bits f (fin s m e)
  finite s m (pos k) a b c =
      let turn : suc (emax f) + low f ≡ low f + suc (emax f) = omega arith in
      same_bits s m (k + low f) (pos k) a
      (lt_of_le_of_lt (le_of_eq (sym (times-pow m k (low f)))) (lt_of_lt_of_le (shl_lt (suc (emax f)) (low f) (lt_of_lt_of_le c (le_of_eq (mul-one (2 ^ suc (emax f)))))) (pow_mono (le_of_eq turn))))
      (times-pow m k (low f) ∙ sym (mul-one (m * 2 ^ (k + low f))))
  finite s m (negsuc k) a b c =
      let g : suc k ≤ low f = pow_le_back (suc k) (low f) b in
      let turn : suc (emax f) + suc k + (low f - suc k) ≡ low f + suc (emax f) = omega arith in
      same_bits s m (low f - suc k) (negsuc k) a
      (lt_of_lt_of_le (shl_lt (suc (emax f) + suc k) (low f - suc k) (lt_of_le_of_lt (le_of_eq (sym (mul-one m))) (lt_of_lt_of_le c (le_of_eq (sym (pow-add 2 (suc (emax f)) (suc k))))))) (pow_mono (le_of_eq turn)))
      (ap (λ (x : ℕ). x * 2 ^ low f) (mul-one m) ∙ ap (λ (x : ℕ). m * 2 ^ x) (sym (sub-add_cancel g)) ∙ sym (times-pow m (low f - suc k) (suc k)))

  pub same : (v : Float) → T (fits f v) → is_nan v ≡ false → to_bits f (rounded f v) ≡ to_bits f v
  unfolding rounded fits is_nan
  same nan t n = clash refl n
  same (inf s) t n = refl
  same (fin s zero e) t n =
      same_bits s 0 0 e (pow_pos (prec f)) (lt_of_le_of_lt (le_of_eq (zero-mul (2 ^ 0))) (pow_pos (low f + suc (emax f))))
      (ap (λ (x : ℕ). x * 2 ^ low f) (zero-mul (up e)) ∙ zero-mul (2 ^ low f) ∙ sym (ap (λ (x : ℕ). x * down e) (zero-mul (2 ^ 0)) ∙ zero-mul (down e)))
  same (fin s (suc m) e) t n =
      let o : Bool = eqb (suc m % 2) 1 in
      let b : Bool = ltb (suc m) (2 ^ prec f) in
      let c : Bool = leb (down e) (2 ^ low f) in
      let d : Bool = ltb (suc m * up e) (2 ^ suc (emax f) * down e) in
      finite s (suc m) e
      (ltb→lt (suc m) (2 ^ prec f) (and_r o b (and_l (o && b) c (and_l (o && b && c) d t))))
      (leb→le (down e) (2 ^ low f) (and_r (o && b) c (and_l (o && b && c) d t)))
      (ltb→lt (suc m * up e) (2 ^ suc (emax f) * down e) (and_r (o && b && c) d t))

-- ---- binary32 to binary64
module _ (b : ℕ) (H : b % 2 ^ 31 ≤ ones binary32 * hid binary32) where
  no-nan-value : is_nan (of_bits binary32 b) ≡ false
  no-nan-value = sym (nan_bits_is binary32 b) ∙ no_nan binary32 b H

  pub widen-is : to_bits binary64 (of_bits binary32 b) ≡ cast_float binary32 binary64 b
  widen-is = sym (same binary64 (of_bits binary32 b) (fits_widens (of_bits binary32 b) (of_bits-fits binary32 b)) no-nan-value) ∙ number binary32 binary64 b no-nan-value
