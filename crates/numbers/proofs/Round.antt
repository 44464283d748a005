-- What `to_bits` writes for a rounded value, as one number: k * hid + q, where q is the rounded significand and k counts the digits that it dropped.
-- A q of 2 ^ prec carries into the exponent's field by itself, and whatever is too large is brought to the infinity's pattern by a `min`.
use Rattle.std.specs.Prelude.{◌≡◌, ◌⊎◌, ◌≤◌, ◌<◌, ◌+◌, ◌-◌, ◌*◌, ◌^◌, ◌%◌, ◌/◌}
use Rattle.common.specs.Logic.{◌∙◌, sym, ap, refl, subst, ap₂, true, Bool, false, cond, ⊎_elim, inl, inr, ℕ, suc, min, compare, le_trans, le_of_eq, lt_of_le_of_lt, mul-le-mul_right, mul_assoc, add-mul, suc-mul, le-div_iff_mul-le, mul_comm, pow-succ', min-eq_left, one-mul, min-eq_right, mul-div_cancel, add_assoc, eq-or-lt_of_le, div-div-eq-div-mul, le_refl, arith, ltb, lit≤}
use Rattle.std.proofs.Common.{le_of_mul-le-mul_right, pow_pos, pow-add, shl_lt}
use lib.Pow.{pow-lt}
use lib.Ieee.{Float, nan, inf, fin, Format, binary32, binary64, prec, emax, low, down, size, nearest, units, round, hid, ones, top, to_bits}
use lib.Arith.{le→nltb}
use lib.Ieee.Bits.{cond_no}
use lib.Ieee.Digits.{size-le, size_reaches}
use lib.Ieee.Fits.{two, reach, kept-lt, nearest-le, round_is, down_pos}
use lib.Ieee.Exact.{HasValue, units_val}
use lib.Ieee.Order.{drop, kept}
use lib.Ieee.Nearest.{closest, nearest-ge}
use Rattle.numbers.proofs.Size.{lt-or-ge, pow_le_back, size-gt, size-shift}
use Rattle.common.proofs.Digits.{pow_lt_back, size_exact}

abbrev pub sign : Format → Bool → ℕ
sign f s = cond s (top f) 0

-- ---- bounds that hold of both formats
pub prec-le : (f : Format) → prec f ≤ 53
prec-le binary32 = lit≤ tt
prec-le binary64 = lit≤ tt

pub far : (f : Format) → 64 ≤ emax f
far binary32 = lit≤ tt
far binary64 = lit≤ tt

-- the pattern of 2 ^ k fits 64 bits
pub power_is : (f : Format) (k : ℕ) → k ≤ 64 → (emax f + k) * hid f % 2 ^ 64 ≡ (emax f + k) * hid f
power_is binary32 k h = omega arith
power_is binary64 k h = omega arith

pub one_is : (f : Format) → (emax f + 0) * hid f % 2 ^ 64 ≡ emax f * hid f
one_is binary32 = refl
one_is binary64 = refl

pub bits_fit : (f : Format) (s : Bool) (x : ℕ) → sign f s + min x (ones f * hid f) < 2 ^ 64
bits_fit binary32 true x = omega arith
bits_fit binary32 false x = omega arith
bits_fit binary64 true x = omega arith
bits_fit binary64 false x = omega arith

-- ---- the bits of a finite value, by its size in units of the smallest value
pub bits_of_value : (f : Format) (s : Bool) (x : Float) (a : ℕ) → HasValue x s a (2 ^ low f)
    → to_bits f x ≡ sign f s + (size a - prec f) * hid f + a / 2 ^ (size a - prec f)
unfolding to_bits
bits_of_value f s nan a h = absurd h
bits_of_value f s (inf t) a h = absurd h
bits_of_value f s (fin t m e) a h =
    ap (λ (x : ℕ). sign f t + (size x - prec f) * hid f + x / 2 ^ (size x - prec f)) (ap (λ (x : ℕ). x / down e) h.1 ∙ mul-div_cancel a (down_pos e))
    ∙ ap (λ (b : Bool). sign f b + (size a - prec f) * hid f + a / 2 ^ (size a - prec f)) h.0

pub twice_hid : (f : Format) → 2 ^ prec f ≡ 2 * hid f
twice_hid binary32 = refl
twice_hid binary64 = refl

-- the digits t below the leading one, with it
pub with_lead : (f : Format) (t : ℕ) → t < hid f → hid f + t < 2 ^ prec f
with_lead f t h = omega (arith, twice_hid f)

-- ---- q * 2 ^ k units keep their prec leading digits: what the format writes is k * hid + q

-- what is asked of q and k: q has at most prec digits, or is 2 ^ prec, and where digits were dropped the leading one is among those of q
abbrev pub Kept : Format → ℕ → ℕ → Type 0
Kept f q k = (q ≤ 2 ^ prec f) × ((k ≡ 0) ⊎ (hid f ≤ q))

dropped : (f : Format) (q k : ℕ) → (k ≡ 0) ⊎ (hid f ≤ q) → q < 2 ^ prec f → size (q * 2 ^ k) - prec f ≡ k
dropped f q k lead h =
    let z-le = size-le (q * 2 ^ k) (prec f + k) (shl_lt (prec f) k h) in
    ⊎_elim (λ (e : k ≡ 0). omega arith)
    (λ (g : hid f ≤ q). omega (arith, two f, size-gt (q * 2 ^ k) (prec f - 1 + k) (le_trans (le_of_eq (pow-add 2 (prec f - 1) k)) (mul-le-mul_right (2 ^ k) g))))
    lead

written : (f : Format) (q k : ℕ) → Kept f q k → (size (q * 2 ^ k) - prec f) * hid f + q * 2 ^ k / 2 ^ (size (q * 2 ^ k) - prec f) ≡ k * hid f + q
written f q k (small, lead) =
    ⊎_elim
    (λ (e : q ≡ 2 ^ prec f).
    let p = prec f in
    let h = hid f in
    let all : q * 2 ^ k ≡ 2 ^ (p + k) = ap (λ (x : ℕ). x * 2 ^ k) e ∙ sym (pow-add 2 p k) in
    let z : size (q * 2 ^ k) ≡ suc (p + k) = ap size all ∙ size_exact (p + k) (2 ^ (p + k)) (le_refl (2 ^ (p + k))) (pow-lt (le_refl (suc (p + k)))) in
    let j : size (q * 2 ^ k) - p ≡ suc k = omega arith in
    let half : q * 2 ^ k / 2 ^ suc k ≡ h =
    ap (λ (x : ℕ). x / 2 ^ suc k) (ap (λ (x : ℕ). x * 2 ^ k) (e ∙ twice_hid f ∙ mul_comm 2 h) ∙ mul_assoc h 2 (2 ^ k) ∙ ap (λ (x : ℕ). h * x) (sym (pow-succ' 2 k)))
    ∙ mul-div_cancel h (pow_pos (suc k)) in
    ap (λ (i : ℕ). i * h + q * 2 ^ k / 2 ^ i) j ∙ omega (arith, half, suc-mul k h, twice_hid f))
    (λ (h : q < 2 ^ prec f). ap (λ (j : ℕ). j * hid f + q * 2 ^ k / 2 ^ j) (dropped f q k lead h) ∙ ap (λ (x : ℕ). k * hid f + x) (mul-div_cancel q (pow_pos k)))
    (eq-or-lt_of_le small)

-- ---- the infinity: from 2 ^ (low + emax + 1) units on

top-under : (f : Format) (q k : ℕ) → Kept f q k → q * 2 ^ k < 2 ^ (low f + suc (emax f)) → k * hid f + q ≤ ones f * hid f
top-under f q k (small, lead) h =
    let l : k < 2 * emax f =
    ⊎_elim (λ (z : k ≡ 0). omega (arith, two f, reach f))
    (λ (g : hid f ≤ q). omega (arith, two f, pow_lt_back (prec f - 1 + k) (low f + suc (emax f)) (lt_of_le_of_lt (le_trans (le_of_eq (pow-add 2 (prec f - 1) k)) (mul-le-mul_right (2 ^ k) g)) h)))
    lead in
    let u : k + 2 ≤ ones f = omega arith in
    omega (arith, add-mul k 2 (hid f), mul-le-mul_right (hid f) u, twice_hid f)

top-over : (f : Format) (q k : ℕ) → Kept f q k → 2 ^ (low f + suc (emax f)) ≤ q * 2 ^ k → ones f * hid f ≤ k * hid f + q
top-over f q k (small, lead) h =
    let close : 2 * emax f ≤ k + 1 = omega (arith, two f, pow_le_back (low f + suc (emax f)) (prec f + k) (le_trans h (le_trans (mul-le-mul_right (2 ^ k) small) (le_of_eq (sym (pow-add 2 (prec f) k)))))) in
    ⊎_elim
    (λ (l : k < 2 * emax f).
    let e : low f + suc (emax f) ≡ prec f + k = omega (arith, two f) in
    let u : ones f ≤ k + 2 = omega arith in
    let w : 2 ^ prec f ≤ q = le_of_mul-le-mul_right (le_trans (le_of_eq (sym (pow-add 2 (prec f) k) ∙ ap (λ (x : ℕ). 2 ^ x) (sym e))) h) (pow_pos k) in
    omega (arith, add-mul k 2 (hid f), mul-le-mul_right (hid f) u, twice_hid f))
    (λ (l : 2 * emax f ≤ k).
    let u : ones f ≤ k + 1 = omega arith in
    ⊎_elim (λ (z : k ≡ 0). absurd (omega (arith, two f, reach f))) (λ (g : hid f ≤ q). omega (arith, add-mul k 1 (hid f), one-mul (hid f), mul-le-mul_right (hid f) u)) lead)
    (lt-or-ge k (2 * emax f))

units-over : (f : Format) (s : Bool) (q k : ℕ) → 2 ^ (low f + suc (emax f)) ≤ q * 2 ^ k → units f s q k ≡ inf s
unfolding units
units-over f s q k h = cond_no (ltb (q * 2 ^ k) (2 ^ (low f + suc (emax f)))) _ _ (le→nltb (q * 2 ^ k) (2 ^ (low f + suc (emax f))) h)

bits-of-inf : (f : Format) (s : Bool) → to_bits f (inf s) ≡ sign f s + ones f * hid f
unfolding to_bits
bits-of-inf f s = refl

-- THE LAW of `units`
pub units-bits : (f : Format) (s : Bool) (q k : ℕ) → Kept f q k → to_bits f (units f s q k) ≡ sign f s + min (k * hid f + q) (ones f * hid f)
units-bits f s q k ok =
    ⊎_elim
    (λ (h : q * 2 ^ k < 2 ^ (low f + suc (emax f))).
    bits_of_value f s (units f s q k) (q * 2 ^ k) (units_val f s q k h)
    ∙ add_assoc (sign f s) _ _
    ∙ ap (λ (x : ℕ). sign f s + x) (written f q k ok ∙ sym (min-eq_left (top-under f q k ok h))))
    (λ (h : 2 ^ (low f + suc (emax f)) ≤ q * 2 ^ k). ap (to_bits f) (units-over f s q k h) ∙ bits-of-inf f s ∙ ap (λ (x : ℕ). sign f s + x) (sym (min-eq_right (top-over f q k ok h))))
    (lt-or-ge (q * 2 ^ k) (2 ^ (low f + suc (emax f))))

-- ---- `round`: k = drop is how many digits of the whole part are too many, and q = kept is the rest, rounded
kept-ok : (f : Format) (n den : ℕ) → 0 < den → Kept f (kept (prec f) n den) (drop (prec f) n den)
kept-ok f n den D =
    let p = prec f in
    let k = drop p n den in
    let w = n / (den * 2 ^ k) in
    let o = compare (n % (den * 2 ^ k) * 2) (den * 2 ^ k) in
    let whole : n / den / 2 ^ k ≡ w = div-div-eq-div-mul n den (2 ^ k) in
    let lead : 0 < k → hid f ≤ nearest w o = λ h.
    let r = size_reaches (n / den) (p - 1 + k) (omega (arith, two f)) in
    le_trans (le_trans ((le-div_iff_mul-le (pow_pos k)).1 (le_trans (le_of_eq (sym (pow-add 2 (p - 1) k))) r)) (le_of_eq whole)) (nearest-ge w o) in
    (le_trans (nearest-le w o) (subst (λ (x : ℕ). x < 2 ^ p) whole (kept-lt p (n / den))), ⊎_elim (λ h. inr (lead h)) (λ (h : k ≤ 0). inl (omega arith)) (lt-or-ge 0 k))

-- THE LAW of `round`
pub round-bits : (f : Format) (s : Bool) (num den : ℕ) → 0 < den
    → to_bits f (round f s num den) ≡ sign f s + min (drop (prec f) (num * 2 ^ low f) den * hid f + kept (prec f) (num * 2 ^ low f) den) (ones f * hid f)
round-bits f s num den D =
    ap (to_bits f) (round_is f s num den) ∙ units-bits f s (kept (prec f) (num * 2 ^ low f) den) (drop (prec f) (num * 2 ^ low f) den) (kept-ok f (num * 2 ^ low f) den D)

-- ---- m * 2 ^ l / 2 ^ b, for an m above 0: what is dropped is known from m's size
module _ (f : Format) (m b l k : ℕ) (M : 0 < m) (K : k ≡ size m + l - (b + prec f)) where
  drop-is : drop (prec f) (m * 2 ^ l) (2 ^ b) ≡ k
  drop-is = ap (λ (x : ℕ). x - prec f) (size-shift m l b M) ∙ omega arith

  kept-is : kept (prec f) (m * 2 ^ l) (2 ^ b) ≡ closest (m * 2 ^ l) (2 ^ (b + k))
  kept-is = ap (λ (x : ℕ). closest (m * 2 ^ l) (2 ^ b * 2 ^ x)) drop-is ∙ ap (closest (m * 2 ^ l)) (sym (pow-add 2 b k))

  pub kept-le : closest (m * 2 ^ l) (2 ^ (b + k)) ≤ 2 ^ prec f
  kept-le = subst (λ (x : ℕ). x ≤ 2 ^ prec f) kept-is (kept-ok f (m * 2 ^ l) (2 ^ b) (pow_pos b)).0

  -- THE LAW of `round` at m * 2 ^ a / 2 ^ b
  pub scaled-bits : (s : Bool) (a : ℕ) → l ≡ a + low f → to_bits f (round f s (m * 2 ^ a) (2 ^ b)) ≡ sign f s + min (k * hid f + closest (m * 2 ^ l) (2 ^ (b + k))) (ones f * hid f)
  scaled-bits s a e =
      let n : m * 2 ^ a * 2 ^ low f ≡ m * 2 ^ l = mul_assoc m (2 ^ a) (2 ^ low f) ∙ ap (λ (x : ℕ). m * x) (sym (pow-add 2 a (low f)) ∙ ap (λ (x : ℕ). 2 ^ x) (sym e)) in
      round-bits f s (m * 2 ^ a) (2 ^ b) (pow_pos b)
      ∙ ap (λ (x : ℕ). sign f s + min (drop (prec f) x (2 ^ b) * hid f + kept (prec f) x (2 ^ b)) (ones f * hid f)) n
      ∙ ap₂ (λ (x y : ℕ). sign f s + min (x * hid f + y) (ones f * hid f)) drop-is kept-is

-- a zero is its sign
pub zero_is : (f : Format) (s : Bool) → to_bits f (round f s 0 1) ≡ sign f s
unfolding to_bits round
zero_is binary32 true = refl
zero_is binary32 false = refl
zero_is binary64 true = refl
zero_is binary64 false = refl
