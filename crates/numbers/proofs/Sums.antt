-- The sum of two floats as one rounding, and what is added to a power of two: there the sum's pattern is that of the power and, on top of it,
-- what is added, rounded to the power's last digit.
use Rattle.std.specs.Prelude.{◌≡◌, ◌&&◌, ◌≤◌, ◌<◌, ◌+◌, ◌-◌, ◌*◌, ◌^◌, ◌%◌, ◌/◌}
use Rattle.common.specs.Logic.{◌∙◌, sym, ap, refl, ap₂, true, Bool, false, cond, ℕ, suc, suc-mul, zero, min, compare, Ordering, lt_of_lt_of_le, le_of_eq, lt_of_le_of_lt, mod-lt, mul-le-mul_right, zero-add, le_of_lt, mul_assoc, add-mul, mul_comm, div-add-mod', mul-lt-mul_of_pos_right, pow-succ', min-eq_left, mul-div_cancel, add_assoc, arith, lt-ltb, le-ltb, leb, ltb}
use Rattle.std.proofs.Common.{lt_of_mul-lt-mul_right, mul-pos, mul_right_comm, pow_pos, pow_mono, pow-add, shl_lt}
use native.Mathlib.Nat.{mul-sub}
use lib.Arith.{digits_div, digits_mod}
use lib.Ieee.{Float, nan, inf, fin, Format, binary32, binary64, prec, low, hid, ones, top, up, down, size, nearest, round, sum, add, of_bits, to_bits}
use lib.Ieee.Exact.{HasValue}
use lib.Ieee.Fits.{two, down_pos}
use lib.Ieee.Nearest.{closest, closest_same}
use lib.Ieee.Order.{drop, kept}
use lib.Ieee.Scale.{round_same}
use Rattle.common.proofs.Digits.{size_exact}
use Rattle.numbers.proofs.Round.{with_lead, round-bits}
use Rattle.numbers.proofs.Closest.{closest-le}
use Rattle.numbers.proofs.Decoding.{read_low, read-middle}

-- ---- two values over one denominator, the second not negative, and smaller where the first is negative
pub plus : (f : Format) (x y : Float) (s : Bool) (a b c : ℕ) → 0 < c → HasValue x s a c → HasValue y false b c → (s ≡ true → b < a) → add f x y ≡ round f s (cond s (a - b) (a + b)) c
unfolding add sum
plus f nan y s a b c C h k g = absurd h
plus f (inf t) y s a b c C h k g = absurd h
plus f (fin t m e) nan s a b c C h k g = absurd k
plus f (fin t m e) (inf u) s a b c C h k g = absurd k
plus f (fin t m e) (fin u n d) s a b c C h k g =
    ap₂ (λ (p q : Bool). sum f p (m * up e * down d) q (n * up d * down e) (down e * down d)) h.0 k.0 ∙ go s g
  where
    all-pos : 0 < down e * down d
    all-pos = mul-pos (down_pos e) (down_pos d)

    left : m * up e * down d * c ≡ a * (down e * down d)
    left = mul_right_comm (m * up e) (down d) c ∙ ap (λ (y : ℕ). y * down d) h.1 ∙ mul_assoc a (down e) (down d)

    right : n * up d * down e * c ≡ b * (down e * down d)
    right = mul_right_comm (n * up d) (down e) c ∙ ap (λ (y : ℕ). y * down e) k.1 ∙ mul_assoc b (down d) (down e) ∙ ap (λ (y : ℕ). b * y) (mul_comm (down d) (down e))

    times-minus : (x y z : ℕ) → (x - y) * z ≡ x * z - y * z
    times-minus x y z = mul_comm (x - y) z ∙ mul-sub z x y ∙ ap₂ ◌-◌ (mul_comm z x) (mul_comm z y)

    go : (s : Bool) → (s ≡ true → b < a) → sum f s (m * up e * down d) false (n * up d * down e) (down e * down d) ≡ round f s (cond s (a - b) (a + b)) c
    go false g =
        round_same f false (m * up e * down d + n * up d * down e) (down e * down d) (a + b) c all-pos C
        (add-mul (m * up e * down d) (n * up d * down e) c ∙ ap₂ ◌+◌ left right ∙ sym (add-mul a b (down e * down d)))
    go true g =
        let less : n * up d * down e < m * up e * down d = lt_of_mul-lt-mul_right c (lt_of_le_of_lt (le_of_eq right) (lt_of_lt_of_le (mul-lt-mul_of_pos_right (g refl) all-pos) (le_of_eq (sym left)))) in
        ap (λ (p : Bool). cond p (round f false (n * up d * down e - m * up e * down d) (down e * down d)) (round f (true && ltb (n * up d * down e) (m * up e * down d)) (m * up e * down d - n * up d * down e) (down e * down d))) (le-ltb _ _ (le_of_lt less))
        ∙ ap (λ (p : Bool). round f p (m * up e * down d - n * up d * down e) (down e * down d)) (lt-ltb _ _ less)
        ∙ round_same f true (m * up e * down d - n * up d * down e) (down e * down d) (a - b) c all-pos C
        (times-minus (m * up e * down d) (n * up d * down e) c ∙ ap₂ ◌-◌ left right ∙ sym (times-minus a b (down e * down d)))

-- ---- an even number of units beside a fraction stays out of its rounding
pub closest-plus : (x n u : ℕ) → 0 < u → x % 2 ≡ 0 → closest (x * u + n) u ≡ x + closest n u
closest-plus x n u U E =
    ap₂ (λ (q r : ℕ). nearest q (compare (r * 2) u))
    (ap (λ (y : ℕ). y / u) parts ∙ digits_div (x + n / u) (mod-lt n U))
    (ap (λ (y : ℕ). y % u) parts ∙ digits_mod (x + n / u) (mod-lt n U))
    ∙ go (n / u) (compare (n % u * 2) u)
  where
    parts : x * u + n ≡ (x + n / u) * u + n % u
    parts = ap (λ (y : ℕ). x * u + y) (sym (div-add-mod' n u)) ∙ sym (add_assoc (x * u) (n / u * u) (n % u)) ∙ ap (λ (y : ℕ). y + n % u) (sym (add-mul x (n / u) u))

    go : (q : ℕ) (o : Ordering) → nearest (x + q) o ≡ x + nearest q o
    go q Prim.Native.Nat.Ordering.lt = refl
    go q Prim.Native.Nat.Ordering.eq = omega arith
    go q Prim.Native.Nat.Ordering.gt = omega arith

-- ---- n units on top of hid * 2 ^ k units: the sum is rounded to multiples of 2 ^ k units
module _ (f : Format) (n k : ℕ) (N : n < hid f * 2 ^ k) where
  abbrev both : ℕ
  both = hid f * 2 ^ k + n

  size_is : size both ≡ suc (prec f - 1 + k)
  size_is =
      let e = pow-add 2 (prec f - 1) k in
      let d = pow-succ' 2 (prec f - 1 + k) in
      size_exact (prec f - 1 + k) both (omega arith) (omega arith)

  drop-is : drop (prec f) (both * 2 ^ low f) (2 ^ low f) ≡ k
  drop-is = ap (λ (x : ℕ). size x - prec f) (mul-div_cancel both (pow_pos (low f))) ∙ omega (arith, size_is, two f)

  kept-is : kept (prec f) (both * 2 ^ low f) (2 ^ low f) ≡ hid f + closest n (2 ^ k)
  kept-is =
      ap (λ (x : ℕ). closest (both * 2 ^ low f) (2 ^ low f * 2 ^ x)) drop-is
      ∙ closest_same (both * 2 ^ low f) (2 ^ low f * 2 ^ k) both (2 ^ k) unit (pow_pos k) (mul_assoc both (2 ^ low f) (2 ^ k))
      ∙ closest-plus (hid f) n (2 ^ k) (pow_pos k) (even f)
    where
      unit : 0 < 2 ^ low f * 2 ^ k
      unit = lt_of_lt_of_le (pow_pos (low f + k)) (le_of_eq (pow-add 2 (low f) k))

      even : (f : Format) → hid f % 2 ≡ 0
      even binary32 = refl
      even binary64 = refl

  -- which is below the infinity
  pub on-top : suc (suc k) ≤ ones f → to_bits f (round f false both (2 ^ low f)) ≡ suc k * hid f + closest n (2 ^ k)
  on-top K =
      round-bits f false both (2 ^ low f) (pow_pos (low f))
      ∙ ap₂ (λ (x y : ℕ). 0 + min (x * hid f + y) (ones f * hid f)) drop-is kept-is
      ∙ zero-add _
      ∙ min-eq_left (omega (arith, closest-le n (hid f) (2 ^ k) (pow_pos k) (le_of_lt N), mul-le-mul_right (hid f) K, suc-mul (suc k) (hid f), suc-mul k (hid f)))
      ∙ omega (arith, suc-mul k (hid f))

-- ---- the value of a finite pattern, in units of the format's smallest value
abbrev pub amount : Format → ℕ → ℕ → ℕ
amount f zero t = t * 2 ^ 0
amount f (suc k) t = (hid f + t) * 2 ^ k

pub value-of : (f : Format) (b : ℕ) (s : Bool) (x t : ℕ) → s ≡ leb (top f) b → x ≡ b % top f / hid f → t ≡ b % hid f → x < ones f → HasValue (of_bits f b) s (amount f x t) (2 ^ low f)
value-of f b s zero t S X D n = read_low f b s zero t S X D refl
value-of f b s (suc k) t S X D n =
    read-middle f b s (suc k) t S X D (hid f + t) k refl (omega arith) (λ (e : suc k ≡ 0). omega arith) (λ (e : suc k ≡ ones f). omega arith)

pub amount-is : (f : Format) (x t : ℕ) → 0 < x → amount f x t ≡ (hid f + t) * 2 ^ (x - 1)
amount-is f zero t h = absurd (omega arith)
amount-is f (suc k) t h = let e : k ≡ suc k - 1 = omega arith in ap (λ (j : ℕ). (hid f + t) * 2 ^ j) e

pub amount-lt : (f : Format) (x t c : ℕ) → t < hid f → x ≤ suc c → amount f x t < 2 ^ (prec f + c)
amount-lt f zero t c T h = lt_of_lt_of_le (shl_lt (prec f - 1) 0 T) (pow_mono {i = prec f - 1 + 0} {j = prec f + c} (omega arith))
amount-lt f (suc k) t c T h = lt_of_lt_of_le (shl_lt (prec f) k (with_lead f t T)) (pow_mono {i = prec f + k} {j = prec f + c} (omega arith))
