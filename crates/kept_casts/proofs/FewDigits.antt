-- Integers to floats: kept where the digits from the first set one to the last are no more than the format keeps.
use Rattle.std.specs.Prelude.{◌≡◌, ◌||◌, ◌&&◌, ◌⊎◌, ◌+◌, ◌-◌, ◌*◌, ◌/◌, ◌%◌, ◌^◌, ◌≤◌, ◌<◌}
use Rattle.common.specs.Logic.{refl, sym, ap, ap₂, ◌∙◌, subst, Bool, true, false, inl, inr, ℕ, zero, suc, mul-one, one-mul, zero-mul, mul_assoc, mul_comm, zero-lt-suc, lt_of_lt_of_le, lt_of_le_of_lt, le_of_lt, le_trans, le_of_eq, pow-succ', mul-lt-mul_of_pos_right, mul-le-mul_left, mul-le-mul_right, div-lt_iff_lt-mul, div-eq_of_lt, arith, le-leb, lt-leb, mod-eq_of_lt, mod-lt, cond, T, leb, min, max, eqb, eq-eqb, eqb-true, add-zero}
use mathlib.Core.Bool.{or-false}
use Rattle.std.proofs.Common.{ℤ, pos, negsuc, nat_abs, lt_of_mul-lt-mul_right, div-le_self, pow_pos, pow_mono, pow-add, shr_lt}
use native.Mathlib.Nat.{eq_of_mul-eq-mul_right, mul-sub}
use lib.Arith.{bin_ind}
use lib.Bits.{bit_and, bit_or, and_step, or_step, and_zero_l, or_zero_l, or_disjoint, or_block, and_high}
use lib.Pow.{pow-lt}
use lib.Ieee.{Float, nan, inf, fin, Format, prec, emax, low, up, down, eq, is_nan, round, fits, of_bits}
use lib.Ieee.Fits.{down_pos}
use lib.Ieee.Bits.{is_true}
use lib.Ieee.Exact.{HasValue, round_exact}
use Rattle.numbers.proofs.Size.{lt-or-ge}
use Rattle.numbers.proofs.TwosComplement.{signed_low, signed_high, twice_half, same_number_lem}
use Rattle.common.proofs.Digits.{pow_lt_back}
use Rattle.numbers.proofs.Round.{far}
use Rattle.numbers.proofs.Widths.{width-range}
use Rattle.numbers.specs.Widths.{bits_in}
use Rattle.numbers.specs.declared.integer.Width.{Width}
use Rattle.numbers.specs.Casts.{float, signed_of, int_to_int, rounded, cast_of}
use Rattle.kept_casts.specs.Kept.{exactly, value_in, same_number, is_kept}
use Rattle.kept_casts.specs.Steps.{integer_kind, integer_of, Tells, Short}
use Rattle.kept_casts.proofs.Same.{value→same, same→cross, fits-says, zero_of}
use Rattle.kept_casts.proofs.Casting.{to-float, int_number, rounded-fits, signs}

pub agree : {A : Type 0} (r b : Bool) → Tells r A → Tells b A → r ≡ b
agree true true s t = refl
agree true false s t = sym (t.1 (s.0 refl))
agree false true s t = s.1 (t.0 refl)
agree false false s t = refl

-- ---- a number by its last set digit

Lowest : ℕ → Type 0
Lowest n = (t : ℕ) × (c : ℕ) × (n ≡ (2 * c + 1) * 2 ^ t)

lowest-odd : (n : ℕ) → n % 2 ≡ 1 → Lowest n
unfolding Lowest
lowest-odd n o = (0, n / 2, is_odd ∙ sym (mul-one (2 * (n / 2) + 1)))
  where
    is_odd : n ≡ 2 * (n / 2) + 1
    is_odd = omega arith

lowest-even : (n : ℕ) → n % 2 ≡ 0 → Lowest (n / 2) → Lowest n
unfolding Lowest
lowest-even n o (t, c, e) = (
  suc t,
  c,
  is-even ∙ ap (λ (y : ℕ). y * 2) e ∙ mul_assoc (2 * c + 1) (2 ^ t) 2 ∙ ap (λ (y : ℕ). (2 * c + 1) * y) (mul_comm (2 ^ t) 2 ∙ sym (pow-succ' 2 t)),
)
  where
    is-even : n ≡ n / 2 * 2
    is-even = omega arith

lowest : (n : ℕ) → 0 < n → Lowest n
lowest = bin_ind (λ (n : ℕ). 0 < n → Lowest n) (λ h. absurd (none h)) (λ n ih h. step n h ih (parity n))
  where
    none : 0 < 0 → ⊥
    none h = omega arith

    parity : (n : ℕ) → (n % 2 ≡ 1) ⊎ (n % 2 ≡ 0)
    parity n = go (lt-or-ge (n % 2) 1)
      where
        small : (r : ℕ) → r < 1 → r ≡ 0
        small r h = omega arith

        large : (n : ℕ) → 1 ≤ n % 2 → n % 2 ≡ 1
        large n h = omega arith

        go : (n % 2 < 1) ⊎ (1 ≤ n % 2) → (n % 2 ≡ 1) ⊎ (n % 2 ≡ 0)
        go (inl h) = inr (small (n % 2) h)
        go (inr h) = inl (large n h)

    some : (n : ℕ) → 0 < n → n % 2 ≡ 0 → 0 < n / 2
    some n h o = omega arith

    step : (n : ℕ) → 0 < n → (0 < n / 2 → Lowest (n / 2)) → (n % 2 ≡ 1) ⊎ (n % 2 ≡ 0) → Lowest n
    step n h ih (inl o) = lowest-odd n o
    step n h ih (inr o) = lowest-even n o (ih (some n h o))

-- j is no more than t where 2 ^ j divides an odd number times 2 ^ t
no_more : (c t q j : ℕ) → (2 * c + 1) * 2 ^ t ≡ q * 2 ^ j → j ≤ t
no_more c t q j e = go (lt-or-ge t j)
  where
    split : t < j → j ≡ suc (j - suc t) + t
    split h = omega arith

    even : (u : ℕ) → 2 * c + 1 ≡ u * 2 → ⊥
    even u h = omega arith

    go : (t < j) ⊎ (j ≤ t) → j ≤ t
    go (inr h) = h
    go (inl h) =
        let i = j - suc t in
        absurd (even (q * 2 ^ i) (eq_of_mul-eq-mul_right (2 ^ t) (pow_pos t) (2 * c + 1) (q * 2 ^ i * 2)
        (e ∙ ap (λ (y : ℕ). q * 2 ^ y) (split h) ∙ ap (λ (y : ℕ). q * y) (pow-add 2 (suc i) t ∙ ap (λ (y : ℕ). y * 2 ^ t) (pow-succ' 2 i ∙ mul_comm 2 (2 ^ i)))
        ∙ sym (mul_assoc q (2 ^ i * 2) (2 ^ t)) ∙ ap (λ (y : ℕ). y * 2 ^ t) (sym (mul_assoc q (2 ^ i) 2)))))

-- ---- n | (0 - n): ones from the last set digit on

-- a number and its complement have no digit in common
apart : (k c : ℕ) → c < 2 ^ k → bit_and c (2 ^ k - 1 - c) ≡ 0
apart zero c h = ap (λ (y : ℕ). bit_and y (2 ^ 0 - 1 - c)) none ∙ and_zero_l (2 ^ 0 - 1 - c)
  where
    none : c ≡ 0
    none = omega arith
apart (suc k) c h =
    let b = subst (λ (y : ℕ). c < y) (pow-succ' 2 k) h in
    and_step c (2 ^ suc k - 1 - c)
    ∙ ap (λ (y : ℕ). bit_and (c / 2) ((y - 1 - c) / 2) * 2 + min (c % 2) ((y - 1 - c) % 2)) (pow-succ' 2 k)
    ∙ ap₂ (λ (y z : ℕ). bit_and (c / 2) y * 2 + z) (half (2 ^ k) b) (last (2 ^ k) b)
    ∙ ap (λ (y : ℕ). y * 2 + 0) (apart k (c / 2) (less (2 ^ k) b))
  where
    half : (u : ℕ) → c < 2 * u → (2 * u - 1 - c) / 2 ≡ u - 1 - c / 2
    half u b = omega arith

    last : (u : ℕ) → c < 2 * u → min (c % 2) ((2 * u - 1 - c) % 2) ≡ 0
    last u b = omega arith

    less : (u : ℕ) → c < 2 * u → c / 2 < u
    less u b = omega arith

-- so an odd number and 2 * 2 ^ k less it have all digits between them
all_digits : (k c : ℕ) → c < 2 ^ k → bit_or (2 * c + 1) (2 * 2 ^ k - (2 * c + 1)) ≡ 2 * 2 ^ k - 1
all_digits k c h =
    or_step (2 * c + 1) (2 * 2 ^ k - (2 * c + 1))
    ∙ ap₂ (λ (y z : ℕ). bit_or y z * 2 + max ((2 * c + 1) % 2) ((2 * 2 ^ k - (2 * c + 1)) % 2)) half (half_of (2 ^ k) h)
    ∙ ap₂ (λ (y z : ℕ). y * 2 + z) (or_disjoint c (2 ^ k - 1 - c) (apart k c h)) (last (2 ^ k) h) ∙ sum (2 ^ k) h
  where
    half : (2 * c + 1) / 2 ≡ c
    half = omega arith

    half_of : (u : ℕ) → c < u → (2 * u - (2 * c + 1)) / 2 ≡ u - 1 - c
    half_of u h = omega arith

    last : (u : ℕ) → c < u → max ((2 * c + 1) % 2) ((2 * u - (2 * c + 1)) % 2) ≡ 1
    last u h = omega arith

    sum : (u : ℕ) → c < u → (c + (u - 1 - c)) * 2 + 1 ≡ 2 * u - 1
    sum u h = omega arith

-- n is an odd number times 2 ^ t, and r is 2 ^ 64 less n
module _ (n r t c : ℕ) (E : n ≡ (2 * c + 1) * 2 ^ t) (R : r + n ≡ 2 ^ 64) (N : n < 2 ^ 64) where
  t-lt : t < 64
  t-lt = pow_lt_back t 64 (lt_of_le_of_lt (le_trans (le_of_eq (sym (one-mul (2 ^ t)))) (le_trans (mul-le-mul_right (2 ^ t) some) (le_of_eq (sym E)))) N)
    where
      some : 1 ≤ 2 * c + 1
      some = omega arith

  split-64 : suc (63 - t) + t ≡ 64
  split-64 = go t-lt
    where
      go : t < 64 → suc (63 - t) + t ≡ 64
      go h = omega arith

  whole : 2 ^ 64 ≡ 2 * 2 ^ (63 - t) * 2 ^ t
  whole = ap (λ (y : ℕ). 2 ^ y) (sym split-64) ∙ pow-add 2 (suc (63 - t)) t ∙ ap (λ (y : ℕ). y * 2 ^ t) (pow-succ' 2 (63 - t))

  c_lt : c < 2 ^ (63 - t)
  c_lt = go (2 ^ (63 - t)) (lt_of_mul-lt-mul_right (2 ^ t) {m = (2 * c + 1)} {n = (2 * 2 ^ (63 - t))} (lt_of_le_of_lt (le_of_eq (sym E)) (lt_of_lt_of_le N (le_of_eq whole))))
    where
      go : (u : ℕ) → 2 * c + 1 < 2 * u → c < u
      go u h = omega arith

  less-times : (a b u : ℕ) → (a - b) * u ≡ a * u - b * u
  less-times a b u = mul_comm (a - b) u ∙ mul-sub u a b ∙ ap₂ ◌-◌ (mul_comm u a) (mul_comm u b)

  r-is : r ≡ (2 * 2 ^ (63 - t) - (2 * c + 1)) * 2 ^ t
  r-is = less r n R ∙ ap₂ ◌-◌ whole E ∙ sym (less-times (2 * 2 ^ (63 - t)) (2 * c + 1) (2 ^ t))
    where
      less : (r n : ℕ) → r + n ≡ 2 ^ 64 → r ≡ 2 ^ 64 - n
      less r n e = omega arith

  ones-from : bit_or n r ≡ 2 ^ (suc (63 - t) + t) - 2 ^ t
  ones-from =
      ap₂ bit_or (E ∙ sym (add-zero ((2 * c + 1) * 2 ^ t))) (r-is ∙ sym (add-zero ((2 * 2 ^ (63 - t) - (2 * c + 1)) * 2 ^ t)))
      ∙ or_block t (2 * c + 1) (2 * 2 ^ (63 - t) - (2 * c + 1)) 0 0 (pow_pos t) (pow_pos t)
      ∙ ap₂ (λ (y z : ℕ). y * 2 ^ t + z) (all_digits (63 - t) c c_lt) (or_zero_l 0) ∙ add-zero ((2 * 2 ^ (63 - t) - 1) * 2 ^ t)
      ∙ less-times (2 * 2 ^ (63 - t)) 1 (2 ^ t)
      ∙ ap₂ ◌-◌ (sym whole ∙ ap (λ (y : ℕ). 2 ^ y) (sym split-64)) (one-mul (2 ^ t))

  -- no digit of m is from there on
  none_from : (m : ℕ) → m < 2 ^ 64 → Tells (eqb (bit_and m (bit_or n r)) 0) (m < 2 ^ t)
  none_from m M = subst (λ (y : ℕ). Tells (eqb y 0) (m < 2 ^ t)) (sym high) (there, back)
    where
      high : bit_and m (bit_or n r) ≡ m / 2 ^ t * 2 ^ t
      high =
          ap (bit_and m) ones-from ∙ and_high m (suc (63 - t)) t
          ∙ ap (λ (y : ℕ). y * 2 ^ t) (mod-eq_of_lt (shr_lt {n = m} (suc (63 - t)) t (subst (λ (y : ℕ). m < 2 ^ y) (sym split-64) M)))

      there : eqb (m / 2 ^ t * 2 ^ t) 0 ≡ true → m < 2 ^ t
      there h = lt_of_lt_of_le ((div-lt_iff_lt-mul (pow_pos t)).0 (le_of_eq (ap suc (zero_of (m / 2 ^ t) (2 ^ t) (pow_pos t) (eqb-true (m / 2 ^ t * 2 ^ t) 0 h))))) (le_of_eq (one-mul (2 ^ t)))

      back : m < 2 ^ t → eqb (m / 2 ^ t * 2 ^ t) 0 ≡ true
      back h = eq-eqb (m / 2 ^ t * 2 ^ t) 0 (ap (λ (y : ℕ). y * 2 ^ t) (div-eq_of_lt h) ∙ zero-mul (2 ^ t))

-- ---- the code's test

few-short : (p n t c : ℕ) → n ≡ (2 * c + 1) * 2 ^ t → n / 2 ^ p < 2 ^ t → Short p n
few-short p n t c e h = (
  2 * c + 1,
  t,
  lt_of_mul-lt-mul_right (2 ^ t) {m = (2 * c + 1)} {n = (2 ^ p)} (lt_of_le_of_lt (le_of_eq (sym e)) (lt_of_lt_of_le ((div-lt_iff_lt-mul (pow_pos p)).0 h) (le_of_eq (mul_comm (2 ^ t) (2 ^ p))))),
  e,
)

short-few : (p n t c : ℕ) → n ≡ (2 * c + 1) * 2 ^ t → Short p n → n / 2 ^ p < 2 ^ t
short-few p n t c e (q, j, l, k) =
    (div-lt_iff_lt-mul (pow_pos p)).1
    (lt_of_le_of_lt (le_of_eq k) (lt_of_lt_of_le (mul-lt-mul_of_pos_right l (pow_pos j)) (le_trans (mul-le-mul_left (2 ^ p) (pow_mono (no_more c t q j (sym e ∙ k)))) (le_of_eq (mul_comm (2 ^ p) (2 ^ t))))))

pub few-digits : (p n r : ℕ) → n < 2 ^ 64 → r < 2 ^ 64 → (r + n) % 2 ^ 64 ≡ 0 → Tells (eqb (bit_and (n / 2 ^ p) (bit_or n r)) 0) (Short p n)
unfolding Lowest
few-digits p n r N R e = go (lt-or-ge 0 n)
  where
    all : 0 < n → r + n ≡ 2 ^ 64
    all h = omega arith

    none : n ≤ 0 → n ≡ 0
    none h = omega arith

    some : Lowest n → 0 < n → Tells (eqb (bit_and (n / 2 ^ p) (bit_or n r)) 0) (Short p n)
    some (t, c, k) h =
        let u = none_from n r t c k (all h) N (n / 2 ^ p) (lt_of_le_of_lt (div-le_self n (2 ^ p)) N) in
        ((λ q. few-short p n t c k (u.0 q)), (λ s. u.1 (short-few p n t c k s)))

    go : (0 < n) ⊎ (n ≤ 0) → Tells (eqb (bit_and (n / 2 ^ p) (bit_or n r)) 0) (Short p n)
    go (inl h) = some (lowest n h) h
    go (inr h) = (
      (λ _. (0, 0, pow_pos p, none h)),
      (λ _. eq-eqb (bit_and (n / 2 ^ p) (bit_or n r)) 0 (ap (λ (y : ℕ). bit_and y (bit_or n r)) (div-eq_of_lt (subst (λ (y : ℕ). y < 2 ^ p) (sym (none h)) (pow_pos p))) ∙ and_zero_l (bit_or n r))),
    )

-- ---- what the format keeps

-- an integer of few digits is a value of the format
short-value : (f : Format) (s : Bool) (n : ℕ) → n ≤ 2 ^ 64 → Short (prec f) n → HasValue (round f s n 1) s n 1
short-value f s n N (q, j, l, e) =
    round_exact f s n 1 q (j + low f) (zero-lt-suc 0) l
    (lt_of_le_of_lt (le_of_eq (ap (λ (y : ℕ). q * y) (pow-add 2 j (low f)) ∙ sym (mul_assoc q (2 ^ j) (2 ^ low f)) ∙ ap (λ (y : ℕ). y * 2 ^ low f) (sym e)))
    (lt_of_le_of_lt (mul-le-mul_right (2 ^ low f) N) (lt_of_le_of_lt (le_of_eq (sym (pow-add 2 64 (low f)))) (pow-lt (room (low f) (emax f) (far f))))))
    (ap (λ (y : ℕ). y * 2 ^ low f) e ∙ mul_assoc q (2 ^ j) (2 ^ low f) ∙ ap (λ (y : ℕ). q * y) (sym (pow-add 2 j (low f))) ∙ sym (mul-one (q * 2 ^ (j + low f))))
  where
    room : (l e : ℕ) → 64 ≤ e → 64 + l < l + suc e
    room l e h = omega arith

-- and a value of the format that is an integer has few digits
value-short : (f : Format) (s : Bool) (n : ℕ) (y : Float) → T (fits f y) → T (eq (fin s n (pos 0)) y) → Short (prec f) n
unfolding eq
value-short f s n nan F h = absurd h
value-short f s n (inf t) F h = absurd h
value-short f s n (fin t zero e) F h = (0, 0, pow_pos (prec f), sym (mul-one n) ∙ zero_of (n * 1) (down e) (down_pos e) (same→cross s n (pos 0) t zero e h ∙ ap (λ (x : ℕ). x * 1) (zero-mul (up e))))
value-short f s n (fin t (suc m) (pos k)) F h = (suc m, k, (fits-says f t m (pos k) F).0, flat n (suc m * 2 ^ k) (same→cross s n (pos 0) t (suc m) (pos k) h))
  where
    flat : (a b : ℕ) → a * 1 * 1 ≡ b * 1 → a ≡ b
    flat a b h = omega arith
value-short f s n (fin t (suc m) (negsuc k)) F h =
    (n, 0, lt_of_le_of_lt (small n (2 ^ suc k) (suc m) (pow_pos (suc k)) (same→cross s n (pos 0) t (suc m) (negsuc k) h)) (fits-says f t m (negsuc k) F).0, sym (mul-one n))
  where
    flat : (n d m : ℕ) → n * 1 * d ≡ m * 1 * 1 → n * d ≡ m
    flat n d m h = ap (λ (x : ℕ). x * d) (sym (mul-one n)) ∙ h ∙ mul-one (m * 1) ∙ mul-one m

    small : (n d m : ℕ) → 0 < d → n * 1 * d ≡ m * 1 * 1 → n ≤ m
    small n d m D h = le_trans (le_trans (le_of_eq (sym (mul-one n))) (mul-le-mul_left n D)) (le_of_eq (flat n d m h))

kept_at : (f : Format) (s : Bool) (n : ℕ) → n ≤ 2 ^ 64 → Short (prec f) n → T (eq (fin s n (pos 0)) (rounded f (fin s n (pos 0))))
unfolding rounded
kept_at f s n N h =
    value→same (fin s n (pos 0)) (round f s (n * 1) 1) s n 1 (zero-lt-suc 0) (refl, ap (λ (x : ℕ). x * 1) (mul-one n))
    (subst (λ (x : ℕ). HasValue (round f s x 1) s n 1) (sym (mul-one n)) (short-value f s n N h))

rounded-tells : (f : Format) (z : ℤ) → nat_abs z ≤ 2 ^ 64 → Tells (eq (exactly z) (rounded f (exactly z))) (Short (prec f) (nat_abs z))
rounded-tells f (pos n) N = (
  (λ h. value-short f false n (rounded f (fin false n (pos 0))) (rounded-fits f (fin false n (pos 0))) (subst T (sym h) tt)),
  (λ h. is_true (eq (fin false n (pos 0)) (rounded f (fin false n (pos 0)))) (kept_at f false n N h)),
)
rounded-tells f (negsuc n) N = (
  (λ h. value-short f true (suc n) (rounded f (fin true (suc n) (pos 0))) (rounded-fits f (fin true (suc n) (pos 0))) (subst T (sym h) tt)),
  (λ h. is_true (eq (fin true (suc n) (pos 0)) (rounded f (fin true (suc n) (pos 0)))) (kept_at f true (suc n) N h)),
)

-- ---- the cast of an integer to a float

number_same : (z : ℤ) (v : Float) → same_number (exactly z) v ≡ eq (exactly z) v
unfolding same_number
number_same z v = ap (λ (b : Bool). eq (exactly z) v || (b && is_nan v)) (int_number z) ∙ or-false (eq (exactly z) v)

pub value-is : (s : Bool) (w x : ℕ) → value_in (integer_kind s w) x ≡ exactly (integer_of s w x)
value-is true w x = refl
value-is false w x = refl

pub kept-digits : (f : Format) (s : Bool) (w x : ℕ) (r : Bool) → nat_abs (integer_of s w x) ≤ 2 ^ 64 → Tells r (Short (prec f) (nat_abs (integer_of s w x))) → r ≡ is_kept (integer_kind s w) (float f) x
unfolding is_kept
kept-digits f s w x r N h =
    let z = integer_of s w x in
    let k = integer_kind s w in
    agree r (eq (exactly z) (rounded f (exactly z))) h (rounded-tells f z N)
    ∙ sym (ap (λ (u : Float). same_number u (of_bits f (cast_of k (float f) x))) (value-is s w x)
    ∙ number_same z (of_bits f (cast_of k (float f) x))
    ∙ ap (eq (exactly z)) (to-float k f x (ap is_nan (value-is s w x) ∙ int_number z) ∙ ap (rounded f) (value-is s w x)))

-- the size of an integer of w bits
pub size-upto : (s : Bool) (w x : ℕ) → 0 < w → x < 2 ^ w → nat_abs (integer_of s w x) ≤ 2 ^ w
size-upto false w x W L = le_of_lt L
size-upto true w x W L =
    signs w (λ (z : ℤ). nat_abs z ≤ 2 ^ w) x W L (λ h. le_of_lt L) (λ n h e. go (2 ^ w) (2 ^ (w - 1)) (twice_half w W) n h)
  where
    go : (t u : ℕ) → t ≡ 2 * u → (n : ℕ) → n < u → suc n ≤ t
    go t u a n h = omega arith

-- of the low bits of a pattern, whose size is n
module _ (s : Bool) (w : Width) (x n : ℕ) (N : n ≡ nat_abs (integer_of s (bits_in w) (x % 2 ^ bits_in w))) where
  pub upto : n ≤ 2 ^ bits_in w
  upto = le_trans (le_of_eq N) (size-upto s (bits_in w) (x % 2 ^ bits_in w) (width-range w).0 (mod-lt x (pow_pos (bits_in w))))

  pub kept-cut : (f : Format) (r : Bool) → Tells r (Short (prec f) n) → r ≡ is_kept (integer_kind s (bits_in w)) (float f) (x % 2 ^ bits_in w)
  kept-cut f r t =
      kept-digits f s (bits_in w) (x % 2 ^ bits_in w) r (le_trans (le_of_eq (sym N)) (le_trans upto (pow_mono (width-range w).1)))
      (subst (λ (m : ℕ). Tells r (Short (prec f) m)) N t)

-- an integer of no more bits than the format keeps digits
pub few_bits : (p n : ℕ) → 0 < p → n ≤ 2 ^ p → Short p n
few_bits p n p0 h = go (lt-or-ge n (2 ^ p))
  where
    last : n ≡ 2 ^ p → Short p n
    last e = (1, p, pow-lt p0, e ∙ sym (one-mul (2 ^ p)))

    meet : (a b : ℕ) → a ≤ b → b ≤ a → a ≡ b
    meet a b g h = omega arith

    go : (n < 2 ^ p) ⊎ (2 ^ p ≤ n) → Short p n
    go (inl l) = (n, 0, l, sym (mul-one n))
    go (inr g) = last (meet n (2 ^ p) h g)

-- that size, by the pattern y in 64 bits
pub size_is : (w x y d : ℕ) → 0 < w → w ≤ 64 → x < 2 ^ w → y < 2 ^ 64 → y ≡ int_to_int 64 (signed_of w x) → d ≡ cond (leb (2 ^ 63) y) (2 ^ 64 - y) y → d ≡ nat_abs (signed_of w x)
size_is w x y d W L X F Y D = D ∙ go (lt-or-ge y (2 ^ 63)) ∙ ap nat_abs (ap (signed_of 64) Y ∙ same_number_lem w x W L X)
  where
    one : 2 ^ 64 - y ≡ suc (2 ^ 64 - suc y)
    one = omega arith

    go : (y < 2 ^ 63) ⊎ (2 ^ 63 ≤ y) → cond (leb (2 ^ 63) y) (2 ^ 64 - y) y ≡ nat_abs (signed_of 64 y)
    go (inl h) = ap (λ (b : Bool). cond b (2 ^ 64 - y) y) (lt-leb (2 ^ 63) y h) ∙ sym (ap nat_abs (signed_low 64 y h))
    go (inr h) = ap (λ (b : Bool). cond b (2 ^ 64 - y) y) (le-leb (2 ^ 63) y h) ∙ one ∙ sym (ap nat_abs (signed_high 64 y h))
