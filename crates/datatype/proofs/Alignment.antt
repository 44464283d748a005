-- `align_to`: never below the number, above it by at most the alignment, and a multiple, the least of those not below the number;
-- and how two powers of two align.
use Rattle.std.specs.Prelude.{◌≡◌, ◌≤◌, ◌<◌, ◌+◌, ◌-◌, ◌*◌, ◌^◌, ◌%◌, ◌/◌}
use Rattle.common.specs.Logic.{◌∙◌, sym, ap, refl, true, ⊎_elim, ℕ, suc, zero, max, mod-lt, mul-le-mul_right, add-mul, div-add-mod', div-lt_iff_lt-mul, sub-add_cancel, div-mul-le_self, le_antisymm, le_refl, arith, eq-eqb, eqb-true}
use native.Mathlib.Nat.{mul-mod_left, div-eq_of_lt-le, dvd_trans, dvd_of_mod-eq-zero, mod-eq-zero_of_dvd, lt-suc_self}
use lib.Ieee.{size}
use lib.Pow.{pow_pos, pow-lt, pow-add}
use Rattle.common.proofs.Digits.{size_exact}
use Rattle.common.proofs.Lists.{order}
use Rattle.datatype.specs.Arithmetic.{align_to, is_power_of_two}
use Rattle.datatype.specs.Claims.{AlignClaim, PowerClaim}

pub align-le : (x a : ℕ) → align_to x a ≤ x + a
unfolding align_to
align-le x zero = omega arith
align-le x (suc k) = omega (arith, div-mul-le_self (x + k) (suc k))

pub align-ge : (x a : ℕ) → x ≤ align_to x a
unfolding align_to
align-ge x zero = omega arith
align-ge x (suc k) =
    let h : (x + k) % suc k < suc k = mod-lt (x + k) (omega arith) in
    omega (arith, div-add-mod' (x + k) (suc k))

pub align-multiple : (x a : ℕ) → 0 < a → align_to x a % a ≡ 0
unfolding align_to
align-multiple x zero h = absurd (omega arith)
align-multiple x (suc k) h = mul-mod_left ((x + k) / suc k) (suc k)

pub align-least : (x a m : ℕ) → 0 < a → m % a ≡ 0 → x ≤ m → align_to x a ≤ m
unfolding align_to
align-least x zero m h e l = absurd (omega arith)
align-least x (suc k) m h e l =
    let q : ℕ = m / suc k in
    let w : x + k < (q + 1) * suc k = omega (arith, div-add-mod' m (suc k), add-mul q 1 (suc k)) in
    let v : (x + k) / suc k < q + 1 = (div-lt_iff_lt-mul h).1 w in
    omega (arith, mul-le-mul_right {m = (x + k) / suc k} {n = q} (suc k) (omega arith), div-add-mod' m (suc k))

pub align-claim : AlignClaim
unfolding align_to
align-claim =
    record {
      aligned = λ x a h. record { multiple = align-multiple x a h; not_below = align-ge x a; least = λ m. align-least x a m h };
      unchanged = λ x. refl;
    }

-- a number that is within the aligned one changes nothing
pub align-max : (x y a : ℕ) → 0 < a → y ≤ align_to x a → align_to (max y x) a ≡ align_to x a
align-max x y a h l =
    le_antisymm
    (align-least (max y x) a (align_to x a) h (align-multiple x a h) (omega (arith, align-ge x a)))
    (align-least x a (align_to (max y x) a) h (align-multiple (max y x) a h) (omega (arith, align-ge (max y x) a)))

-- a multiple that is not below x, and above it by less than the alignment
pub align-at : (x k q : ℕ) → x ≤ q * suc k → q * suc k ≤ x + k → align_to x (suc k) ≡ q * suc k
unfolding align_to
align-at x k q l h = rw (div-eq_of_lt-le (suc k) h (omega (arith, add-mul q 1 (suc k))))

-- ---- powers of two

-- a power of two is above 0
pub power-positive : (a : ℕ) → is_power_of_two a ≡ true → 0 < a
unfolding is_power_of_two
power-positive a h = omega (arith, eqb-true a (2 ^ (size a - 1)) h, pow_pos (size a - 1))

power-mod : (a b i j : ℕ) → a ≡ 2 ^ i → b ≡ 2 ^ j → a ≤ b → b % a ≡ 0
power-mod a b i j p q l =
    ⊎_elim
    (λ h. rw (p, q, ap (λ (n : ℕ). 2 ^ n) (sym (sub-add_cancel h)) ∙ pow-add 2 (j - i) i) (mul-mod_left (2 ^ (j - i)) (2 ^ i)))
    (λ h. absurd (omega (arith, pow-lt h)))
    (order i j)

pub power-claim : PowerClaim
unfolding is_power_of_two
power-claim =
    record {
      holds = λ k. let e : size (2 ^ k) - 1 ≡ k = omega (arith, size_exact k (2 ^ k) (le_refl (2 ^ k)) (pow-lt (lt-suc_self k))) in eq-eqb _ _ (ap (λ (n : ℕ). 2 ^ n) (sym e));
      only = λ x h. (size x - 1, eqb-true x (2 ^ (size x - 1)) h);
    }

-- of two powers of two the smaller divides the larger
power_divides : (a b : ℕ) → is_power_of_two a ≡ true → is_power_of_two b ≡ true → a ≤ b → b % a ≡ 0
unfolding is_power_of_two
power_divides a b p q = power-mod a b (size a - 1) (size b - 1) (eqb-true _ _ p) (eqb-true _ _ q)

-- a later end aligned to a larger power of two lies no earlier
pub align-mono : (x y a b : ℕ) → is_power_of_two a ≡ true → is_power_of_two b ≡ true → x ≤ y → a ≤ b → align_to x a ≤ align_to y b
align-mono x y a b p q l h =
    let m = mod-eq-zero_of_dvd a (dvd_trans a (dvd_of_mod-eq-zero a (power_divides a b p q h)) (dvd_of_mod-eq-zero b (align-multiple y b (power-positive b q)))) in
    align-least x a (align_to y b) (power-positive a p) m (omega (arith, align-ge y b))
