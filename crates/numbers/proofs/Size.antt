-- How many binary digits a number has: what `size` is, by bounds; and shifts of it.
use Rattle.std.specs.Prelude.{◌≡◌, ◌⊎◌, ◌≤◌, ◌<◌, ◌+◌, ◌-◌, ◌*◌, ◌^◌, ◌/◌}
use Rattle.common.specs.Logic.{◌∙◌, sym, ap, subst, ⊎_elim, inl, inr, ℕ, suc, le_trans, lt_of_lt_of_le, le_of_eq, lt_of_le_of_lt, mul-le-mul_right, mul_assoc, le-div_iff_mul-le, div-eq_of_lt, arith}
use Rattle.std.proofs.Common.{lt_irrefl, lt_of_not-le, pow_pos, pow_mono, pow-add, shl_lt, shr_lt}
use lib.Pow.{pow-lt}
use lib.Ieee.{size}
use Rattle.common.proofs.Lists.{order}
use Rattle.common.proofs.Digits.{pow_lt_back, size_exact, size-pos, size-zero}
use lib.Ieee.Digits.{size-lt, size_reaches}

pub lt-or-ge : (a b : ℕ) → (a < b) ⊎ (b ≤ a)
lt-or-ge a b = ⊎_elim inr inl (order b a)

pub pow_le_back : (a l : ℕ) → 2 ^ a ≤ 2 ^ l → a ≤ l
pow_le_back a l h = omega (arith, lt_of_not-le (λ (g : suc l ≤ a). lt_irrefl (2 ^ l) (lt_of_lt_of_le (pow-lt g) h)))

pub size-gt : (n j : ℕ) → 2 ^ j ≤ n → j < size n
size-gt n j h = pow_lt_back j (size n) (lt_of_le_of_lt h (size-lt n))

-- ---- the whole part of m * 2 ^ l / 2 ^ b has l more digits than m, and b fewer
pub size-shift : (m l b : ℕ) → 0 < m → size (m * 2 ^ l / 2 ^ b) ≡ size m + l - b
size-shift m l b h =
    let z = size m in
    ⊎_elim
    (λ k.
    let a = z + l - b - 1 in
    let zp : 0 < z = size-pos m h in
    let e : z - 1 + l ≡ a + b = omega arith in
    let lo : 2 ^ a * 2 ^ b ≤ m * 2 ^ l =
    le_trans (le_of_eq (sym (pow-add 2 a b) ∙ ap (λ (x : ℕ). 2 ^ x) (sym e) ∙ pow-add 2 (z - 1) l)) (mul-le-mul_right (2 ^ l) (size_reaches m (z - 1) (omega arith))) in
    let f : z + l ≡ suc a + b = omega arith in
    let hi : m * 2 ^ l < 2 ^ (suc a + b) = subst (λ (x : ℕ). m * 2 ^ l < 2 ^ x) f (shl_lt z l (size-lt m)) in
    size_exact a (m * 2 ^ l / 2 ^ b) ((le-div_iff_mul-le (pow_pos b)).1 lo) (shr_lt (suc a) b hi) ∙ omega arith)
    (λ k. ap size (div-eq_of_lt (lt_of_lt_of_le (shl_lt z l (size-lt m)) (pow_mono k))) ∙ size-zero ∙ omega arith)
    (lt-or-ge b (z + l))

-- ---- two shifts are one
pub times-pow : (m i j : ℕ) → m * 2 ^ i * 2 ^ j ≡ m * 2 ^ (i + j)
times-pow m i j = mul_assoc m (2 ^ i) (2 ^ j) ∙ ap (λ (x : ℕ). m * x) (sym (pow-add 2 i j))
