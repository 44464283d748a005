-- How many binary digits a number has: `size`, by its bounds and by the count of leading zeros.
use Rattle.std.specs.Prelude.{◌≡◌, ◌≤◌, ◌<◌, ◌+◌, ◌*◌, ◌^◌}
use Rattle.common.specs.Logic.{◌∙◌, ap, refl, ℕ, suc, zero, lt_of_lt_of_le, lt_of_le_of_lt, pow-succ', le_antisymm, arith}
use native.Mathlib.Nat.{lt_of_not-le, lt_irrefl}
use lib.Arith.{lt-one}
use lib.Pow.{pow_mono}
use lib.Count.{count_leading_zeros, leading_length}
use lib.Ieee.{size}
use lib.Ieee.Digits.{size-lt, size-le}

pub pow_lt_back : (i p : ℕ) → 2 ^ i < 2 ^ p → i < p
pow_lt_back i p h = lt_of_not-le (λ (g : p ≤ i). lt_irrefl (2 ^ i) (lt_of_lt_of_le h (pow_mono g)))

-- a number from 2 ^ a to below 2 ^ (a + 1) has a + 1 digits
pub size_exact : (a n : ℕ) → 2 ^ a ≤ n → n < 2 ^ suc a → size n ≡ suc a
size_exact a n lo hi = le_antisymm (size-le n (suc a) hi) (pow_lt_back a (size n) (lt_of_le_of_lt lo (size-lt n)))

pub size-zero : size 0 ≡ 0
unfolding size
size-zero = refl

pub size-pos : (m : ℕ) → 0 < m → 0 < size m
size-pos m h = pow_lt_back 0 (size m) (lt_of_le_of_lt h (size-lt m))

-- the leading zeros and the digits make the width
pub size-leading : (k n : ℕ) → n < 2 ^ k → count_leading_zeros k n + size n ≡ k
size-leading k n h = go (leading_length k n h)
  where
    half : (a b m : ℕ) → b ≡ 2 * a → b ≤ 2 * m + 1 → a ≤ m
    half a b m e l = omega arith

    go : (m : ℕ) × (count_leading_zeros k n + m ≡ k) × (n < 2 ^ m) × (2 ^ m ≤ 2 * n + 1) → count_leading_zeros k n + size n ≡ k
    go (zero, e, a, b) = ap (λ (x : ℕ). count_leading_zeros k n + x) (ap size (lt-one a) ∙ size-zero) ∙ e
    go (suc m, e, a, b) = ap (λ (x : ℕ). count_leading_zeros k n + x) (size_exact m n (half (2 ^ m) (2 ^ suc m) n (pow-succ' 2 m) b) a) ∙ e
