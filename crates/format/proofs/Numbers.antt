-- Laws of the numbers that bits spell: one number after another, and back.
use Rattle.std.specs.Prelude.{◌≡◌, ◌<◌, ◌+◌, ◌*◌, ◌^◌}
use Rattle.common.specs.Logic.{◌∙◌, sym, List, ℕ, suc, zero, mul-le-mul_right, zero-add, add-zero, add-suc, add_assoc, arith}
use native.Mathlib.Nat.{pow-suc}
use lib.Pow.{pow-add, high, low}
use Rattle.format.specs.Bits.{number_at}

-- the bits of two parts that follow one another
pub number-add : (s : List ℕ) (p a b : ℕ) → number_at s p (a + b) ≡ number_at s p a * 2 ^ b + number_at s (p + a) b
unfolding number_at
number-add s p a zero = rw (add-zero a) (omega arith)
number-add s p a (suc b) =
    rw (add-suc, number-add s p a b, pow-suc) (rw (← add_assoc p a b) (omega arith))

-- the first bits, and those after them
pub number-split : (s : List ℕ) (w r : ℕ) → number_at s 0 (w + r) ≡ number_at s 0 w * 2 ^ r + number_at s w r
number-split s w r = number-add s 0 w r ∙ rw (zero-add w)

-- a number is made of its two parts in one way
pub parts : {a b c e : ℕ} (k : ℕ) → b < 2 ^ k → e < 2 ^ k → a * 2 ^ k + b ≡ c * 2 ^ k + e → (a ≡ c) × (b ≡ e)
parts {a} {c = c} k h l q = (sym (high a k h) ∙ rw q (high c k l), sym (low a k h) ∙ rw q (low c k l))

pub joined_small : {v m : ℕ} (w r : ℕ) → v < 2 ^ w → m < 2 ^ r → v * 2 ^ r + m < 2 ^ (w + r)
joined_small w r h k = rw (pow-add 2 w r) (omega (arith, mul-le-mul_right (2 ^ r) h))
