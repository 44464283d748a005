-- A fraction rounded to the nearest whole number, by one test (twice the remainder, and one more where the quotient is odd, against the divisor),
-- or by one sum.
use Rattle.std.specs.Prelude.{◌≡◌, ◌≤◌, ◌<◌, ◌+◌, ◌-◌, ◌*◌, ◌^◌, ◌%◌, ◌/◌}
use Rattle.common.specs.Logic.{◌∙◌, sym, ap, refl, subst, ap₂, not, ⊎_elim, lt_of_le_of_lt, le_of_lt, ℕ, suc, compare, Ordering, le_trans, le_of_eq, mod-lt, mul-le-mul_right, mod-eq_of_lt, mul_assoc, add-zero, suc-mul, mul_comm, one-mul, div-eq_of_lt, mul-div_cancel, arith, eqb, T, lit<, eqb→eq}
use Rattle.std.proofs.Common.{add-sub_of_le, add-one, leb→le, pow_pos, pow_mono, pow-add, shl_exact}
use native.Mathlib.Nat.{mul-mod_left}
use lib.Dec.{is_le, compare_is_eq, nleb→lt, eqb_refl}
use lib.Arith.{lt_of_le-ne}
use lib.Bits.{bit_and, and_mask}
use lib.Pow.{split, high}
use lib.Ieee.{nearest}
use lib.Ieee.Nearest.{closest, closest_same, closest_mono}
use Rattle.numbers.proofs.Size.{lt-or-ge}

abbrev Cmp : Ordering → ℕ → ℕ → Type 0
Cmp Prim.Native.Nat.Ordering.lt a b = a < b
Cmp Prim.Native.Nat.Ordering.eq a b = a ≡ b
Cmp Prim.Native.Nat.Ordering.gt a b = b < a

cmp : (a b : ℕ) → Cmp (compare a b) a b
cmp a b = go (compare a b) (leb→le a b) (nleb→lt a b) (eqb→eq a b) (λ (e : a ≡ b). subst (λ (x : ℕ). T (eqb a x)) e (eqb_refl a))
  where
    go : (o : Ordering) → (T (is_le o) → a ≤ b) → (T (not (is_le o)) → b < a) → (T (compare_is_eq o) → a ≡ b) → (a ≡ b → T (compare_is_eq o)) → Cmp o a b
    go Prim.Native.Nat.Ordering.lt h k e n = lt_of_le-ne (h tt) n
    go Prim.Native.Nat.Ordering.eq h k e n = e tt
    go Prim.Native.Nat.Ordering.gt h k e n = k tt

near_up : (q r u : ℕ) (o : Ordering) → Cmp o (r * 2) u → u < r * 2 + q % 2 → q + 1 ≡ nearest q o
near_up q r u Prim.Native.Nat.Ordering.lt c h = omega arith
near_up q r u Prim.Native.Nat.Ordering.eq c h = omega arith
near_up q r u Prim.Native.Nat.Ordering.gt c h = omega arith

near-stay : (q r u : ℕ) (o : Ordering) → Cmp o (r * 2) u → r * 2 + q % 2 ≤ u → q ≡ nearest q o
near-stay q r u Prim.Native.Nat.Ordering.lt c h = refl
near-stay q r u Prim.Native.Nat.Ordering.eq c h = omega arith
near-stay q r u Prim.Native.Nat.Ordering.gt c h = omega arith

closest-up : (m u : ℕ) → u < m % u * 2 + m / u % 2 → m / u + 1 ≡ closest m u
closest-up m u h = near_up (m / u) (m % u) u (compare (m % u * 2) u) (cmp (m % u * 2) u) h

closest-stay : (m u : ℕ) → m % u * 2 + m / u % 2 ≤ u → m / u ≡ closest m u
closest-stay m u h = near-stay (m / u) (m % u) u (compare (m % u * 2) u) (cmp (m % u * 2) u) h

-- of a fraction up to a half
below_one : (m u : ℕ) → m < u → m % u * 2 + m / u % 2 ≡ m * 2
below_one m u a = ap (λ (x : ℕ). x * 2 + m / u % 2) (mod-eq_of_lt a) ∙ ap (λ (x : ℕ). m * 2 + x % 2) (div-eq_of_lt a) ∙ add-zero (m * 2)

small-stay : (m u : ℕ) → m < u → m * 2 ≤ u → 0 ≡ closest m u
small-stay m u a h = sym (div-eq_of_lt a) ∙ closest-stay m u (le_trans (le_of_eq (below_one m u a)) h)

-- ---- a whole number of u is that number
closest-whole : (q u : ℕ) → 0 < u → q ≡ closest (q * u) u
closest-whole q u h = sym (mul-div_cancel q h) ∙ closest-stay (q * u) u (omega (arith, mul-mod_left q u))

-- and what is no more than that is rounded to no more
pub closest-le : (n q u : ℕ) → 0 < u → n ≤ q * u → closest n u ≤ q
closest-le n q u U h = le_trans (closest_mono n u (q * u) u U U (mul-le-mul_right u h)) (le_of_eq (sym (closest-whole q u U)))

-- ---- a number's low digits as the code cuts them off, at a d below 64
module _ (m d : ℕ) (h : d < 64) where
  pub unit-is : 1 * 2 ^ d % 2 ^ 64 ≡ 2 ^ d
  unit-is = shl_exact {a = 1} 1 d 64 (lit< tt) (omega arith) ∙ one-mul (2 ^ d)

  pub rest-is : bit_and m (1 * 2 ^ d % 2 ^ 64 - 1) ≡ m % 2 ^ d
  rest-is = ap (λ (x : ℕ). bit_and m (x - 1)) unit-is ∙ and_mask m d

-- half of 2 ^ w
pub half_is : (w : ℕ) → w ≤ 64 → 1 * 2 ^ (w - 1) % 2 ^ 64 ≡ 2 ^ (w - 1)
half_is w h = unit-is 0 (w - 1) (omega arith)

-- ---- m / 2 ^ (k + 1) by one sum: half of the last digit that stays, less one where that digit is 0
module _ (m k : ℕ) where
  abbrev quotient : ℕ
  quotient = m / 2 ^ (k + 1)

  abbrev rest : ℕ
  rest = m % 2 ^ (k + 1)

  twice : 2 ^ (k + 1) ≡ 2 * 2 ^ k
  twice = pow-add 2 k 1 ∙ mul_comm (2 ^ k) 2

  pub near : (m + (2 ^ k - 1) + quotient % 2) / 2 ^ (k + 1) ≡ closest m (2 ^ (k + 1))
  near =
      let a = split m (k + 1) in
      let b = mod-lt m (pow_pos (k + 1)) in
      let u = twice in
      ⊎_elim
      (λ (h : 2 ^ (k + 1) < rest * 2 + quotient % 2).
      let r = rest + (2 ^ k - 1) + quotient % 2 - 2 ^ (k + 1) in
      let e : m + (2 ^ k - 1) + quotient % 2 ≡ suc quotient * 2 ^ (k + 1) + r = omega (arith, suc-mul quotient (2 ^ (k + 1)), pow_pos k) in
      ap (λ (x : ℕ). x / 2 ^ (k + 1)) e ∙ high (suc quotient) (k + 1) (omega (arith, pow_pos k)) ∙ sym (add-one quotient) ∙ closest-up m (2 ^ (k + 1)) h)
      (λ (h : rest * 2 + quotient % 2 ≤ 2 ^ (k + 1)).
      let r = rest + (2 ^ k - 1) + quotient % 2 in
      let e : m + (2 ^ k - 1) + quotient % 2 ≡ quotient * 2 ^ (k + 1) + r = omega arith in
      ap (λ (x : ℕ). x / 2 ^ (k + 1)) e ∙ high quotient (k + 1) (omega (arith, pow_pos k)) ∙ closest-stay m (2 ^ (k + 1)) h)
      (lt-or-ge (2 ^ (k + 1)) (rest * 2 + quotient % 2))

-- as the code makes it, of the 63 low bits x of m
module _ (m x d : ℕ) (X : x ≡ m % 2 ^ 63) where
  x_lt : x < 2 ^ 63
  x_lt = lt_of_le_of_lt (le_of_eq X) (mod-lt m (pow_pos 63))

  pub near-all : 64 ≤ d → 0 ≡ closest (m % 2 ^ 63) (2 ^ d)
  near-all l = let u : 2 ^ 64 ≤ 2 ^ d = pow_mono l in let h = x_lt in small-stay (m % 2 ^ 63) (2 ^ d) (omega arith) (omega arith)

  module _ (D : d ≡ 0 → ⊥) (L : d < 64) where
    pub near-is : (x + (1 * 2 ^ (d - 1) % 2 ^ 64 - 1) + bit_and (x / 2 ^ d) 1) / 2 ^ d ≡ closest (m % 2 ^ 63) (2 ^ d)
    near-is =
        let e : d - 1 + 1 ≡ d = omega arith in
        ap₂ (λ (h y : ℕ). (x + (h - 1) + y) / 2 ^ d) (half_is d (le_of_lt L)) (and_mask (x / 2 ^ d) 1)
        ∙ subst (λ (j : ℕ). (x + (2 ^ (d - 1) - 1) + x / 2 ^ j % 2) / 2 ^ j ≡ closest x (2 ^ j)) e (near x (d - 1))
        ∙ ap (λ (y : ℕ). closest y (2 ^ d)) X

-- ---- m * 2 ^ l / 2 ^ d, as one shift
module _ (m l d : ℕ) where
  pub right : l ≤ d → closest m (2 ^ (d - l)) ≡ closest (m * 2 ^ l) (2 ^ d)
  right g =
      closest_same m (2 ^ (d - l)) (m * 2 ^ l) (2 ^ d) (pow_pos (d - l)) (pow_pos d)
      (ap (λ (x : ℕ). m * x) (ap (λ (x : ℕ). 2 ^ x) (sym (add-sub_of_le g)) ∙ pow-add 2 l (d - l)) ∙ sym (mul_assoc m (2 ^ l) (2 ^ (d - l))))
