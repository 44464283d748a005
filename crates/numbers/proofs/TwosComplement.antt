-- Two's complement in w bits.
use Rattle.std.specs.Prelude.{◌≡◌, ◌≤◌, ◌<◌, ◌+◌, ◌-◌, ◌*◌, ◌^◌, ◌%◌, ◌/◌}
use Rattle.common.specs.Logic.{◌∙◌, sym, ap, refl, subst, ap₂, ⊎_elim, ℕ, suc, le_trans, lt_of_lt_of_le, le_of_eq, mod-lt, mul-le-mul_right, mod-eq_of_lt, suc-mul, mul_comm, pow-succ', sub-add_cancel, arith, lt-ltb, le-ltb}
use native.Mathlib.Nat.{mul-sub}
use lib.Arith.{digits_mod}
use Rattle.std.proofs.Common.{ℤ, pos, negsuc, pow_pos, pow_mono, pow-add, shr_lt}
use lib.Pow.{split, mod-mod-pow}
use Rattle.numbers.proofs.Size.{lt-or-ge}
use Rattle.numbers.specs.Casts.{signed_of, int_to_int}

pub signed_low : (w x : ℕ) → x < 2 ^ (w - 1) → signed_of w x ≡ pos x
signed_low w x h = rw (lt-ltb x (2 ^ (w - 1)) h)

pub signed_high : (w x : ℕ) → 2 ^ (w - 1) ≤ x → signed_of w x ≡ negsuc (2 ^ w - suc x)
signed_high w x h = rw (le-ltb x (2 ^ (w - 1)) h)

pub twice_half : (w : ℕ) → 0 < w → 2 ^ w ≡ 2 * 2 ^ (w - 1)
twice_half w h = let e : w ≡ suc (w - 1) = omega arith in ap (λ (k : ℕ). 2 ^ k) e ∙ pow-succ' 2 (w - 1)

-- ---- a difference, counted round through 64 bits
pub wrap_back : (a b : ℕ) → a < 2 ^ 64 → b < 2 ^ 64 → ((a + (2 ^ 64 - b)) % 2 ^ 64 + b) % 2 ^ 64 ≡ a
wrap_back a b h k = omega arith

-- ---- a negative number's pattern in fewer digits
complement : (n j v : ℕ) → n < 2 ^ (j + v) → (2 ^ (j + v) - suc n) % 2 ^ v ≡ 2 ^ v - suc (n % 2 ^ v)
complement n j v h =
    let T = 2 ^ v in
    let q = n / T in
    let r = n % T in
    let q-lt : q < 2 ^ j = shr_lt j v h in
    let r-lt : r < T = mod-lt n (pow_pos v) in
    let dt : (2 ^ j - suc q) * T ≡ 2 ^ j * T - suc q * T = mul_comm (2 ^ j - suc q) T ∙ mul-sub T (2 ^ j) (suc q) ∙ ap₂ ◌-◌ (mul_comm T (2 ^ j)) (mul_comm T (suc q)) in
    let e : 2 ^ (j + v) - suc n ≡ (2 ^ j - suc q) * T + (T - suc r) = omega (arith, pow-add 2 j v, split n v, suc-mul q T, mul-le-mul_right T q-lt) in
    ap (λ (x : ℕ). x % T) e ∙ digits_mod (2 ^ j - suc q) {m = T} {r = T - suc r} (omega arith)

pub narrower : (v : ℕ) (z : ℤ) → v ≤ 64 → int_to_int 64 z % 2 ^ v ≡ int_to_int v z
unfolding int_to_int
narrower v (pos n) h = ap (λ (x : ℕ). n % 2 ^ x % 2 ^ v) (sym (sub-add_cancel h)) ∙ mod-mod-pow n (64 - v) v
narrower v (negsuc n) h =
    ap (λ (x : ℕ). (2 ^ x - suc (n % 2 ^ x)) % 2 ^ v) (sym (sub-add_cancel h))
    ∙ complement (n % 2 ^ (64 - v + v)) (64 - v) v (mod-lt n (pow_pos (64 - v + v)))
    ∙ ap (λ (x : ℕ). 2 ^ v - suc x) (mod-mod-pow n (64 - v) v)

-- ---- the pattern in 64 digits
pub extend-low : (w x : ℕ) → x < 2 ^ 64 → x < 2 ^ (w - 1) → x ≡ int_to_int 64 (signed_of w x)
unfolding int_to_int
extend-low w x f h = sym (mod-eq_of_lt f) ∙ ap (int_to_int 64) (sym (signed_low w x h))

pub extend-high : (w x o : ℕ) → w ≤ 64 → o ≡ 2 ^ w - 1 → x < 2 ^ w → 2 ^ (w - 1) ≤ x → x + (2 ^ 64 - 1 - o) ≡ int_to_int 64 (signed_of w x)
unfolding int_to_int
extend-high w x o l O f h =
    let t : 2 ^ w ≤ 2 ^ 64 = pow_mono l in
    let e : x + (2 ^ 64 - 1 - o) ≡ 2 ^ 64 - suc (2 ^ w - suc x) = omega arith in
    e ∙ ap (λ (n : ℕ). 2 ^ 64 - suc n) (sym (mod-eq_of_lt (omega arith))) ∙ ap (int_to_int 64) (sym (signed_high w x h))

-- ---- the pattern in 64 digits by no branch: moved up by half of the numbers, cut, and moved down
module _ (w x h : ℕ) (W : 0 < w) (L : w ≤ 64) (F : x < 2 ^ w) (H : h ≡ 2 ^ (w - 1)) where
  pub extend-is : (y r : ℕ) → y ≡ (x + h) % 2 ^ 64 % 2 ^ w → r ≡ (y + (2 ^ 64 - h)) % 2 ^ 64 → r ≡ int_to_int 64 (signed_of w x)
  extend-is y r Y R =
      let all : 2 ^ w ≡ 2 * h = twice_half w W ∙ ap (λ (z : ℕ). 2 * z) (sym H) in
      let most : 2 ^ w ≤ 2 ^ 64 = pow_mono L in
      let some : 0 < h = subst (λ (z : ℕ). 0 < z) (sym H) (pow_pos (w - 1)) in
      let cut : (x + h) % 2 ^ 64 % 2 ^ w ≡ (x + h) % 2 ^ w = ap (λ (k : ℕ). (x + h) % 2 ^ k % 2 ^ w) (sym (sub-add_cancel L)) ∙ mod-mod-pow (x + h) (64 - w) w in
      R ∙ ap (λ (z : ℕ). (z + (2 ^ 64 - h)) % 2 ^ 64) (Y ∙ cut)
      ∙ ⊎_elim
      (λ (l : x < h).
      let half : h ≤ 2 ^ 63 = omega arith in
      let whole : x + h + (2 ^ 64 - h) ≡ 2 ^ 64 + x = omega arith in
      let back : (x + h + (2 ^ 64 - h)) % 2 ^ 64 ≡ x = rw whole (omega arith) in
      ap (λ (z : ℕ). (z + (2 ^ 64 - h)) % 2 ^ 64) (mod-eq_of_lt (omega arith)) ∙ back ∙ extend-low w x (lt_of_lt_of_le F most) (lt_of_lt_of_le l (le_of_eq H)))
      (λ l.
      let past : x + h ≡ 1 * 2 ^ w + (x - h) = omega arith in
      let back : (x - h + (2 ^ 64 - h)) % 2 ^ 64 ≡ x + (2 ^ 64 - 1 - (2 ^ w - 1)) = omega arith in
      ap (λ (z : ℕ). (z + (2 ^ 64 - h)) % 2 ^ 64) (ap (λ (z : ℕ). z % 2 ^ w) past ∙ digits_mod 1 {m = 2 ^ w} {r = x - h} (omega arith))
      ∙ back ∙ extend-high w x (2 ^ w - 1) L refl F (le_trans (le_of_eq (sym H)) l))
      (lt-or-ge x h)

-- ---- the number that the pattern in 64 digits stands for
module _ (w x : ℕ) (W : 0 < w) (L : w ≤ 64) (F : x < 2 ^ w) where
  pub same_number_lem : signed_of 64 (int_to_int 64 (signed_of w x)) ≡ signed_of w x
  same_number_lem =
      let half : 2 ^ (w - 1) ≤ 2 ^ 63 = pow_mono {i = w - 1} {j = 63} (omega arith) in
      let all : 2 ^ w ≡ 2 * 2 ^ (w - 1) = twice_half w W in
      let most : 2 ^ w ≤ 2 ^ 64 = pow_mono L in
      ⊎_elim
      (λ (l : x < 2 ^ (w - 1)). ap (signed_of 64) (sym (extend-low w x (lt_of_lt_of_le F most) l)) ∙ signed_low 64 x (lt_of_lt_of_le l half) ∙ sym (signed_low w x l))
      (λ (l : 2 ^ (w - 1) ≤ x).
      let y = x + (2 ^ 64 - 1 - (2 ^ w - 1)) in
      let back : 2 ^ 64 - suc y ≡ 2 ^ w - suc x = omega arith in
      ap (signed_of 64) (sym (extend-high w x (2 ^ w - 1) L refl F l)) ∙ signed_high 64 y (omega arith) ∙ ap negsuc back ∙ sym (signed_high w x l))
      (lt-or-ge x (2 ^ (w - 1)))
