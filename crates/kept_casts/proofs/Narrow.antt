-- binary64 to binary32: kept where the digits that binary32 has no room for are 0.
use Rattle.std.specs.Prelude.{◌≡◌, ◌⊎◌, ◌+◌, ◌-◌, ◌*◌, ◌/◌, ◌%◌, ◌^◌, ◌≤◌, ◌<◌, ◌&&◌, ◌||◌}
use Rattle.common.specs.Logic.{refl, sym, ap, ap₂, ◌∙◌, subst, Bool, true, false, inl, inr, ℕ, zero, suc, mul_assoc, mul-one, one-mul, zero-mul, mul-lt-mul_of_pos_right, mul-le-mul_right, le_trans, le_of_eq, lt_of_lt_of_le, lt_of_le_of_lt, mod-eq_of_lt, mod-lt, div-add-mod', sub-add_cancel, arith, eq-eqb, ne_eqb, le-leb, lt-leb, T, eqb, leb, lit≤, eqb→eq, cond, ltb, lt-ltb, le-ltb, add-zero, mul-div_cancel}
use lib.Bits.{bit_and, and_mask}
use mathlib.Core.Bool.{false≢true, or-false}
use Rattle.std.proofs.Common.{lt_of_mul-lt-mul_right, not-le_of_lt, pow_pos, pow_mono, pow-add, shl_lt, shr_lt}
use native.Mathlib.Nat.{eq_of_mul-eq-mul_right, mul-mod_left, mul-add-mod_self_right}
use lib.Pow.{split, mod-pow-add}
use lib.Ieee.{Float, nan, inf, fin, binary32, binary64, eq, is_nan, of_bits}
use lib.Ieee.Exact.{HasValue}
use Rattle.numbers.proofs.Size.{lt-or-ge}
use Rattle.numbers.proofs.Decoding.{read_low, read-middle, read-infinite, read-nan}
use Rattle.numbers.specs.Casts.{float, rounded}
use Rattle.kept_casts.specs.Kept.{is_kept}
use Rattle.kept_casts.specs.Steps.{Tells}
use Rattle.kept_casts.proofs.Same.{Fit, zero_of}
use Rattle.kept_casts.proofs.FewDigits.{agree}
use Rattle.common.proofs.Digits.{pow_lt_back}
use Rattle.kept_casts.proofs.Fractions.{rounded-fit, kept-rounded}
use Rattle.kept_casts.proofs.Kept.{kept_nan}

-- a fraction of binary64 in binary32's units: 1074 - 149 = 925
abbrev Narrow : ℕ → Type 0
Narrow a = Fit binary32 a (2 ^ 1074)

units : (a q j : ℕ) → a * 2 ^ 149 ≡ q * 2 ^ j * 2 ^ 1074 → a ≡ q * 2 ^ (j + 925)
units a q j h =
    eq_of_mul-eq-mul_right (2 ^ 149) (pow_pos 149) a (q * 2 ^ j * 2 ^ 925) (h ∙ sym (mul_assoc (q * 2 ^ j) (2 ^ 925) (2 ^ 149)))
    ∙ mul_assoc q (2 ^ j) (2 ^ 925) ∙ ap (λ (x : ℕ). q * x) (sym (pow-add 2 j 925))

-- ---- a significand m of 53 digits, times 2 ^ y; d is how many digits are too many
module _ (m y : ℕ) (M : 2 ^ 52 ≤ m) (N : m < 2 ^ 53) where
  under : (q j : ℕ) → q < 2 ^ 24 → m * 2 ^ y ≡ q * 2 ^ (j + 925) → 52 + y < 24 + (j + 925)
  under q j l e = pow_lt_back (52 + y) (24 + (j + 925))
      (lt_of_le_of_lt (le_trans (le_of_eq (pow-add 2 52 y)) (mul-le-mul_right (2 ^ y) M)) (lt_of_le_of_lt (le_of_eq e) (shl_lt {a = q} 24 (j + 925) l)))

  fit-zero : (d : ℕ) → (d ≡ 29) ⊎ (d + y ≡ 925) → Narrow (m * 2 ^ y) → m % 2 ^ d ≡ 0
  unfolding Fit
  fit-zero d D (q, j, l, u, e) =
      let a = units (m * 2 ^ y) q j e in
      let k = j + 925 - y in
      let r = under q j l a in
      let p : m ≡ q * 2 ^ (k - d) * 2 ^ d = eq_of_mul-eq-mul_right (2 ^ y) (pow_pos y) m (q * 2 ^ (k - d) * 2 ^ d)
      (a ∙ ap (λ (x : ℕ). q * 2 ^ x) (parts j r D) ∙ ap (λ (x : ℕ). q * x) (pow-add 2 (k - d + d) y ∙ ap (λ (x : ℕ). x * 2 ^ y) (pow-add 2 (k - d) d))
      ∙ sym (mul_assoc q (2 ^ (k - d) * 2 ^ d) (2 ^ y)) ∙ ap (λ (x : ℕ). x * 2 ^ y) (sym (mul_assoc q (2 ^ (k - d)) (2 ^ d)))) in
      ap (λ (x : ℕ). x % 2 ^ d) p ∙ mul-mod_left (q * 2 ^ (k - d)) (2 ^ d)
    where
      parts : (j : ℕ) → 52 + y < 24 + (j + 925) → (d ≡ 29) ⊎ (d + y ≡ 925) → j + 925 ≡ j + 925 - y - d + d + y
      parts j h (inl e) = omega arith
      parts j h (inr e) = omega arith

  zero-fit : (d : ℕ) → 29 ≤ d → 925 ≤ d + y → y < 1150 → m % 2 ^ d ≡ 0 → Narrow (m * 2 ^ y)
  unfolding Fit
  zero-fit d a b c z =
      let q = m / 2 ^ d in
      let j = d + y - 925 in
      let p : m ≡ q * 2 ^ d = sym (split m d) ∙ ap (λ (x : ℕ). q * 2 ^ d + x) z ∙ plus (q * 2 ^ d) in
      let e : m * 2 ^ y ≡ q * 2 ^ j * 2 ^ 925 =
      ap (λ (x : ℕ). x * 2 ^ y) p ∙ mul_assoc q (2 ^ d) (2 ^ y) ∙ ap (λ (x : ℕ). q * x) (sym (pow-add 2 d y) ∙ ap (λ (x : ℕ). 2 ^ x) (sum (d + y) b) ∙ pow-add 2 j 925) ∙ sym (mul_assoc q (2 ^ j) (2 ^ 925)) in (
        q,
        j,
        shr_lt 24 d (lt_of_lt_of_le N (pow_mono (room d a))),
        lt_of_mul-lt-mul_right (2 ^ 925) {m = (q * 2 ^ j)} {n = (2 ^ 277)} (lt_of_le_of_lt (le_of_eq (sym e)) (lt_of_lt_of_le (shl_lt {a = m} 53 y N) (pow_mono (top-room y c)))),
        ap (λ (x : ℕ). x * 2 ^ 149) e ∙ mul_assoc (q * 2 ^ j) (2 ^ 925) (2 ^ 149),
      )
    where
      plus : (x : ℕ) → x + 0 ≡ x
      plus x = omega arith

      sum : (s : ℕ) → 925 ≤ s → s ≡ s - 925 + 925
      sum s h = omega arith

      room : (d : ℕ) → 29 ≤ d → 53 ≤ 24 + d
      room d h = omega arith

      top-room : (y : ℕ) → y < 1150 → 53 + y ≤ 1202
      top-room y h = omega arith

  -- 2 ^ 128 or more
  too_large : 1150 ≤ y → Narrow (m * 2 ^ y) → ⊥
  unfolding Fit
  too_large h (q, j, l, u, e) =
      not-le_of_lt (lt_of_le_of_lt (le_of_eq (units (m * 2 ^ y) q j e ∙ ap (λ (x : ℕ). q * x) (pow-add 2 j 925) ∙ sym (mul_assoc q (2 ^ j) (2 ^ 925)))) (mul-lt-mul_of_pos_right u (pow_pos 925)))
      (le_trans (pow_mono (go y h)) (le_trans (le_of_eq (pow-add 2 52 y)) (mul-le-mul_right (2 ^ y) M)))
    where
      go : (y : ℕ) → 1150 ≤ y → 1202 ≤ 52 + y
      go y h = omega arith

  -- less than half of binary32's smallest value
  too_small : y < 873 → Narrow (m * 2 ^ y) → ⊥
  too_small h f = no (sym (mod-eq_of_lt (lt_of_lt_of_le N (pow_mono (go y h)))) ∙ fit-zero (925 - y) (inr (back y h)) f) M
    where
      go : (y : ℕ) → y < 873 → 53 ≤ 925 - y
      go y h = omega arith

      back : (y : ℕ) → y < 873 → 925 - y + y ≡ 925
      back y h = omega arith

      no : m ≡ 0 → 2 ^ 52 ≤ m → ⊥
      no e h = omega arith

-- binary64's own smallest values
zero-narrow : (t : ℕ) → t ≡ 0 → Narrow (t * 2 ^ 0)
unfolding Fit
zero-narrow t e = (0, 0, pow_pos 24, pow_pos 277, ap (λ (x : ℕ). x * 1 * 2 ^ 149) e)

narrow-zero : (t : ℕ) → t < 2 ^ 52 → Narrow (t * 2 ^ 0) → t ≡ 0
unfolding Fit
narrow-zero t l (zero, j, a, u, e) = sym (mul-one t) ∙ units (t * 2 ^ 0) 0 j e ∙ zero-mul (2 ^ (j + 925))
narrow-zero t l (suc q, j, a, u, e) =
    absurd (not-le_of_lt l (le_trans (pow_mono (go j)) (le_trans (le_trans (le_of_eq (sym (one-mul (2 ^ (j + 925))))) (mul-le-mul_right (2 ^ (j + 925)) (some q))) (le_of_eq (sym (sym (mul-one t) ∙ units (t * 2 ^ 0) (suc q) j e))))))
  where
    go : (j : ℕ) → 52 ≤ j + 925
    go j = omega arith

    some : (q : ℕ) → 1 ≤ suc q
    some q = omega arith

-- ---- by the pattern: a without its sign, x the exponent's field, t the digits

finite_number : (v : Float) (s : Bool) (a c : ℕ) → HasValue v s a c → is_nan v ≡ false
unfolding is_nan
finite_number nan s a c h = absurd h
finite_number (inf t) s a c h = absurd h
finite_number (fin t m e) s a c h = refl

number_of : (v : Float) (s : Bool) → v ≡ inf s → (is_nan v ≡ false) × (eq v (rounded binary32 v) ≡ true)
unfolding is_nan rounded eq
number_of v true e = (ap is_nan e, ap (λ (u : Float). eq u (rounded binary32 u)) e)
number_of v false e = (ap is_nan e, ap (λ (u : Float). eq u (rounded binary32 u)) e)

is-nan : (v : Float) → v ≡ nan → is_nan v ≡ true
unfolding is_nan
is-nan v e = ap is_nan e

-- a finite value is kept where binary32 has it
finite-kept : (b : ℕ) (s : Bool) (n : ℕ) (r : Bool) → HasValue (of_bits binary64 b) s n (2 ^ 1074) → Tells r (Narrow n) → r ≡ is_kept (float binary64) (float binary32) b
finite-kept b s n r h t =
    agree r (eq (of_bits binary64 b) (rounded binary32 (of_bits binary64 b))) t (rounded-fit binary32 s n (2 ^ 1074) (of_bits binary64 b) (pow_pos 1074) h)
    ∙ sym (kept-rounded (float binary64) binary32 b (finite_number (of_bits binary64 b) s n (2 ^ 1074) h))

pub is_zero : (n : ℕ) → Tells (eqb n 0) (n ≡ 0)
is_zero n = ((λ e. eqb→eq n 0 (subst T (sym e) tt)), (λ e. eq-eqb n 0 e))

never : {A : Type 0} → (A → ⊥) → Tells false A
never h = ((λ e. absurd (false≢true e)), (λ a. absurd (h a)))

follows : {A B : Type 0} {r : Bool} → Tells r A → (A → B) → (B → A) → Tells r B
follows t f g = ((λ e. f (t.0 e)), (λ b. t.1 (g b)))

module _ (b a x : ℕ) (A : a ≡ b % 2 ^ 63) (X : x ≡ a / 2 ^ 52) where
  field : x ≡ b % 2 ^ 63 / 2 ^ 52
  field = X ∙ ap (λ (n : ℕ). n / 2 ^ 52) A

  parts : a ≡ x * 2 ^ 52 + b % 2 ^ 52
  parts = sym (div-add-mod' a (2 ^ 52)) ∙ ap₂ (λ (p q : ℕ). p * 2 ^ 52 + q) (sym X) (ap (λ (n : ℕ). n % 2 ^ 52) A ∙ low)
    where
      low : b % 2 ^ 63 % 2 ^ 52 ≡ b % 2 ^ 52
      low = omega arith

  x_lt : x < 2048
  x_lt = go field
    where
      go : x ≡ b % 2 ^ 63 / 2 ^ 52 → x < 2048
      go e = omega arith

  t-lt : b % 2 ^ 52 < 2 ^ 52
  t-lt = mod-lt b (pow_pos 52)

  -- the digits of a and those of the significand are the same up to the field
  same_low : (d : ℕ) → d ≤ 52 → a % 2 ^ d ≡ (2 ^ 52 + b % 2 ^ 52) % 2 ^ d
  same_low d h =
      let e : 2 ^ 52 ≡ 2 ^ (52 - d) * 2 ^ d = ap (λ (k : ℕ). 2 ^ k) (sym (sub-add_cancel h)) ∙ pow-add 2 (52 - d) d in
      let t = b % 2 ^ 52 in
      ap (λ (n : ℕ). n % 2 ^ d) (parts ∙ ap (λ (n : ℕ). x * n + t) e ∙ ap (λ (n : ℕ). n + t) (sym (mul_assoc x (2 ^ (52 - d)) (2 ^ d))))
      ∙ mul-add-mod_self_right (x * 2 ^ (52 - d)) (2 ^ d) t
      ∙ sym (ap (λ (n : ℕ). (n + t) % 2 ^ d) e ∙ mul-add-mod_self_right (2 ^ (52 - d)) (2 ^ d) t)

  value : 0 < x → x < 2047 → HasValue (of_bits binary64 b) (leb (2 ^ 63) b) ((2 ^ 52 + b % 2 ^ 52) * 2 ^ (x - 1)) (2 ^ 1074)
  value p q = read-middle binary64 b (leb (2 ^ 63) b) x (b % 2 ^ 52) refl field refl (2 ^ 52 + b % 2 ^ 52) (x - 1) refl refl (λ e. low e) (λ e. high e)
    where
      low : x ≡ 0 → ⊥
      low e = omega arith

      high : x ≡ 2047 → ⊥
      high e = omega arith

  lead : 2 ^ 52 ≤ 2 ^ 52 + b % 2 ^ 52
  lead = omega arith

  whole : 2 ^ 52 + b % 2 ^ 52 < 2 ^ 53
  whole = go (b % 2 ^ 52) t-lt
    where
      go : (t : ℕ) → t < 2 ^ 52 → 2 ^ 52 + t < 2 ^ 53
      go t h = omega arith

  -- the last d digits are 0
  by_digits : (d : ℕ) → 0 < x → x < 1151 → 29 ≤ d → d ≤ 52 → 926 ≤ d + x → (d ≡ 29) ⊎ (d + (x - 1) ≡ 925) → (c : ℕ) → c ≡ a % 2 ^ d → eqb c 0 ≡ is_kept (float binary64) (float binary32) b
  by_digits d p q l h g D c C =
      let m = 2 ^ 52 + b % 2 ^ 52 in
      finite-kept b (leb (2 ^ 63) b) (m * 2 ^ (x - 1)) (eqb c 0) (value p (up q))
      (follows (is_zero c) (λ e. zero-fit m (x - 1) lead whole d l (enough p g) (less p q) (sym (C ∙ same_low d h) ∙ e)) (λ f. C ∙ same_low d h ∙ fit-zero m (x - 1) lead whole d D f))
    where
      up : x < 1151 → x < 2047
      up h = omega arith

      enough : 0 < x → 926 ≤ d + x → 925 ≤ d + (x - 1)
      enough h g = omega arith

      less : 0 < x → x < 1151 → x - 1 < 1150
      less h g = omega arith

  pub by-normal : 897 ≤ x → x < 1151 → (c : ℕ) → c ≡ a % 2 ^ 29 → eqb c 0 ≡ is_kept (float binary64) (float binary32) b
  by-normal h l c e = by_digits 29 (omega arith) l (lit≤ tt) (lit≤ tt) (omega arith) (inl refl) c e

  by-small : 874 ≤ x → x < 897 → (c : ℕ) → c ≡ a % 2 ^ (926 - x) → eqb c 0 ≡ is_kept (float binary64) (float binary32) b
  by-small h l c e = by_digits (926 - x) (omega arith) (omega arith) (omega arith) (omega arith) (omega arith) (inr all) c e
    where
      all : 926 - x + (x - 1) ≡ 925
      all = omega arith

  -- below binary32's smallest values only 0 is kept
  by_zero : x < 874 → eqb a 0 ≡ is_kept (float binary64) (float binary32) b
  by_zero h = go (lt-or-ge 0 x)
    where
      small : 0 < x → x - 1 < 873
      small p = omega arith

      up : x < 2047
      up = omega arith

      some : 0 < x → a ≡ x * 2 ^ 52 + b % 2 ^ 52 → a ≡ 0 → ⊥
      some p e z = omega arith

      none : x ≤ 0 → x ≡ 0
      none p = omega arith

      alone : x ≡ 0 → a ≡ x * 2 ^ 52 + b % 2 ^ 52 → a ≡ b % 2 ^ 52
      alone e p = omega arith

      go : (0 < x) ⊎ (x ≤ 0) → eqb a 0 ≡ is_kept (float binary64) (float binary32) b
      go (inl p) =
          ne_eqb a 0 (some p parts)
          ∙ finite-kept b (leb (2 ^ 63) b) ((2 ^ 52 + b % 2 ^ 52) * 2 ^ (x - 1)) false (value p up) (never (too_small (2 ^ 52 + b % 2 ^ 52) (x - 1) lead whole (small p)))
      go (inr p) =
          finite-kept b (leb (2 ^ 63) b) (b % 2 ^ 52 * 2 ^ 0) (eqb a 0) (read_low binary64 b (leb (2 ^ 63) b) x (b % 2 ^ 52) refl field refl (none p))
          (follows (is_zero a)
          (λ e. zero-narrow (b % 2 ^ 52) (sym (alone (none p) parts) ∙ e))
          (λ f. alone (none p) parts ∙ narrow-zero (b % 2 ^ 52) t-lt f))

  -- from 2 ^ 128 on only the infinities and the NaNs
  by_last : 1151 ≤ x → leb 0x7ff0_0000_0000_0000 a ≡ is_kept (float binary64) (float binary32) b
  by_last h = go (lt-or-ge x 2047)
    where
      before : x < 2047 → a ≡ x * 2 ^ 52 + b % 2 ^ 52 → b % 2 ^ 52 < 2 ^ 52 → a < 0x7ff0_0000_0000_0000
      before p e l = omega arith

      past : 2047 ≤ x → a ≡ x * 2 ^ 52 + b % 2 ^ 52 → 0x7ff0_0000_0000_0000 ≤ a
      past p e = omega arith

      some : 0 < x
      some = omega arith

      large : 1150 ≤ x - 1
      large = omega arith

      last : 2047 ≤ x → x < 2048 → x ≡ 2047
      last p q = omega arith

      special : x ≡ 2047 → (b % 2 ^ 52 < 1) ⊎ (1 ≤ b % 2 ^ 52) → true ≡ is_kept (float binary64) (float binary32) b
      special e (inl z) =
          let n = number_of (of_bits binary64 b) (leb (2 ^ 63) b) (read-infinite binary64 b (leb (2 ^ 63) b) x (b % 2 ^ 52) refl field refl e (zero z)) in
          sym (kept-rounded (float binary64) binary32 b n.0 ∙ n.1)
        where
          zero : b % 2 ^ 52 < 1 → b % 2 ^ 52 ≡ 0
          zero z = omega arith
      special e (inr z) = sym (kept_nan (float binary64) (float binary32) b (is-nan (of_bits binary64 b) (read-nan binary64 b (leb (2 ^ 63) b) x (b % 2 ^ 52) refl field refl e (λ q. no q z))) refl)
        where
          no : b % 2 ^ 52 ≡ 0 → 1 ≤ b % 2 ^ 52 → ⊥
          no q z = omega arith

      go : (x < 2047) ⊎ (2047 ≤ x) → leb 0x7ff0_0000_0000_0000 a ≡ is_kept (float binary64) (float binary32) b
      go (inl p) =
          lt-leb 0x7ff0_0000_0000_0000 a (before p parts t-lt)
          ∙ finite-kept b (leb (2 ^ 63) b) ((2 ^ 52 + b % 2 ^ 52) * 2 ^ (x - 1)) false (value some p) (never (too_large (2 ^ 52 + b % 2 ^ 52) (x - 1) lead whole large))
      go (inr p) = le-leb 0x7ff0_0000_0000_0000 a (past p parts) ∙ special (last p x_lt) (lt-or-ge (b % 2 ^ 52) 1)

  -- ---- the code: the fields from 897 on are told by one test, and the others go by one shift

  pub in-normal : (e : ℕ) → e < 2 ^ 64 → (e + 897) % 2 ^ 64 ≡ x → e < 254 → (897 ≤ x) × (x < 1151)
  in-normal e E h l = (omega (arith, x_lt), omega (arith, x_lt))

  -- a shift by s of 64 places leaves the other d digits
  shifted-out : (d s : ℕ) → d + s ≡ 64 → eqb (a * 2 ^ s % 2 ^ 64) 0 ≡ eqb (a % 2 ^ d) 0
  shifted-out d s h = agree (eqb (a * 2 ^ s % 2 ^ 64) 0) (eqb (a % 2 ^ d) 0) (follows (is_zero (a * 2 ^ s % 2 ^ 64)) (λ e. zero_of (a % 2 ^ d) (2 ^ s) (pow_pos s) (sym cut ∙ e)) (λ e. cut ∙ ap (λ (n : ℕ). n * 2 ^ s) e ∙ zero-mul (2 ^ s))) (is_zero (a % 2 ^ d))
    where
      cut : a * 2 ^ s % 2 ^ 64 ≡ a % 2 ^ d * 2 ^ s
      cut =
          ap (λ (n : ℕ). a * 2 ^ s % 2 ^ n) (sym h) ∙ mod-pow-add (a * 2 ^ s) d s
          ∙ ap₂ (λ (m n : ℕ). m % 2 ^ d * 2 ^ s + n) (mul-div_cancel a (pow_pos s)) (mul-mod_left a (2 ^ s)) ∙ add-zero (a % 2 ^ d * 2 ^ s)

  a_lt : a < 2 ^ 63
  a_lt = lt_of_le_of_lt (le_of_eq A) (mod-lt b (pow_pos 63))

  module _ (e g s : ℕ) (m r : Bool) (E : e < 2 ^ 64) (F : (e + 897) % 2 ^ 64 ≡ x) (N : 254 ≤ e) (G : g < 2 ^ 64) (H : (g + 862) % 2 ^ 64 ≡ x) (S : s ≡ cond (ltb x 874) 1 (bit_and g 63))
      (M : m ≡ (ltb x 897 && eqb (a * 2 ^ s % 2 ^ 64) 0)) (R : r ≡ (leb 0x7ff0_0000_0000_0000 a || m)) where
    pub by-rest : r ≡ is_kept (float binary64) (float binary32) b
    by-rest = R ∙ go (lt-or-ge x 897)
      where
        high : 897 ≤ x → 1151 ≤ x
        high h = omega (arith, x_lt)

        small : x < 897 → a ≡ x * 2 ^ 52 + b % 2 ^ 52 → b % 2 ^ 52 < 2 ^ 52 → a < 0x7ff0_0000_0000_0000
        small h p t = omega arith

        shift : 874 ≤ x → x < 897 → s ≡ x - 862
        shift h l = S ∙ ap (λ (q : Bool). cond q 1 (bit_and g 63)) (le-ltb x 874 h) ∙ and_mask g 6 ∙ near
          where
            near : g % 64 ≡ x - 862
            near = omega arith

        sum : 874 ≤ x → x < 897 → 926 - x + (x - 862) ≡ 64
        sum h l = omega arith

        low : x < 897 → (x < 874) ⊎ (874 ≤ x) → eqb (a * 2 ^ s % 2 ^ 64) 0 ≡ is_kept (float binary64) (float binary32) b
        low l (inl h) =
            ap (λ (n : ℕ). eqb (a * 2 ^ n % 2 ^ 64) 0) (S ∙ ap (λ (q : Bool). cond q 1 (bit_and g 63)) (lt-ltb x 874 h)) ∙ shifted-out 63 1 refl
            ∙ ap (λ (n : ℕ). eqb n 0) (mod-eq_of_lt a_lt) ∙ by_zero h
        low l (inr h) = ap (λ (n : ℕ). eqb (a * 2 ^ n % 2 ^ 64) 0) (shift h l) ∙ shifted-out (926 - x) (x - 862) (sum h l) ∙ by-small h l (a % 2 ^ (926 - x)) refl

        go : (x < 897) ⊎ (897 ≤ x) → (leb 0x7ff0_0000_0000_0000 a || m) ≡ is_kept (float binary64) (float binary32) b
        go (inl h) =
            ap₂ (λ (p q : Bool). p || q) (lt-leb 0x7ff0_0000_0000_0000 a (small h parts t-lt)) (M ∙ ap (λ (q : Bool). q && eqb (a * 2 ^ s % 2 ^ 64) 0) (lt-ltb x 897 h)) ∙ low h (lt-or-ge x 874)
        go (inr h) =
            ap (λ (q : Bool). leb 0x7ff0_0000_0000_0000 a || q) (M ∙ ap (λ (q : Bool). q && eqb (a * 2 ^ s % 2 ^ 64) 0) (le-ltb x 897 h))
            ∙ or-false (leb 0x7ff0_0000_0000_0000 a) ∙ by_last (high h)
