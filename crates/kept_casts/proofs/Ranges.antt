-- Integers to integers: the number is kept exactly where it is in range, and how the code tests that.
use Rattle.std.specs.Prelude.{◌≡◌, ◌⊎◌, ◌+◌, ◌-◌, ◌*◌, ◌%◌, ◌^◌, ◌≤◌, ◌<◌}
use Rattle.common.specs.Logic.{refl, sym, ap, ◌∙◌, subst, true, false, inl, inr, ℕ, suc, mod-eq_of_lt, lt_of_lt_of_le, sub-add_cancel, min, arith, lt-ltb, le-ltb, eq-eqb, ne_eqb, mod-lt, ltb-true, T, ltb, eqb}
use Rattle.std.proofs.Common.{ℤ, pos, negsuc, true≢false, pow_pos, pow_mono}
use mathlib.Core.Bool.{false≢true}
use lib.Signed.{mag}
use lib.Arith.{digits_mod}
use lib.Pow.{mod-mod-pow}
use lib.Ieee.{eq}
use Rattle.numbers.proofs.Size.{lt-or-ge}
use Rattle.numbers.proofs.TwosComplement.{signed_low, signed_high, twice_half}
use Rattle.numbers.proofs.Fitting.{pattern-fits}
use Rattle.numbers.specs.Casts.{Kind, unsigned, signed, float, kind_bits, signed_of, pattern_of}
use Rattle.kept_casts.specs.Kept.{exactly, value_in, is_float}
use Rattle.kept_casts.specs.Steps.{in_range}
use Rattle.kept_casts.proofs.Same.{self-same}
use Rattle.kept_casts.proofs.Casting.{Wide, int_same, int_number, signs, signed_range}

-- ---- some pattern of the kind stands for z

unfoldable pub HasInt : Kind → ℤ → Type 0
HasInt l z = (y : ℕ) × (y < 2 ^ kind_bits l) × T (eq (exactly z) (value_in l y))

signed-pattern : (w : ℕ) (z : ℤ) → 0 < w → mag z < 2 ^ (w - 1) → signed_of w (pattern_of w z) ≡ z
signed-pattern w (pos n) W h = signed_low w n h
signed-pattern w (negsuc n) W h = signed_high w (2 ^ w - suc n) (high (2 ^ w) (2 ^ (w - 1)) (twice_half w W) h) ∙ ap negsuc (back (2 ^ w) (2 ^ (w - 1)) (twice_half w W) h)
  where
    high : (t u : ℕ) → t ≡ 2 * u → n < u → u ≤ t - suc n
    high t u e h = omega arith

    back : (t u : ℕ) → t ≡ 2 * u → n < u → t - suc (t - suc n) ≡ n
    back t u e h = omega arith

exact-self : (z : ℤ) → T (eq (exactly z) (exactly z))
exact-self z = self-same (exactly z) (int_number z)

pub range-has : (l : Kind) (z : ℤ) → is_float l ≡ false → Wide l → in_range l z ≡ true → HasInt l z
unfolding HasInt
range-has (unsigned w) (pos n) F W h = (n, ltb-true n (2 ^ w) h, exact-self (pos n))
range-has (unsigned w) (negsuc n) F W h = absurd (false≢true h)
range-has (signed w) z F W h =
    let l = ltb-true (mag z) (2 ^ (w - 1)) h in
    (pattern_of w z, pattern-fits w z l, subst (λ (y : ℤ). T (eq (exactly z) (exactly y))) (sym (signed-pattern w z W l)) (exact-self z))
range-has (float f) z F W h = absurd (true≢false F)

pub has-range : (l : Kind) (z : ℤ) → Wide l → HasInt l z → in_range l z ≡ true
unfolding HasInt
has-range (unsigned w) z W (y, l, h) = ap (in_range (unsigned w)) (int_same z (pos y) h) ∙ lt-ltb y (2 ^ w) l
has-range (signed w) z W (y, l, h) = ap (in_range (signed w)) (int_same z (signed_of w y) h) ∙ lt-ltb (mag (signed_of w y)) (2 ^ (w - 1)) (signed_range w y W l)
has-range (float f) z W h = refl

-- ---- the code's tests

-- x is its own k low bits
pub own_bits : (k x y : ℕ) → y ≡ x % 2 ^ k → eqb y x ≡ ltb x (2 ^ k)
own_bits k x y e = ap (λ (z : ℕ). eqb z x) e ∙ go (lt-or-ge x (2 ^ k))
  where
    less : (z t : ℕ) → z < t → t ≤ x → z ≡ x → ⊥
    less z t a b c = omega arith

    go : (x < 2 ^ k) ⊎ (2 ^ k ≤ x) → eqb (x % 2 ^ k) x ≡ ltb x (2 ^ k)
    go (inl h) = eq-eqb (x % 2 ^ k) x (mod-eq_of_lt h) ∙ sym (lt-ltb x (2 ^ k) h)
    go (inr h) = ne_eqb (x % 2 ^ k) x (less (x % 2 ^ k) (2 ^ k) (mod-lt x (pow_pos k)) h) ∙ sym (le-ltb x (2 ^ k) h)

module _ (x v w : ℕ) (v0 : 0 < v) (L : x < 2 ^ v) where
  -- to a sign: a wider target has every number
  pub signed_all : v ≤ w → true ≡ in_range (signed w) (signed_of v x)
  signed_all h = sym (lt-ltb (mag (signed_of v x)) (2 ^ (w - 1)) (lt_of_lt_of_le (signed_range v x v0 L) (pow_mono (go v w h))))
    where
      go : (v w : ℕ) → v ≤ w → v - 1 ≤ w - 1
      go v w h = omega arith

  -- a narrower one has the 2 ^ w around 0
  pub signed-some : 0 < w → w < v → v ≤ 64 → (a b : ℕ) → a ≡ (x + 2 ^ (w - 1)) % 2 ^ 64 → b ≡ a % 2 ^ v → ltb b (2 ^ w) ≡ in_range (signed w) (signed_of v x)
  signed-some W h l a b A B =
      ap (λ (y : ℕ). ltb y (2 ^ w)) (B ∙ ap (λ (y : ℕ). y % 2 ^ v) A ∙ cut (x + 2 ^ (w - 1)))
      ∙ signs v (λ (z : ℤ). ltb ((x + 2 ^ (w - 1)) % 2 ^ v) (2 ^ w) ≡ ltb (mag z) (2 ^ (w - 1))) x v0 L
      (λ p. ap (λ (y : ℕ). ltb y (2 ^ w)) (mod-eq_of_lt (no_wrap (2 ^ v) (2 ^ (v - 1)) (2 ^ w) (2 ^ (w - 1)) (twice_half v v0) (twice_half w W) room-le p)) ∙ low-test (2 ^ w) (2 ^ (w - 1)) (twice_half w W) (lt-or-ge x (2 ^ (w - 1))))
      (λ n p e. high-test (2 ^ v) (2 ^ (v - 1)) (2 ^ w) (2 ^ (w - 1)) (twice_half v v0) (twice_half w W) room-le n p e (lt-or-ge n (2 ^ (w - 1))))
    where
      cut : (y : ℕ) → y % 2 ^ 64 % 2 ^ v ≡ y % 2 ^ v
      cut y = ap (λ (k : ℕ). y % 2 ^ k % 2 ^ v) (sym (sub-add_cancel l)) ∙ mod-mod-pow y (64 - v) v

      before : (v w : ℕ) → w < v → w ≤ v - 1
      before v w h = omega arith

      room-le : 2 ^ w ≤ 2 ^ (v - 1)
      room-le = pow_mono (before v w h)

      no_wrap : (t u s r : ℕ) → t ≡ 2 * u → s ≡ 2 * r → s ≤ u → x < u → x + r < t
      no_wrap t u s r a b c d = omega arith

      in-low : (s r : ℕ) → s ≡ 2 * r → x < r → x + r < s
      in-low s r e h = omega arith

      out-low : (s r : ℕ) → s ≡ 2 * r → r ≤ x → s ≤ x + r
      out-low s r e h = omega arith

      low-test : (s r : ℕ) → s ≡ 2 * r → (x < r) ⊎ (r ≤ x) → ltb (x + r) s ≡ ltb x r
      low-test s r e (inl h) = lt-ltb (x + r) s (in-low s r e h) ∙ sym (lt-ltb x r h)
      low-test s r e (inr h) = le-ltb (x + r) s (out-low s r e h) ∙ sym (le-ltb x r h)

      wraps : (t r n : ℕ) → n + suc x ≡ t → n < r → x + r ≡ 1 * t + (r - suc n)
      wraps t r n e h = omega arith

      rest : (t u s r n : ℕ) → t ≡ 2 * u → s ≡ 2 * r → s ≤ u → n < r → r - suc n < t
      rest t u s r n a b c h = omega arith

      rest_in : (s r n : ℕ) → s ≡ 2 * r → n < r → r - suc n < s
      rest_in s r n e h = omega arith

      stays : (t r n : ℕ) → n + suc x ≡ t → r ≤ n → x + r < t
      stays t r n e h = omega arith

      far : (t u s r n : ℕ) → t ≡ 2 * u → s ≤ u → n < u → n + suc x ≡ t → s ≤ x + r
      far t u s r n a b c e = omega arith

      high-test : (t u s r : ℕ) → t ≡ 2 * u → s ≡ 2 * r → s ≤ u → (n : ℕ) → n < u → n + suc x ≡ t → (n < r) ⊎ (r ≤ n) → ltb ((x + r) % t) s ≡ ltb n r
      high-test t u s r a b c n p e (inl h) =
          ap (λ (y : ℕ). ltb y s) (ap (λ (y : ℕ). y % t) (wraps t r n e h) ∙ digits_mod 1 {m = t} {r = r - suc n} (rest t u s r n a b c h))
          ∙ lt-ltb (r - suc n) s (rest_in s r n b h) ∙ sym (lt-ltb n r h)
      high-test t u s r a b c n p e (inr h) =
          ap (λ (y : ℕ). ltb y s) (mod-eq_of_lt (stays t r n e h)) ∙ le-ltb (x + r) s (far t u s r n a c p e) ∙ sym (le-ltb n r h)

  -- without a sign: the numbers from 0 on
  unsigned-wide : v ≤ w → ltb x (2 ^ (v - 1)) ≡ in_range (unsigned w) (signed_of v x)
  unsigned-wide h =
      signs v (λ (z : ℤ). ltb x (2 ^ (v - 1)) ≡ in_range (unsigned w) z) x v0 L
      (λ p. lt-ltb x (2 ^ (v - 1)) p ∙ sym (lt-ltb x (2 ^ w) (lt_of_lt_of_le L (pow_mono h))))
      (λ n p e. le-ltb x (2 ^ (v - 1)) (go (2 ^ v) (2 ^ (v - 1)) (twice_half v v0) n p e))
    where
      go : (t u : ℕ) → t ≡ 2 * u → (n : ℕ) → n < u → n + suc x ≡ t → u ≤ x
      go t u a n p e = omega arith

  unsigned-narrow : w < v → ltb x (2 ^ w) ≡ in_range (unsigned w) (signed_of v x)
  unsigned-narrow h =
      signs v (λ (z : ℤ). ltb x (2 ^ w) ≡ in_range (unsigned w) z) x v0 L
      (λ p. refl)
      (λ n p e. le-ltb x (2 ^ w) (go (2 ^ v) (2 ^ (v - 1)) (2 ^ w) (twice_half v v0) (pow_mono (before v w h)) n p e))
    where
      before : (v w : ℕ) → w < v → w ≤ v - 1
      before v w h = omega arith

      go : (t u s : ℕ) → t ≡ 2 * u → s ≤ u → (n : ℕ) → n < u → n + suc x ≡ t → s ≤ x
      go t u s a b n p e = omega arith

  pub unsigned-both : ltb x (2 ^ min w (v - 1)) ≡ in_range (unsigned w) (signed_of v x)
  unsigned-both = go (lt-or-ge w v)
    where
      least : v ≤ w → min w (v - 1) ≡ v - 1
      least h = omega arith

      lower : w < v → min w (v - 1) ≡ w
      lower h = omega arith

      go : (w < v) ⊎ (v ≤ w) → ltb x (2 ^ min w (v - 1)) ≡ in_range (unsigned w) (signed_of v x)
      go (inl h) = ap (λ (k : ℕ). ltb x (2 ^ k)) (lower h) ∙ unsigned-narrow h
      go (inr h) = ap (λ (k : ℕ). ltb x (2 ^ k)) (least h) ∙ unsigned-wide h
