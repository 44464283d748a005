-- Whole numbers among the floats, by the pattern: how the code tests for them.
use Rattle.std.specs.Prelude.{◌≡◌, ◌||◌, ◌&&◌, ◌⊎◌, ◌+◌, ◌-◌, ◌*◌, ◌/◌, ◌%◌, ◌^◌, ◌≤◌, ◌<◌}
use Rattle.common.specs.Logic.{refl, sym, ap, ap₂, ◌∙◌, subst, Bool, true, false, inl, inr, ℕ, zero, suc, mul_assoc, mul_comm, mul-one, one-mul, zero-mul, mul-lt-mul_of_pos_right, mul-le-mul_right, mul-le-mul_left, le_trans, le_of_eq, lt_of_lt_of_le, lt_of_le_of_lt, mod-eq_of_lt, mod-lt, div-add-mod', sub-add_cancel, le-div_iff_mul-le, div-lt_iff_lt-mul, mul-div_cancel, add-mul, pow-succ', arith, eq-eqb, ne_eqb, lt-ltb, le-ltb, ltb-true, eqb, ltb, lit<, lit≤}
use mathlib.Core.Bool.{false≢true, or-false}
use Rattle.std.proofs.Common.{add_comm, lt_of_mul-lt-mul_right, mul-pos, mul_right_comm, not-le_of_lt, pow_pos, pow_mono, pow-add}
use native.Mathlib.Nat.{eq_of_mul-eq-mul_right, mul-mod_left, mul-add-mod_self_right}
use lib.Arith.{digits_div}
use lib.Bits.{bit_and, and_mask}
use lib.Pow.{pow-lt, mod-mod-pow}
use lib.Ieee.{Format, binary32, binary64, prec, emax, low, hid, ones}
use Rattle.numbers.proofs.Size.{lt-or-ge}
use Rattle.numbers.proofs.Round.{far, twice_hid}
use Rattle.kept_casts.specs.Steps.{Tells, units_of, Size, Below}
use Rattle.kept_casts.proofs.Narrow.{is_zero}
use Rattle.common.proofs.Digits.{pow_lt_back}

-- ---- numbers of the formats

low-split : (f : Format) → low f ≡ emax f - 1 + (prec f - 1)
low-split binary32 = refl
low-split binary64 = refl

low_up : (f : Format) → low f ≡ prec f + (emax f - 2)
low_up binary32 = refl
low_up binary64 = refl

hid-small : (f : Format) → hid f ≤ 2 ^ 52
hid-small binary32 = lit≤ tt
hid-small binary64 = lit≤ tt

one-small : (f : Format) → emax f * hid f < 2 ^ 62
one-small binary32 = lit< tt
one-small binary64 = lit< tt

module _ (f : Format) (a : ℕ) where
  t-lt : a % hid f < hid f
  t-lt = mod-lt a (pow_pos (prec f - 1))

  whole : a / hid f * hid f + a % hid f ≡ a
  whole = div-add-mod' a (hid f)

  lead-lt : hid f + a % hid f < 2 ^ prec f
  lead-lt = lt_of_lt_of_le (go (hid f) (a % hid f) t-lt) (le_of_eq (sym (twice_hid f)))
    where
      go : (h t : ℕ) → t < h → h + t < 2 * h
      go h t l = omega arith

  -- below 1 the size is less than the units of 1
  small_units : (x : ℕ) → x < emax f → units_of f x (a % hid f) < 2 ^ low f
  small_units zero h = lt_of_le_of_lt (le_of_eq (mul-one (a % hid f))) (lt_of_lt_of_le t-lt (pow_mono (le_trans (at (prec f - 1) (emax f - 1)) (le_of_eq (sym (low-split f))))))
    where
      at : (p e : ℕ) → p ≤ e + p
      at p e = omega arith
  small_units (suc x) h =
      lt_of_lt_of_le (mul-lt-mul_of_pos_right lead-lt (pow_pos x))
      (le_trans (mul-le-mul_left (2 ^ prec f) (pow_mono (down x (emax f) h))) (le_of_eq (sym (pow-add 2 (prec f) (emax f - 2)) ∙ ap (λ (k : ℕ). 2 ^ k) (sym (low_up f)))))
    where
      down : (x e : ℕ) → suc x < e → x ≤ e - 2
      down x e h = omega arith

  -- a size of 0 is the pattern 0
  no-units : (x : ℕ) → units_of f x (a % hid f) ≡ 0 → (x ≡ 0) × (a % hid f ≡ 0)
  no-units zero h = (refl, sym (mul-one (a % hid f)) ∙ h)
  no-units (suc x) h = absurd (go ((hid f + a % hid f) * 2 ^ x) (mul-pos (lt_of_lt_of_le (pow_pos (prec f - 1)) (plus (hid f) (a % hid f))) (pow_pos x)) h)
    where
      go : (n : ℕ) → 0 < n → n ≡ 0 → ⊥
      go n p e = omega arith

      plus : (h t : ℕ) → h ≤ h + t
      plus h t = omega arith

  pub size_none : Size f a 0 → a ≡ 0
  size_none (l, e) =
      let (x, t) = no-units (a / hid f) (e ∙ zero-mul (2 ^ low f)) in
      sym whole ∙ ap₂ (λ (p q : ℕ). p * hid f + q) x t ∙ ap (λ (n : ℕ). n + 0) (zero-mul (hid f))

  pub none-size : a ≡ 0 → Size f a 0
  none-size e = (
    subst (λ (x : ℕ). x < ones f) (sym q) (some (emax f)),
    ap₂ (units_of f) q r ∙ sym (zero-mul (2 ^ low f)),
  )
    where
      q : a / hid f ≡ 0
      q = ap (λ (n : ℕ). n / hid f) e ∙ div-none
        where
          div-none : 0 / hid f ≡ 0
          div-none = ap (λ (n : ℕ). n / hid f) (sym (zero-mul (hid f))) ∙ mul-div_cancel 0 (pow_pos (prec f - 1))

      r : a % hid f ≡ 0
      r = ap (λ (n : ℕ). n % hid f) e ∙ mod-eq_of_lt (pow_pos (prec f - 1))

      some : (e : ℕ) → 0 < 2 * e + 1
      some e = omega arith

  -- below 1 only 0 is whole
  pub size-below-one : (n : ℕ) → a / hid f < emax f → Size f a n → n ≡ 0
  size-below-one n h (l, e) = go n (lt_of_mul-lt-mul_right (2 ^ low f) {m = n} {n = 1} (lt_of_le_of_lt (le_of_eq (sym e)) (lt_of_lt_of_le (small_units (a / hid f) h) (le_of_eq (sym (one-mul (2 ^ low f)))))))
    where
      go : (n : ℕ) → n < 1 → n ≡ 0
      go n h = omega arith

  -- ---- from 1 on: x = emax + d
  module _ (d : ℕ) (X : a / hid f ≡ emax f + d) where
    units-is : units_of f (a / hid f) (a % hid f) ≡ (hid f + a % hid f) * 2 ^ d * 2 ^ (emax f - 1)
    units-is =
        ap (λ (x : ℕ). units_of f x (a % hid f)) (X ∙ next (emax f) (far f))
        ∙ ap (λ (n : ℕ). (hid f + a % hid f) * n) (pow-add 2 d (emax f - 1)) ∙ sym (mul_assoc (hid f + a % hid f) (2 ^ d) (2 ^ (emax f - 1)))
      where
        next : (e : ℕ) → 64 ≤ e → e + d ≡ suc (d + (e - 1))
        next e h = omega arith

    low-is : (n : ℕ) → n * 2 ^ low f ≡ n * hid f * 2 ^ (emax f - 1)
    low-is n = ap (λ (k : ℕ). n * 2 ^ k) (low-split f ∙ add_comm (emax f - 1) (prec f - 1)) ∙ ap (λ (k : ℕ). n * k) (pow-add 2 (prec f - 1) (emax f - 1)) ∙ sym (mul_assoc n (hid f) (2 ^ (emax f - 1)))

    pub size-lead : (n : ℕ) → Size f a n → (hid f + a % hid f) * 2 ^ d ≡ n * hid f
    size-lead n (l, e) = eq_of_mul-eq-mul_right (2 ^ (emax f - 1)) (pow_pos (emax f - 1)) ((hid f + a % hid f) * 2 ^ d) (n * hid f) (sym units-is ∙ e ∙ low-is n)

    pub lead-size : (n : ℕ) → d < 64 → (hid f + a % hid f) * 2 ^ d ≡ n * hid f → Size f a n
    lead-size n l e = (
      subst (λ (x : ℕ). x < ones f) (sym X) (room (emax f) (far f)),
      units-is ∙ ap (λ (k : ℕ). k * 2 ^ (emax f - 1)) e ∙ sym (low-is n),
    )
      where
        room : (e : ℕ) → 64 ≤ e → e + d < 2 * e + 1
        room e h = omega arith

    -- the size lies between 2 ^ d and 2 ^ (d + 1)
    pub size-from : (n : ℕ) → Size f a n → 2 ^ d ≤ n
    size-from n s = cancel (2 ^ d) n (hid f) (pow_pos (prec f - 1))
        (le_trans (le_of_eq (mul_comm (2 ^ d) (hid f))) (le_trans (mul-le-mul_right (2 ^ d) (plus (hid f) (a % hid f))) (le_of_eq (size-lead n s))))
      where
        plus : (h t : ℕ) → h ≤ h + t
        plus h t = omega arith

        cancel : (p q u : ℕ) → 0 < u → p * u ≤ q * u → p ≤ q
        cancel p q u U h = go (lt-or-ge q p)
          where
            go : (q < p) ⊎ (p ≤ q) → p ≤ q
            go (inl l) = absurd (not-le_of_lt (mul-lt-mul_of_pos_right l U) h)
            go (inr g) = g

    pub size-to : (n : ℕ) → (hid f + a % hid f) * 2 ^ d ≡ n * hid f → n < 2 ^ suc d
    size-to n e = lt_of_mul-lt-mul_right (hid f) {m = n} {n = (2 ^ suc d)}
        (lt_of_le_of_lt (le_of_eq (sym e)) (lt_of_lt_of_le (mul-lt-mul_of_pos_right lead-lt (pow_pos d))
        (le_of_eq (ap (λ (k : ℕ). k * 2 ^ d) (twice_hid f) ∙ mul_right_comm 2 (hid f) (2 ^ d) ∙ ap (λ (k : ℕ). k * hid f) (sym (pow-succ' 2 d))))))

    -- the digits after the point, as the code takes them: those of a, shifted
    digits-is : a * 2 ^ d % hid f ≡ (hid f + a % hid f) * 2 ^ d % hid f
    digits-is =
        let h = hid f in
        let t = a % hid f in
        let x = a / hid f in
        ap (λ (n : ℕ). n * 2 ^ d % h) (sym whole) ∙ ap (λ (n : ℕ). n % h) (add-mul (x * h) t (2 ^ d) ∙ ap (λ (n : ℕ). n + t * 2 ^ d) (mul_right_comm x h (2 ^ d)))
        ∙ mul-add-mod_self_right (x * 2 ^ d) h (t * 2 ^ d)
        ∙ sym (ap (λ (n : ℕ). n % h) (add-mul h t (2 ^ d) ∙ ap (λ (n : ℕ). n + t * 2 ^ d) (mul_comm h (2 ^ d))) ∙ mul-add-mod_self_right (2 ^ d) h (t * 2 ^ d))

    pub above-one : (v : ℕ) → v ≤ 64 → Tells (ltb d v && eqb (a * 2 ^ (d % 64) % hid f) 0) (Below f a v)
    above-one v K = (there, back)
      where
        cut : d < v → a * 2 ^ (d % 64) % hid f ≡ (hid f + a % hid f) * 2 ^ d % hid f
        cut l = ap (λ (k : ℕ). a * 2 ^ k % hid f) (mod-eq_of_lt (lt_of_lt_of_le l K)) ∙ digits-is

        both : (p q : Bool) → (p && q) ≡ true → (p ≡ true) × (q ≡ true)
        both true q h = (refl, h)
        both false q h = absurd (false≢true h)

        plus : (x : ℕ) → x + 0 ≡ x
        plus x = omega arith

        there : (ltb d v && eqb (a * 2 ^ (d % 64) % hid f) 0) ≡ true → Below f a v
        there h =
            let p = both (ltb d v) (eqb (a * 2 ^ (d % 64) % hid f) 0) h in
            let l = ltb-true d v p.0 in
            let m = (hid f + a % hid f) * 2 ^ d in
            let z : m % hid f ≡ 0 = sym (cut l) ∙ (is_zero (a * 2 ^ (d % 64) % hid f)).0 p.1 in
            let e : m ≡ m / hid f * hid f = sym (div-add-mod' m (hid f)) ∙ ap (λ (k : ℕ). m / hid f * hid f + k) z ∙ plus (m / hid f * hid f) in
            (m / hid f, lt_of_lt_of_le (size-to (m / hid f) e) (pow_mono l), lead-size (m / hid f) (lt_of_lt_of_le l K) e)

        back : Below f a v → (ltb d v && eqb (a * 2 ^ (d % 64) % hid f) 0) ≡ true
        back (n, l, s) =
            let b : d < v = pow_lt_back d v (lt_of_le_of_lt (size-from n s) l) in
            ap₂ ◌&&◌ (lt-ltb d v b) (eq-eqb (a * 2 ^ (d % 64) % hid f) 0 (cut b ∙ ap (λ (k : ℕ). k % hid f) (size-lead n s) ∙ mul-mod_left n (hid f)))

    -- exactly 2 ^ v is the pattern of 2 ^ v
    pub size-power : (v : ℕ) → Size f a (2 ^ v) → a ≡ (emax f + v) * hid f
    size-power v s =
        let lo : d < suc v = pow_lt_back d (suc v) (lt_of_le_of_lt (size-from (2 ^ v) s) (pow-lt (next v))) in
        let hi : v < suc d = pow_lt_back v (suc d) (size-to (2 ^ v) (size-lead (2 ^ v) s)) in
        let e : d ≡ v = meet d v lo hi in
        let z : a % hid f ≡ 0 = zero-t (hid f) (a % hid f) (eq_of_mul-eq-mul_right (2 ^ d) (pow_pos d) (hid f + a % hid f) (hid f) (size-lead (2 ^ v) s ∙ ap (λ (k : ℕ). 2 ^ k * hid f) (sym e) ∙ mul_comm (2 ^ d) (hid f))) in
        sym whole ∙ ap₂ (λ (p q : ℕ). p * hid f + q) (X ∙ ap (λ (k : ℕ). emax f + k) e) z ∙ plus ((emax f + v) * hid f)
      where
        next : (v : ℕ) → v < suc v
        next v = omega arith

        meet : (d v : ℕ) → d < suc v → v < suc d → d ≡ v
        meet d v a b = omega arith

        zero-t : (h t : ℕ) → h + t ≡ h → t ≡ 0
        zero-t h t e = omega arith

        plus : (x : ℕ) → x + 0 ≡ x
        plus x = omega arith

  -- ---- the code's test: o is the pattern of 1, e how far a lies above it, counted round
  below-test : (v o e d : ℕ) → v ≤ 64 → a < 2 ^ 64 → e < 2 ^ 64 → o ≡ emax f * hid f → (e + o) % 2 ^ 64 ≡ a → d ≡ e / hid f
      → Tells (eqb a 0 || (ltb d v && eqb (a * 2 ^ (d % 64) % hid f) 0)) (Below f a v)
  below-test v o e d K A E O R D = go (lt-or-ge a o)
    where
      o_lt : o < 2 ^ 62
      o_lt = lt_of_le_of_lt (le_of_eq O) (one-small f)

      wrapped : a < o → o < 2 ^ 62 → 2 ^ 63 ≤ e
      wrapped h l = omega arith

      near : o ≤ a → o < 2 ^ 62 → e + o ≡ a
      near h l = omega arith

      -- below 1 the distance is far more than any width
      wide-off : a < o → 64 ≤ d
      wide-off h = subst (λ (k : ℕ). 64 ≤ k) (sym D) ((le-div_iff_mul-le (pow_pos (prec f - 1))).1 (le_trans (mul-le-mul_left 64 (hid-small f)) (le_trans (lit≤ tt) (wrapped h o_lt))))

      field-low : a < o → a / hid f < emax f
      field-low h = (div-lt_iff_lt-mul (pow_pos (prec f - 1))).1 (lt_of_lt_of_le h (le_of_eq O))

      only_zero : a < o → (eqb a 0 || (ltb d v && eqb (a * 2 ^ (d % 64) % hid f) 0)) ≡ eqb a 0
      only_zero h = ap (λ (b : Bool). eqb a 0 || (b && eqb (a * 2 ^ (d % 64) % hid f) 0)) (le-ltb d v (le_trans K (wide-off h))) ∙ or-false (eqb a 0)

      x-is : o ≤ a → a / hid f ≡ emax f + d
      x-is h =
          ap (λ (n : ℕ). n / hid f) (sym (near h o_lt) ∙ ap (λ (n : ℕ). e + n) O ∙ ap (λ (n : ℕ). n + emax f * hid f) (sym (div-add-mod' e (hid f))) ∙ order (e / hid f * hid f) (e % hid f) (emax f * hid f) ∙ ap (λ (n : ℕ). n + e % hid f) (sym (add-mul (emax f) (e / hid f) (hid f))))
          ∙ digits_div (emax f + e / hid f) {m = hid f} {r = e % hid f} (mod-lt e (pow_pos (prec f - 1)))
          ∙ ap (λ (k : ℕ). emax f + k) (sym D)
        where
          order : (p q r : ℕ) → p + q + r ≡ r + p + q
          order p q r = omega arith

      some : o ≤ a → a ≡ 0 → ⊥
      some h z = go (lt_of_lt_of_le (mul-pos (lt_of_lt_of_le (lit< tt) (far f)) (pow_pos (prec f - 1))) (le_trans (le_of_eq (sym O)) h)) z
        where
          go : 0 < a → a ≡ 0 → ⊥
          go p q = omega arith

      go : (a < o) ⊎ (o ≤ a) → Tells (eqb a 0 || (ltb d v && eqb (a * 2 ^ (d % 64) % hid f) 0)) (Below f a v)
      go (inl h) = (
        (λ r. (0, pow_pos v, none-size ((is_zero a).0 (sym (only_zero h) ∙ r)))),
        (λ (n, l, s). only_zero h ∙ eq-eqb a 0 (size_none (subst (Size f a) (size-below-one n (field-low h) s) s))),
      )
      go (inr h) = subst (λ (b : Bool). Tells (b || (ltb d v && eqb (a * 2 ^ (d % 64) % hid f) 0)) (Below f a v)) (sym (ne_eqb a 0 (some h))) (above-one d (x-is h) v K)

-- ---- the code's numbers

pub below_code : (f : Format) (a v q o e l : ℕ) (m r : Bool) → v ≤ 64 → a < 2 ^ 64 → e < 2 ^ 64 → q ≡ prec f → o ≡ emax f * hid f → (e + o) % 2 ^ 64 ≡ a
    → l ≡ a * 2 ^ bit_and (e / 2 ^ (q - 1)) 63 % 2 ^ 64 % 2 ^ (q - 1) → m ≡ (ltb (e / 2 ^ (q - 1)) v && eqb l 0) → r ≡ (eqb a 0 || m) → Tells r (Below f a v)
below_code f a v q o e l m r K A E Q O R L M S =
    subst (λ (b : Bool). Tells b (Below f a v)) (sym (S ∙ ap (λ (b : Bool). eqb a 0 || b) (M ∙ ap₂ (λ (d k : ℕ). ltb d v && eqb k 0) D (L ∙ digits))))
    (below-test f a v o e (e / hid f) K A E O R refl)
  where
    D : e / 2 ^ (q - 1) ≡ e / hid f
    D = ap (λ (k : ℕ). e / 2 ^ (k - 1)) Q

    most : (f : Format) → prec f - 1 ≤ 64
    most binary32 = lit≤ tt
    most binary64 = lit≤ tt

    cut : (n : ℕ) → n % 2 ^ 64 % hid f ≡ n % hid f
    cut n = ap (λ (k : ℕ). n % 2 ^ k % hid f) (sym (sub-add_cancel (most f))) ∙ mod-mod-pow n (64 - (prec f - 1)) (prec f - 1)

    digits : a * 2 ^ bit_and (e / 2 ^ (q - 1)) 63 % 2 ^ 64 % 2 ^ (q - 1) ≡ a * 2 ^ (e / hid f % 64) % hid f
    digits =
        ap₂ (λ (d k : ℕ). a * 2 ^ bit_and d 63 % 2 ^ 64 % 2 ^ (k - 1)) D Q ∙ cut (a * 2 ^ bit_and (e / hid f) 63)
        ∙ ap (λ (k : ℕ). a * 2 ^ k % hid f) (and_mask (e / hid f) 6)
