-- A float's whole part by one sum: the pattern that goes into the sum is held between those of 1/4 and of the largest integer, and its whole
-- part is that of the float, held at the largest integer.
use Rattle.std.specs.Prelude.{◌≡◌, ◌&&◌, ◌⊎◌, ◌≤◌, ◌<◌, ◌+◌, ◌-◌, ◌*◌, ◌^◌, ◌%◌, ◌/◌}
use Rattle.common.specs.Logic.{◌∙◌, sym, ap, refl, ap₂, true, Bool, false, cond, ⊎_elim, inl, inr, ℕ, suc, min, le_trans, lt_of_lt_of_le, le_of_eq, lt_of_le_of_lt, mul-le-mul_right, mod-eq_of_lt, le_of_lt, le_of_suc-le-suc, mul_comm, div-add-mod', mul-lt-mul_of_pos_right, min-eq_left, one-mul, min-eq_right, le_antisymm, arith, le-leb, lt-leb, leb}
use Rattle.std.proofs.Common.{sub-le, pow_pos, pow_mono}
use native.Mathlib.Nat.{min-le_right, le-min}
use lib.Pow.{pow-lt, mod-mod-pow}
use lib.Ieee.{Format, binary32, binary64, prec, emax, hid, ones, top, of_bits}
use Rattle.truncation_casts.specs.Truncation.{Truncated, held_of, whole_of}
use Rattle.numbers.proofs.Size.{lt-or-ge}
use Rattle.numbers.proofs.Closest.{unit-is}
use Rattle.numbers.proofs.Round.{prec-le, far}
use Rattle.truncation_casts.proofs.Whole.{one-distance, at-infinity, at-no-number, at-middle, at-below}
use Rattle.truncation_casts.proofs.Powers.{quarter, last, Between, quarter-lt, last-lt, field-ge, field_lt, field-some, whole-under, whole-over, whole-quarter, whole-power, before-le, before-ge}

-- the pattern of 1/4 is no more than that of an infinity
pub quarter-le : (f : Format) (q i : ℕ) → q ≡ quarter f → i ≡ last f → (q ≤ i) × (i < 2 ^ 64)
quarter-le binary32 q i u v = (omega arith, omega arith)
quarter-le binary64 q i u v = (omega arith, omega arith)

-- ---- the largest pattern, as the code makes it from x, the pattern of 2 ^ v: x itself, or the one before
module _ (f : Format) (v most x : ℕ) (S : v + 8 ≤ prec f) (X : x ≡ (emax f + v) * hid f) (L : 2 ^ v - 1 ≤ most) (U : most ≤ 2 ^ v) where
  abbrev high : ℕ
  high = x - 1 * 2 ^ v % 2 ^ 64 + most

  width-lt : v < 46
  width-lt = omega (arith, prec-le f)

  power : 1 * 2 ^ v % 2 ^ 64 ≡ 2 ^ v
  power = unit-is 0 v (omega (arith, width-lt))

  pub power-fits : 1 * 2 ^ v % 2 ^ 64 ≤ x
  power-fits =
      le_trans (le_of_eq power) (le_trans (pow_mono {i = v} {j = prec f - 1} (omega arith))
      (le_trans (le_of_eq (sym (one-mul (hid f)))) (le_trans (mul-le-mul_right {m = 1} {n = emax f + v} (hid f) (omega (arith, far f))) (le_of_eq (sym X)))))

  either : ((high ≡ x) × (most ≡ 2 ^ v)) ⊎ ((suc high ≡ x) × (suc most ≡ 2 ^ v))
  either =
      let e = power in
      let l = power-fits in
      ⊎_elim (λ (h : most < 2 ^ v). inr (omega arith, omega arith)) (λ (h : 2 ^ v ≤ most). inl (omega arith, omega arith)) (lt-or-ge most (2 ^ v))

  high-whole : whole_of f high ≡ most
  high-whole =
      ⊎_elim (λ h. ap (whole_of f) (h.0 ∙ X) ∙ whole-power f v ∙ sym h.1)
      (λ h. le_antisymm (before-le f v most high S h.1 (h.0 ∙ X)) (before-ge f v most high S h.1 (h.0 ∙ X)))
      either

  high-near : (high ≤ x) × (x ≤ suc high)
  high-near = ⊎_elim (λ h. (le_of_eq h.0, omega (arith, h.0))) (λ h. (omega (arith, h.0), le_of_eq (sym h.0))) either

  high_lt : high < last f
  high_lt = lt_of_le_of_lt (le_trans high-near.0 (le_of_eq X)) (mul-lt-mul_of_pos_right (go f S) (pow_pos (prec f - 1)))
    where
      go : (f : Format) → v + 8 ≤ prec f → emax f + v < ones f
      go binary32 h = omega arith
      go binary64 h = omega arith

  -- ---- a pattern held below it
  module _ (a : ℕ) where
    outside : (a < quarter f) ⊎ (last f < a) → held_of f high a ≡ quarter f
    outside (inl h) = ap (λ (c : Bool). cond (c && leb a (last f)) (min a high) (quarter f)) (lt-leb (quarter f) a h)
    outside (inr h) =
        ap (λ (c : Bool). cond c (min a high) (quarter f))
        (ap₂ ◌&&◌ (le-leb (quarter f) a (le_trans (quarter-le f (quarter f) (last f) refl refl).0 (le_of_lt h))) (lt-leb a (last f) h))

    inside : quarter f ≤ a → a ≤ last f → held_of f high a ≡ min a high
    inside h g = ap (λ (c : Bool). cond c (min a high) (quarter f)) (ap₂ ◌&&◌ (le-leb (quarter f) a h) (le-leb a (last f) g))

    -- it is in the range of `in_halves`
    pub held-range : (c : ℕ) → c ≡ held_of f high a → Between f c
    held-range c C =
        let lowest : c ≡ quarter f → Between f c = λ e. (le_of_eq (sym e), le_trans (le_of_eq e) (le_of_lt (quarter-lt f (prec f - 8)))) in
        ⊎_elim (λ (h : a < quarter f). lowest (C ∙ outside (inl h)))
        (λ (h : quarter f ≤ a).
        ⊎_elim (λ (g : last f < a). lowest (C ∙ outside (inr g)))
        (λ (g : a ≤ last f).
        let w : (emax f + v) * hid f ≤ (emax f + (prec f - 8)) * hid f = mul-le-mul_right {m = emax f + v} {n = emax f + (prec f - 8)} (hid f) (omega arith) in
        let e = C ∙ inside h g in
        (omega (arith, quarter-lt f v, high-near.1), omega (arith, high-near.0)))
        (lt-or-ge (last f) a))
        (lt-or-ge a (quarter f))

    -- ---- n, the float's distance from 0: 0 below 1/4 and of a NaN, its whole part from 1/4 to an infinity
    module _ (s : Bool) (n : ℕ) (T : Truncated (of_bits f a) s n) where
      distance_is : (m : ℕ) → Truncated (of_bits f a) (leb (top f) a) m → n ≡ m
      distance_is m t = one-distance (of_bits f a) s (leb (top f) a) n m T t

      field_is : a < top f → a / hid f ≡ a % top f / hid f
      field_is l = ap (λ (y : ℕ). y / hid f) (sym (mod-eq_of_lt l))

      small : a < quarter f → a < top f → n ≡ 0
      small h l = distance_is 0 (at-below f a (a / hid f) (a % hid f) (field_is l) refl (field_lt f a (emax f) (lt_of_lt_of_le h (mul-le-mul_right (hid f) (sub-le (emax f) 2)))))

      last-field : last f ≤ a → a < top f → a / hid f ≡ ones f
      last-field h l = le_antisymm (le_of_suc-le-suc (field_lt f a (suc (ones f)) (lt_of_lt_of_le l (le_of_eq (mul_comm (hid f) (suc (ones f))))))) (field-ge f a (ones f) h)

      last_digits : last f ≤ a → a < top f → last f + a % hid f ≡ a
      last_digits h l = ap (λ (e : ℕ). e * hid f + a % hid f) (sym (last-field h l)) ∙ div-add-mod' a (hid f)

      no_number : last f < a → a < top f → n ≡ 0
      no_number h l = distance_is 0 (at-no-number f a (a / hid f) (a % hid f) (field_is l) refl (leb (top f) a) (last-field (le_of_lt h) l) (λ r. omega (arith, last_digits (le_of_lt h) l)))

      infinite : a ≡ last f → a < top f → n ≡ 2 ^ 64 - 1
      infinite h l =
          let g : last f ≤ a = le_of_eq (sym h) in
          distance_is (2 ^ 64 - 1) (at-infinity f a (a / hid f) (a % hid f) (field_is l) refl (last-field g l) (omega (arith, last_digits g l)))

      finite : quarter f ≤ a → a < last f → a < top f → n ≡ min (whole_of f a) (2 ^ 64 - 1)
      finite h g l = distance_is (min (whole_of f a) (2 ^ 64 - 1)) (at-middle f a (a / hid f) (a % hid f) (field_is l) refl (field-some f a h) (λ q. omega (arith, field_lt f a (ones f) g)))

      most-fits : most ≤ 2 ^ 64 - 1
      most-fits = omega (arith, pow_mono {i = v} {j = 63} (omega (arith, width-lt)))

      -- ---- held at `most`
      none-part : held_of f high a ≡ quarter f → (a < top f → n ≡ 0) → whole_of f (held_of f high a) ≡ cond (leb (top f) a) 0 (min n most)
      none-part h z =
          ap (whole_of f) h ∙ whole-quarter f
          ∙ ⊎_elim (λ (l : a < top f). rw (lt-leb (top f) a l) (omega (arith, z l))) (λ (l : top f ≤ a). rw (le-leb (top f) a l)) (lt-or-ge a (top f))

      near-part : quarter f ≤ a → a < high → a < top f → whole_of f a ≡ min n most
      near-part h g l =
          let u = whole-under f a v h (lt_of_lt_of_le g (le_trans high-near.0 (le_of_eq X))) (omega (arith, width-lt)) in
          omega (arith, most-fits, finite h (lt_of_lt_of_le g (le_of_lt high_lt)) l)

      reaches : quarter f ≤ a → high ≤ a → a ≤ last f → a < top f → (a < last f) ⊎ (last f ≤ a) → most ≤ n
      reaches h g k l (inr p) = le_trans most-fits (le_of_eq (sym (infinite (le_antisymm k p) l)))
      reaches h g k l (inl p) =
          let w : most ≤ whole_of f a =
          ⊎_elim (λ (q : high < a). le_trans U (whole-over f a v (le_trans (le_of_eq (sym X)) (le_trans high-near.1 q)))) (λ (q : a ≤ high). le_of_eq (sym high-whole ∙ ap (whole_of f) (le_antisymm g q))) (lt-or-ge high a) in
          le_trans (le-min w most-fits) (le_of_eq (sym (finite h p l)))

      some-part : quarter f ≤ a → a ≤ last f → a < top f → (a < high) ⊎ (high ≤ a) → whole_of f (min a high) ≡ min n most
      some-part h g l (inl p) = ap (whole_of f) (min-eq_left (le_of_lt p)) ∙ near-part h p l
      some-part h g l (inr p) = ap (whole_of f) (min-eq_right p) ∙ high-whole ∙ sym (min-eq_right (reaches h p g l (lt-or-ge a (last f))))

      part-is : whole_of f (held_of f high a) ≡ cond (leb (top f) a) 0 (min n most)
      part-is =
          ⊎_elim (λ (h : a < quarter f). none-part (outside (inl h)) (small h))
          (λ (h : quarter f ≤ a).
          ⊎_elim (λ (g : last f < a). none-part (outside (inr g)) (no_number g))
          (λ (g : a ≤ last f).
          let l : a < top f = lt_of_le_of_lt g (last-lt f) in
          ap (whole_of f) (inside h g) ∙ some-part h g l (lt-or-ge a high) ∙ sym (ap (λ (c : Bool). cond c 0 (min n most)) (lt-leb (top f) a l)))
          (lt-or-ge (last f) a))
          (lt-or-ge a (quarter f))

      -- the digits y above the sum's last, cut to v + 1 of them
      pub sum_is : (c y : ℕ) → c ≡ held_of f high a → y % 2 ^ (prec f - 2) ≡ whole_of f c → y % 2 ^ (v + 1) ≡ cond (leb (top f) a) 0 (min n most)
      sum_is c y C Y =
          let all : prec f - 2 - (v + 1) + (v + 1) ≡ prec f - 2 = omega arith in
          sym (mod-mod-pow y (prec f - 2 - (v + 1)) (v + 1)) ∙ ap (λ (k : ℕ). y % 2 ^ k % 2 ^ (v + 1)) all
          ∙ ap (λ (z : ℕ). z % 2 ^ (v + 1)) (Y ∙ ap (whole_of f) C ∙ part-is) ∙ mod-eq_of_lt (fits (leb (top f) a))
        where
          fits : (c : Bool) → cond c 0 (min n most) < 2 ^ (v + 1)
          fits true = pow_pos (v + 1)
          fits false = lt_of_le_of_lt (min-le_right n most) (lt_of_le_of_lt U (pow-lt {i = v} {j = v + 1} (omega arith)))
