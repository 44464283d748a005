-- A pattern's exponent's field and whole part, by the patterns of powers of two around it.
use Rattle.std.specs.Prelude.{◌≡◌, ◌≤◌, ◌<◌, ◌+◌, ◌-◌, ◌*◌, ◌^◌, ◌%◌, ◌/◌}
use Rattle.common.specs.Logic.{◌∙◌, sym, ap, ap₂, ⊎_elim, ℕ, suc, suc-mul, add-zero, le_trans, lt_of_lt_of_le, le_of_eq, lt_of_le_of_lt, mod-lt, le_of_suc-le-suc, le-div_iff_mul-le, mul_comm, mul-lt-mul_of_pos_right, div-lt_iff_lt-mul, mul-div_cancel, le-add_right, le_refl, arith, lit≤}
use Rattle.std.proofs.Common.{pow_pos, pow_mono, pow-add}
use lib.Pow.{suc_ones}
use lib.Pow as pow
use lib.Ieee.{Format, prec, emax, low, hid, ones, top}
use Rattle.truncation_casts.specs.Truncation.{whole_of}
use Rattle.numbers.proofs.Size.{lt-or-ge}
use Rattle.numbers.proofs.Round.{with_lead, prec-le, far}
use Rattle.truncation_casts.proofs.Whole.{low-split, none, under, over}

-- the patterns of 1/4 and of an infinity
abbrev pub quarter : Format → ℕ
quarter f = (emax f - 2) * hid f

abbrev pub last : Format → ℕ
last f = ones f * hid f

-- the patterns c from that of 1/4 to that of 2 ^ (p - 8), p being the format's precision
abbrev pub Between : Format → ℕ → Type 0
Between f c = (quarter f ≤ c) × (c ≤ (emax f + (prec f - 8)) * hid f)

-- ---- numbers of the formats
pub quarter-lt : (f : Format) (v : ℕ) → quarter f < (emax f + v) * hid f
quarter-lt f v = mul-lt-mul_of_pos_right {m = emax f - 2} {n = emax f + v} (omega (arith, far f)) (pow_pos (prec f - 1))

pub last-lt : (f : Format) → last f < top f
last-lt f = lt_of_lt_of_le (mul-lt-mul_of_pos_right (le_refl (suc (ones f))) (pow_pos (prec f - 1))) (le_of_eq (mul_comm (suc (ones f)) (hid f)))

-- ---- a pattern's exponent's field and whole part, by the patterns of powers of two around it
module _ (f : Format) (c : ℕ) where
  pub field-ge : (e : ℕ) → e * hid f ≤ c → e ≤ c / hid f
  field-ge e h = (le-div_iff_mul-le (pow_pos (prec f - 1))).1 h

  pub field_lt : (e : ℕ) → c < e * hid f → c / hid f < e
  field_lt e h = (div-lt_iff_lt-mul (pow_pos (prec f - 1))).1 h

  pub field-some : quarter f ≤ c → c / hid f ≡ 0 → ⊥
  field-some h z = omega (arith, far f, field-ge (emax f - 2) h)

  full : hid f + c % hid f < 2 ^ prec f
  full = with_lead f (c % hid f) (mod-lt c (pow_pos (prec f - 1)))

  lead : hid f ≤ hid f + c % hid f
  lead = le-add_right (hid f) (c % hid f)

  pub whole-under : (v : ℕ) → quarter f ≤ c → c < (emax f + v) * hid f → v ≤ 64 → whole_of f c < 2 ^ v
  whole-under v a b w =
      ⊎_elim (λ (l : c / hid f < emax f). lt_of_le_of_lt (le_of_eq (none f (hid f + c % hid f) (c / hid f) full lead l (field-some a))) (pow_pos v))
      (λ (l : emax f ≤ c / hid f). under f (hid f + c % hid f) (c / hid f) full lead v l (field_lt (emax f + v) b) w)
      (lt-or-ge (c / hid f) (emax f))

  pub whole-over : (v : ℕ) → (emax f + v) * hid f ≤ c → 2 ^ v ≤ whole_of f c
  whole-over v a = over f (hid f + c % hid f) (c / hid f) full lead v (field-ge (emax f + v) a)

pub whole-quarter : (f : Format) → whole_of f (quarter f) ≡ 0
whole-quarter f = omega (arith, whole-under f (quarter f) 0 (le_refl (quarter f)) (quarter-lt f 0) (lit≤ tt))

whole_fields : (f : Format) (e t : ℕ) → t < hid f → whole_of f (e * hid f + t) ≡ (hid f + t) * 2 ^ (e - 1) / 2 ^ low f
whole_fields f e t h = ap₂ (λ (x y : ℕ). (hid f + x) * 2 ^ (y - 1) / 2 ^ low f) (pow.low e (prec f - 1) h) (pow.high e (prec f - 1) h)

-- the pattern of 2 ^ v
pub whole-power : (f : Format) (v : ℕ) → whole_of f ((emax f + v) * hid f) ≡ 2 ^ v
whole-power f v =
    let same : prec f - 1 + (emax f + v - 1) ≡ v + low f = omega (arith, (low-split f).0, (low-split f).1) in
    let product : (hid f + 0) * 2 ^ (emax f + v - 1) ≡ 2 ^ v * 2 ^ low f =
    ap (λ (x : ℕ). x * 2 ^ (emax f + v - 1)) (add-zero (hid f)) ∙ sym (pow-add 2 (prec f - 1) (emax f + v - 1)) ∙ ap (λ (x : ℕ). 2 ^ x) same ∙ pow-add 2 v (low f) in
    ap (whole_of f) (sym (add-zero ((emax f + v) * hid f))) ∙ whole_fields f (emax f + v) 0 (pow_pos (prec f - 1)) ∙ ap (λ (x : ℕ). x / 2 ^ low f) product ∙ mul-div_cancel (2 ^ v) (pow_pos (low f))

-- the pattern before that of 2 ^ v, with the fields e and t
module _ (f : Format) (v n c : ℕ) (S : v + 8 ≤ prec f) (N : suc n ≡ 2 ^ v) (C : suc c ≡ (emax f + v) * hid f) where
  abbrev e : ℕ
  e = emax f + v - 1

  abbrev t : ℕ
  t = hid f - 1

  pub before-le : whole_of f c ≤ n
  before-le =
      le_of_suc-le-suc (lt_of_lt_of_le
      (whole-under f c v (le_of_suc-le-suc (lt_of_lt_of_le (quarter-lt f v) (le_of_eq (sym C)))) (le_of_eq C) (omega (arith, prec-le f)))
      (le_of_eq (sym N)))

  before-is : whole_of f c ≡ (hid f + t) * 2 ^ (e - 1) / 2 ^ low f
  before-is =
      let next : emax f + v ≡ suc e = omega (arith, far f) in
      let fields : c ≡ e * hid f + t = omega (arith, pow_pos (prec f - 1), ap (λ (x : ℕ). x * hid f) next, suc-mul e (hid f)) in
      ap (whole_of f) fields ∙ whole_fields f e t (le_of_eq (suc_ones (prec f - 1)))

  product : suc t * (2 * 2 ^ (e - 1)) ≡ suc n * 2 ^ low f
  product =
      let same : prec f - 1 + (1 + (e - 1)) ≡ v + low f = omega (arith, (low-split f).0, far f) in
      ap₂ ◌*◌ (suc_ones (prec f - 1)) (sym (pow-add 2 1 (e - 1))) ∙ sym (pow-add 2 (prec f - 1) (1 + (e - 1))) ∙ ap (λ (x : ℕ). 2 ^ x) same ∙ pow-add 2 v (low f)
      ∙ ap (λ (x : ℕ). x * 2 ^ low f) (sym N)

  pub before-ge : n ≤ whole_of f c
  before-ge =
      le_trans
      ((le-div_iff_mul-le (pow_pos (low f))).1
      (le_trans (core t (2 ^ (e - 1)) (2 ^ low f) n product (pow_mono {i = e - 1} {j = low f} (omega (arith, (low-split f).0))))
      (le_of_eq (ap (λ (x : ℕ). (x + t) * 2 ^ (e - 1)) (suc_ones (prec f - 1))))))
      (le_of_eq (sym before-is))
    where
      core : (t x y n : ℕ) → suc t * (2 * x) ≡ suc n * y → x ≤ y → n * y ≤ (suc t + t) * x
      core t x y n m l = omega arith
