-- A float's distance from 0 cut to a whole number, by its exponent's field: none below the field of 1, and from there on the significand shifted.
use Rattle.std.specs.Prelude.{◌≡◌, ◌⊎◌, ◌≤◌, ◌<◌, ◌+◌, ◌-◌, ◌*◌, ◌^◌, ◌%◌, ◌/◌}
use Rattle.common.specs.Logic.{◌∙◌, sym, ap, refl, subst, ap₂, true, Bool, false, cond, ⊎_elim, inl, inr, ℕ, suc, zero, min, le_trans, lt_of_lt_of_le, le_of_eq, lt_of_le_of_lt, mod-lt, mul-le-mul_right, mod-eq_of_lt, le-div_iff_mul-le, zero-lt-suc, div-eq_of_lt, arith, lt-ltb, le-ltb, le-leb, lt-leb, eqb, leb, ltb}
use native.Mathlib.Nat.{mod-mod, mod-mod_of_dvd, dvd-mul_right}
use Rattle.std.proofs.Common.{pos, neg_ℤ, pow_pos, pow_mono, pow-add, shl_lt, shr_lt}
use lib.Ieee.{Float, nan, inf, fin, Format, binary32, binary64, prec, emax, low, hid, ones, top, odd, of_fields, of_bits}
use lib.Ieee.Nearest.{div_same}
use Rattle.truncation_casts.specs.Truncation.{Truncated}
use Rattle.numbers.specs.Casts.{pattern_of, format_bits}
use Rattle.numbers.proofs.Size.{lt-or-ge, times-pow}
use Rattle.numbers.proofs.Round.{with_lead}
use Rattle.numbers.proofs.Decoding.{middle, read_low, read-middle, read-infinite, read-nan}
use Rattle.truncation_casts.proofs.Truncated.{truncated-value, at-infinite, signed}

-- there is one such number
pub one-distance : (v : Float) (s t : Bool) (n m : ℕ) → Truncated v s n → Truncated v t m → n ≡ m
one-distance nan s t n m a b = a ∙ sym b
one-distance (inf r) s t n m a b = a.1 ∙ sym b.1
one-distance (fin r k e) s t n m a b = a.1 ∙ sym b.1

-- ---- numbers of the formats

-- the field of 1 lies below that of an infinity
one_below : (f : Format) → emax f < ones f
one_below binary32 = omega arith
one_below binary64 = omega arith

-- and 64 or more fields below it
emax-ge : (f : Format) → 64 ≤ emax f
emax-ge binary32 = omega arith
emax-ge binary64 = omega arith

pub low-split : (f : Format) → (low f ≡ emax f - 1 + (prec f - 1)) × (1 ≤ emax f) × (prec f ≤ 64) × (1 ≤ prec f)
low-split binary32 = (refl, omega arith, omega arith, omega arith)
low-split binary64 = (refl, omega arith, omega arith, omega arith)

-- ---- a significand m of prec digits at the exponent's field e
module _ (f : Format) (m e : ℕ) (M : m < 2 ^ prec f) (H : hid f ≤ m) where
  abbrev whole : ℕ
  whole = m * 2 ^ (e - 1) / 2 ^ low f

  -- below the field of 1
  pub none : e < emax f → (e ≡ 0 → ⊥) → whole ≡ 0
  none h z = div-eq_of_lt (lt_of_lt_of_le (shl_lt (prec f) (e - 1) M) (pow_mono {i = prec f + (e - 1)} {j = low f} (omega (arith, (low-split f).0))))

  -- the shift, for a float below 2 ^ 64
  shift : emax f ≤ e → e < emax f + 64 → m * 2 ^ (64 - prec f) / 2 ^ (63 - (e - emax f)) ≡ whole
  shift a b =
      let s = low-split f in
      div_same (m * 2 ^ (64 - prec f)) (2 ^ (63 - (e - emax f))) (m * 2 ^ (e - 1)) (2 ^ low f) (pow_pos (63 - (e - emax f))) (pow_pos (low f))
      (times-pow m (64 - prec f) (low f) ∙ ap (λ (x : ℕ). m * 2 ^ x) (go (prec f) (emax f) (low f) e a b s.0 s.1 s.2 s.3) ∙ sym (times-pow m (e - 1) (63 - (e - emax f))))
    where
      go : (p o l e : ℕ) → o ≤ e → e < o + 64 → l ≡ o - 1 + (p - 1) → 1 ≤ o → p ≤ 64 → 1 ≤ p → 64 - p + l ≡ e - 1 + (63 - (e - o))
      go p o l e a b q u v t = omega arith

  -- below 2 ^ v exactly where the field is less than v above that of 1
  pub under : (v : ℕ) → emax f ≤ e → e < emax f + v → v ≤ 64 → whole < 2 ^ v
  under v a b c =
      let j = e - emax f in
      let sum : prec f + (64 - prec f) ≡ suc j + (63 - j) = omega (arith, (low-split f).2) in
      lt_of_le_of_lt (le_of_eq (sym (shift a (omega arith))))
      (lt_of_lt_of_le (shr_lt (suc j) (63 - j) (lt_of_lt_of_le (shl_lt (prec f) (64 - prec f) M) (pow_mono (le_of_eq sum)))) (pow_mono {i = suc j} {j = v} (omega arith)))

  pub over : (v : ℕ) → emax f + v ≤ e → 2 ^ v ≤ whole
  over v a =
      (le-div_iff_mul-le (pow_pos (low f))).1
      (le_trans (le_of_eq (sym (pow-add 2 v (low f))))
      (le_trans (pow_mono {i = v + low f} {j = prec f - 1 + (e - 1)} (omega (arith, low-split f)))
      (le_trans (le_of_eq (pow-add 2 (prec f - 1) (e - 1))) (mul-le-mul_right (2 ^ (e - 1)) H))))

-- ---- where a pattern b lies, by how far g it is above the pattern o of 1, counted round through 64 bits; i is the pattern of infinity

-- from 1 to infinity: at most as far as infinity, and as many fields as the exponent's lies above that of 1
from_one : (f : Format) (b o i g : ℕ) → o ≡ (emax f + 0) * hid f → i ≡ ones f * hid f → g < 2 ^ 64 → (g + o) % 2 ^ 64 ≡ b → o ≤ b → b ≤ i
    → (b % top f / hid f ≡ emax f + g / hid f) × (g ≤ i - o) × (b < top f)
from_one binary32 b o i g O I G R l u = (omega arith, omega arith, omega arith)
from_one binary64 b o i g O I G R l u = (omega arith, omega arith, omega arith)

-- elsewhere: further than infinity, and 64 fields or more
elsewhere : (f : Format) (b o i g : ℕ) → o ≡ (emax f + 0) * hid f → i ≡ ones f * hid f → g < 2 ^ 64 → (g + o) % 2 ^ 64 ≡ b → (b < o) ⊎ (i < b) → (64 ≤ g / hid f) × (i - o < g)
elsewhere binary32 b o i g O I G R (inl p) = (omega arith, omega arith)
elsewhere binary32 b o i g O I G R (inr p) = (omega arith, omega arith)
elsewhere binary64 b o i g O I G R (inl p) = (omega arith, omega arith)
elsewhere binary64 b o i g O I G R (inr p) = (omega arith, omega arith)

-- the fields of a pattern below that of 1
field_below : (f : Format) (b o : ℕ) → o ≡ (emax f + 0) * hid f → b < o → (b % top f / hid f < emax f) × (b < top f)
field_below binary32 b o O h = (omega arith, omega arith)
field_below binary64 b o O h = (omega arith, omega arith)

-- of one up to infinity, in the last field
digits-none : (f : Format) (b i : ℕ) → i ≡ ones f * hid f → b ≤ i → b % top f / hid f ≡ ones f → b % hid f ≡ 0
digits-none binary32 b i I h e = omega arith
digits-none binary64 b i I h e = omega arith

-- and of one above infinity, without the sign: a NaN
fields-past : (f : Format) (b i : ℕ) → i ≡ ones f * hid f → i < b → b < top f → (b % top f / hid f ≡ ones f) × (b % hid f ≡ 0 → ⊥)
fields-past binary32 b i I h u = (omega arith, λ z. omega arith)
fields-past binary64 b i I h u = (omega arith, λ z. omega arith)

-- ---- a pattern with the fields e and t
module _ (f : Format) (b e t : ℕ) (X : e ≡ b % top f / hid f) (D : t ≡ b % hid f) where
  abbrev value : Float
  value = of_bits f b

  abbrev part : ℕ
  part = (hid f + t) * 2 ^ (e - 1) / 2 ^ low f

  abbrev sign-is : Bool
  sign-is = leb (top f) b

  pub digits_lt : t < hid f
  digits_lt = lt_of_le_of_lt (le_of_eq D) (mod-lt b (pow_pos (prec f - 1)))

  full : hid f + t < 2 ^ prec f
  full = with_lead f t digits_lt

  lead : hid f ≤ hid f + t
  lead = omega arith

  field_lt : e < suc (ones f)
  field_lt = lt_of_le_of_lt (le_of_eq (X ∙ middle f b)) (mod-lt (b / hid f) (zero-lt-suc (ones f)))

  is_last : ones f ≤ e → e ≡ ones f
  is_last h = omega (arith, field_lt)

  not_first : emax f ≤ e → e ≡ 0 → ⊥
  not_first h q = omega (arith, (low-split f).1)

  pub at-infinity : e ≡ ones f → t ≡ 0 → Truncated value sign-is (2 ^ 64 - 1)
  at-infinity h z = at-infinite value sign-is (read-infinite f b sign-is e t refl X D h z)

  pub at-no-number : (s : Bool) → e ≡ ones f → (t ≡ 0 → ⊥) → Truncated value s 0
  at-no-number s h z = subst (λ (u : Float). Truncated u s 0) (sym (read-nan f b sign-is e t refl X D h z)) refl

  pub at-middle : (e ≡ 0 → ⊥) → (e ≡ ones f → ⊥) → Truncated value sign-is (min ((hid f + t) * 2 ^ (e - 1) / 2 ^ low f) (2 ^ 64 - 1))
  at-middle z h = truncated-value value sign-is ((hid f + t) * 2 ^ (e - 1)) (2 ^ low f) _ (pow_pos (low f)) (read-middle f b sign-is e t refl X D (hid f + t) (e - 1) refl refl z h) refl

  pub at-below : e < emax f → Truncated value sign-is 0
  at-below h =
      ⊎_elim
      (λ (p : 0 < e).
      let z : e ≡ 0 → ⊥ = λ q. omega arith in
      subst (λ (n : ℕ). Truncated value sign-is (min n (2 ^ 64 - 1))) (none f (hid f + t) e full lead h z) (at-middle z (λ q. omega (arith, one_below f))))
      (λ (p : e ≤ 0).
      let small : t * 2 ^ 0 < 2 ^ low f = omega (arith, lt_of_lt_of_le digits_lt (pow_mono (low-ge f))) in
      truncated-value value sign-is (t * 2 ^ 0) (2 ^ low f) 0 (pow_pos (low f)) (read_low f b sign-is e t refl X D (omega arith)) (sym (ap (λ (y : ℕ). min y (2 ^ 64 - 1)) (div-eq_of_lt small))))
      (lt-or-ge 0 e)
    where
      low-ge : (f : Format) → prec f - 1 ≤ low f
      low-ge binary32 = omega arith
      low-ge binary64 = omega arith

  -- some number there is
  pub some-distance : (n : ℕ) × Truncated value sign-is n
  some-distance =
      ⊎_elim
      (λ (h : e < ones f). ⊎_elim (λ (p : e < emax f). (0, at-below p)) (λ (p : emax f ≤ e). (_, at-middle (not_first p) (λ q. omega arith))) (lt-or-ge e (emax f)))
      (λ (h : ones f ≤ e).
      let l = is_last h in
      ⊎_elim (λ (p : 0 < t). (0, at-no-number sign-is l (λ q. omega arith))) (λ (p : t ≤ 0). (2 ^ 64 - 1, at-infinity l (omega arith))) (lt-or-ge 0 t))
      (lt-or-ge e (ones f))

  -- ---- the number held at `most`, which is 2 ^ v or one less
  module _ (v most : ℕ) (F : v ≤ 64) (L : 2 ^ v - 1 ≤ most) (U : most ≤ 2 ^ v) (W : most < 2 ^ 64) where
    held_none : min 0 most ≡ 0
    held_none = omega arith

    -- b lies g above the pattern of 1, counted round, and d fields
    module _ (o i g d n : ℕ) (s : Bool) (O : o ≡ (emax f + 0) * hid f) (I : i ≡ ones f * hid f) (G : g < 2 ^ 64) (R : (g + o) % 2 ^ 64 ≡ b) (E : d ≡ g / hid f) (T : Truncated value s n) where
      same : (m : ℕ) → Truncated value sign-is m → min m most ≡ min n most
      same m t = ap (λ (x : ℕ). min x most) (one-distance value sign-is s m n t T)

      no_sign : b < top f → min n most ≡ cond sign-is 0 (min n most)
      no_sign h = sym (ap (λ (c : Bool). cond c 0 (min n most)) (lt-leb (top f) b h))

      -- below 1, a NaN, or with the sign
      none_is : (b < o) ⊎ (i < b) → 0 ≡ cond sign-is 0 (min n most)
      none_is (inl p) =
          let h = field_below f b o O p in
          sym held_none ∙ same 0 (at-below (lt_of_le_of_lt (le_of_eq X) h.0)) ∙ no_sign h.1
      none_is (inr p) =
          ⊎_elim
          (λ (h : b < top f).
          let z = fields-past f b i I p h in
          sym held_none ∙ same 0 (at-no-number sign-is (X ∙ z.0) (λ q. z.1 (sym D ∙ q))) ∙ no_sign h)
          (λ (h : top f ≤ b). sym (ap (λ (c : Bool). cond c 0 (min n most)) (le-leb (top f) b h)))
          (lt-or-ge b (top f))

      -- from 1 to infinity
      some_is : (sh : ℕ) → o ≤ b → b ≤ i → sh ≡ (hid f + t) * 2 ^ (64 - prec f) / 2 ^ (63 - d % 64) → cond (ltb d v) sh most ≡ min n most
      some_is sh l u S =
          let field_is : e ≡ emax f + d = X ∙ (from_one f b o i g O I G R l u).0 ∙ ap (λ (x : ℕ). emax f + x) (sym E) in
          let up : emax f ≤ e = omega arith in
          let middle-is : (e ≡ ones f → ⊥) → min (min part (2 ^ 64 - 1)) most ≡ min n most = λ h. same _ (at-middle (not_first up) h) in
          ⊎_elim
          (λ (p : d < v).
          let back : d ≡ e - emax f = omega arith in
          let keeps : part ≡ min (min part (2 ^ 64 - 1)) most = omega (arith, under f (hid f + t) e full lead v up (omega arith) F, pow_mono F) in
          ap (λ (c : Bool). cond c sh most) (lt-ltb d v p) ∙ S
          ∙ ap (λ (x : ℕ). (hid f + t) * 2 ^ (64 - prec f) / 2 ^ (63 - x)) (mod-eq_of_lt (lt_of_lt_of_le p F) ∙ back)
          ∙ shift f (hid f + t) e full lead up (omega arith)
          ∙ keeps
          ∙ middle-is (λ q. omega (arith, emax-ge f)))
          (λ (p : v ≤ d).
          ap (λ (c : Bool). cond c sh most) (le-ltb d v p)
          ∙ ⊎_elim
          (λ (h : e < ones f).
          let held : most ≡ min (min part (2 ^ 64 - 1)) most = omega (arith, over f (hid f + t) e full lead v (omega arith)) in
          held ∙ middle-is (λ q. omega arith))
          (λ (h : ones f ≤ e).
          let top-is : most ≡ min (2 ^ 64 - 1) most = omega arith in
          top-is ∙ same (2 ^ 64 - 1) (at-infinity (is_last h) (D ∙ digits-none f b i I u (sym X ∙ is_last h))))
          (lt-or-ge e (ones f)))
          (lt-or-ge d v)

      -- the two together
      pub shift_is : (sh : ℕ) → sh ≡ (hid f + t) * 2 ^ (64 - prec f) / 2 ^ (63 - d % 64) → cond (ltb d v) sh (cond (leb g (i - o)) most 0) ≡ cond sign-is 0 (min n most)
      shift_is sh S =
          let outside : (b < o) ⊎ (i < b) → cond (ltb d v) sh (cond (leb g (i - o)) most 0) ≡ cond sign-is 0 (min n most) = λ c.
          let h = elsewhere f b o i g O I G R c in
          ap₂ (λ (x y : Bool). cond x sh (cond y most 0)) (le-ltb d v (omega (arith, h.0))) (lt-leb g (i - o) h.1) ∙ none_is c in
          ⊎_elim (λ (l : b < o). outside (inl l))
          (λ (l : o ≤ b).
          ⊎_elim (λ (u : i < b). outside (inr u))
          (λ (u : b ≤ i).
          let h = from_one f b o i g O I G R l u in
          ap (λ (c : Bool). cond (ltb d v) sh (cond c most 0)) (le-leb g (i - o) h.1) ∙ some_is sh l u S ∙ no_sign h.2)
          (lt-or-ge i b))
          (lt-or-ge b o)

-- ---- the sign apart: it does not change the distance
odd-distance : (p : ℕ) (s t : Bool) (q k l n : ℕ) → Truncated (odd p s q k l) s n → Truncated (odd p t q k l) t n
unfolding odd
odd-distance p s t zero k l n T = (refl, T.1)
odd-distance p s t (suc q) k l n T = (refl, T.1)

fields-distance : (f : Format) (s t : Bool) (x y n : ℕ) → Truncated (of_fields f s x y) s n → Truncated (of_fields f t x y) t n
unfolding of_fields
fields-distance f s t zero y n T = odd-distance (prec f) s t y 0 (low f) n T
fields-distance f s t (suc x) y n T = go (eqb (suc x) (ones f)) (eqb y 0) T
  where
    go : (c z : Bool) → Truncated (cond c (cond z (inf s) nan) (odd (prec f) s (hid f + y) x (low f))) s n → Truncated (cond c (cond z (inf t) nan) (odd (prec f) t (hid f + y) x (low f))) t n
    go true true T = (refl, T.1)
    go true false T = T
    go false z T = odd-distance (prec f) s t (hid f + y) x (low f) n T

-- the pattern without its sign has the same fields
without_sign : (f : Format) (b n : ℕ) → Truncated (of_bits f b) (leb (top f) b) n → Truncated (of_bits f (b % top f)) (leb (top f) (b % top f)) n
unfolding of_bits
without_sign f b n T =
    let s = leb (top f) (b % top f) in
    subst (λ (v : Float). Truncated v s n) (sym (ap₂ (λ (x y : ℕ). of_fields f s (x / hid f) y) (mod-mod b (top f)) (mod-mod_of_dvd (hid f) b (dvd-mul_right (hid f) (suc (ones f))))))
    (fields-distance f (leb (top f) b) s (b % top f / hid f) (b % hid f) n T)

-- so what the pattern a without the sign gives is the part of b
pub part-without-sign : (f : Format) (b a k most r n : ℕ) → 2 ^ k ≡ top f → a ≡ b % 2 ^ k → ((s : Bool) (m : ℕ) → Truncated (of_bits f a) s m → r ≡ cond (leb (top f) a) 0 (min m most)) → Truncated (of_bits f b) (leb (top f) b) n → r ≡ min n most
part-without-sign f b a k most r n K A E T =
    let q : a ≡ b % top f = A ∙ ap (λ (x : ℕ). b % x) K in
    E (leb (top f) a) n (subst (λ (x : ℕ). Truncated (of_bits f x) (leb (top f) x) n) (sym q) (without_sign f b n T))
    ∙ ap (λ (c : Bool). cond c 0 (min n most)) (lt-leb (top f) a (lt_of_le_of_lt (le_of_eq q) (mod-lt b (subst (λ (x : ℕ). 0 < x) K (pow_pos k)))))

-- ---- the sign as a number

-- a pattern is below twice its weight
pub sign_fits : (f : Format) (b k : ℕ) → b < 2 ^ format_bits f → 2 ^ k ≡ top f → b < 2 * 2 ^ k
sign_fits binary32 b k h e = subst (λ (x : ℕ). b < 2 * x) (sym e) h
sign_fits binary64 b k h e = subst (λ (x : ℕ). b < 2 * x) (sym e) h

module _ (b k : ℕ) (B : b < 2 * 2 ^ k) where
  below_two : b / 2 ^ k < 2 ^ 1
  below_two = shr_lt 1 k (lt_of_lt_of_le B (le_of_eq (sym (pow-add 2 1 k))))

  pub sign_le : b / 2 ^ k ≤ 1
  sign_le = omega (arith, below_two)

  pub sign-number : b / 2 ^ k ≡ cond (leb (2 ^ k) b) 1 0
  sign-number =
      ⊎_elim (λ (h : b < 2 ^ k). rw (lt-leb (2 ^ k) b h) (div-eq_of_lt h))
      (λ (h : 2 ^ k ≤ b). let l : 1 ≤ b / 2 ^ k = (le-div_iff_mul-le (pow_pos k)).1 (omega arith) in rw (le-leb (2 ^ k) b h) (omega (arith, sign_le)))
      (lt-or-ge b (2 ^ k))

-- ---- with a sign s: held at one more than the largest where s is 1
module _ (w s h : ℕ) (H : h ≡ 2 ^ (w - 1)) (S : s ≤ 1) where
  pub held_to : h - 1 + s ≤ 2 ^ (w - 1)
  held_to = omega (arith, pow_pos (w - 1))

  pub part-le : (n r : ℕ) → r ≡ min n (h - 1 + s) → r ≤ 2 ^ (w - 1)
  part-le n r R = omega (arith, held_to)

  pub signed_part : (g : Bool) (n p r : ℕ) → s ≡ cond g 1 0 → p ≡ min n (h - 1 + s) → r ≡ pattern_of w (cond (eqb s 1) (neg_ℤ (pos p)) (pos p)) → r ≡ signed w g n
  signed_part true n p r G P R =
      let e : h - 1 + s ≡ 2 ^ (w - 1) = omega (arith, pow_pos (w - 1)) in
      R ∙ ap (λ (x : ℕ). pattern_of w (cond (eqb x 1) (neg_ℤ (pos p)) (pos p))) G ∙ ap (λ (x : ℕ). pattern_of w (neg_ℤ (pos x))) (P ∙ ap (min n) e)
  signed_part false n p r G P R =
      let e : h - 1 + s ≡ 2 ^ (w - 1) - 1 = omega arith in
      R ∙ ap (λ (x : ℕ). pattern_of w (cond (eqb x 1) (neg_ℤ (pos p)) (pos p))) G ∙ P ∙ ap (min n) e
