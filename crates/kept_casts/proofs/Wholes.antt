-- Floats to integers: kept where the float is a whole number in the target's range.
use Rattle.std.specs.Prelude.{◌≡◌, ◌||◌, ◌&&◌, ◌⊎◌, ◌+◌, ◌-◌, ◌*◌, ◌/◌, ◌%◌, ◌^◌, ◌≤◌, ◌<◌}
use Rattle.common.specs.Logic.{refl, sym, ap, ap₂, ◌∙◌, subst, Bool, true, false, cond, inl, inr, ℕ, zero, suc, mul_comm, mul-one, zero-mul, le_of_eq, lt_of_lt_of_le, lt_of_le_of_lt, mod-lt, div-lt_iff_lt-mul, arith, eq-eqb, ne_eqb, lt-ltb, le-ltb, le-leb, lt-leb, ltb-true, T, eqb, ltb, leb, lit<, eqb→eq, and-true}
use Rattle.common.proofs.Lists.{and_right}
use Rattle.std.proofs.Common.{ℤ, pos, negsuc, neg_ℤ, nat_abs, true≢false, pow_pos}
use mathlib.Core.Bool.{beq, false≢true, or-false, or-true}
use lib.Arith.{digits_div, digits_mod}
use lib.Ieee.{Float, nan, inf, fin, Format, binary32, binary64, prec, emax, low, hid, ones, top, up, down, eq, is_nan, of_bits}
use lib.Ieee.Fits.{down_pos, and_i, eq→eqb}
use lib.Ieee.Exact.{HasValue}
use Rattle.numbers.proofs.Size.{lt-or-ge}
use Rattle.numbers.proofs.Fitting.{cast_fits_lem}
use Rattle.numbers.proofs.Decoding.{read_low, read-middle, read-infinite, read-nan}
use Rattle.numbers.specs.Casts.{Kind, unsigned, signed, float, kind_bits, cast_of}
use Rattle.kept_casts.specs.Kept.{exactly, value_in, same_number, is_float, is_kept}
use Rattle.kept_casts.specs.Steps.{integer_kind, integer_of, in_range, Tells, units_of, Size, Below}
use Rattle.kept_casts.proofs.Same.{value→same, same→sign, self-same, zero_of}
use Rattle.kept_casts.proofs.Casting.{Wide, int_same, int_number, cast_same, no-suc}
use Rattle.kept_casts.proofs.Kept.{same-either, same-of-eq}
use Rattle.kept_casts.proofs.Ranges.{HasInt, range-has, has-range}
use Rattle.kept_casts.proofs.FewDigits.{agree, value-is}
use Rattle.kept_casts.proofs.Fractions.{cross-of}
use Rattle.kept_casts.proofs.Sizes.{size_none, none-size, size-below-one, lead-size, size-power}

-- the integer of the sign s and the size n
abbrev signed_by : Bool → ℕ → ℤ
signed_by s n = cond s (neg_ℤ (pos n)) (pos n)

-- ---- a finite float and an integer

flat : (n c a : ℕ) → n * 1 * c ≡ a * 1 → a ≡ n * c
flat n c a h = sym (mul-one a) ∙ sym h ∙ ap (λ (x : ℕ). x * c) (mul-one n)

size-of : (v : Float) (s : Bool) (a c : ℕ) (z : ℤ) → HasValue v s a c → T (eq v (exactly z)) → a ≡ nat_abs z * c
size-of v s a c (pos n) h k = flat n c a (cross-of s a c false n (pos 0) v h k)
size-of v s a c (negsuc n) h k = flat (suc n) c a (cross-of s a c true (suc n) (pos 0) v h k)

no_part : (m d : ℕ) (e : ℤ) → 0 < d → m * up e * 1 ≡ 0 → m * up e * d ≡ 0
no_part m d e D h = ap (λ (x : ℕ). x * d) (sym (mul-one (m * up e)) ∙ h) ∙ zero-mul d

-- the sign is the integer's, unless it is 0
sign_of : (v : Float) (s : Bool) (a c : ℕ) (z : ℤ) → 0 < c → HasValue v s a c → T (eq v (exactly z)) → signed_by s (nat_abs z) ≡ z
unfolding eq
sign_of nan s a c z C h k = absurd h
sign_of (inf t) s a c z C h k = absurd h
sign_of (fin t m e) true a c (negsuc n) C h k = refl
sign_of (fin t m e) false a c (pos n) C h k = refl
sign_of (fin t m e) true a c (pos n) C h k = go (same→sign t m e false n (pos 0) k)
  where
    go : (t ≡ false) ⊎ (m * up e * 1 ≡ 0) → neg_ℤ (pos n) ≡ pos n
    go (inl q) = absurd (true≢false (sym h.0 ∙ q))
    go (inr q) =
        let z : n ≡ 0 = zero_of n c C (sym (size-of (fin t m e) true a c (pos n) h k) ∙ zero_of a (down e) (down_pos e) (sym h.1 ∙ no_part m c e C q)) in
        ap (λ (x : ℕ). neg_ℤ (pos x)) z ∙ ap pos (sym z)
sign_of (fin t m e) false a c (negsuc n) C h k = go (same→sign t m e true (suc n) (pos 0) k)
  where
    go : (t ≡ true) ⊎ (m * up e * 1 ≡ 0) → pos (suc n) ≡ negsuc n
    go (inl q) = absurd (false≢true (sym h.0 ∙ q))
    go (inr q) = absurd (no-suc n (zero_of (suc n) c C (sym (size-of (fin t m e) false a c (negsuc n) h k) ∙ zero_of a (down e) (down_pos e) (sym h.1 ∙ no_part m c e C q))))

-- a zero of either sign is 0
is_none : (v : Float) (s : Bool) (a c : ℕ) → 0 < c → a ≡ 0 → HasValue v s a c → T (eq v (exactly (pos 0)))
unfolding eq
is_none nan s a c C z h = absurd h
is_none (inf t) s a c C z h = absurd h
is_none (fin t m e) s a c C z h =
    let n : m * up e * 1 ≡ 0 = mul-one (m * up e) ∙ zero_of (m * up e) c C (h.1 ∙ ap (λ (x : ℕ). x * down e) z ∙ zero-mul (down e)) in
    and_i (eqb (m * up e * 1) (0 * 1 * down e)) (beq t false || eqb (m * up e * 1) 0) (eq→eqb (n ∙ sym (zero-mul (down e)))) (or_r (beq t false) (eqb (m * up e * 1) 0) (eq→eqb n))
  where
    or_r : (a b : Bool) → T b → T (a || b)
    or_r true b t = tt
    or_r false b t = t

same_of : (v : Float) (s : Bool) (c n : ℕ) → 0 < c → HasValue v s (n * c) c → T (eq v (exactly (signed_by s n)))
same_of v false c n C h = value→same v (fin false n (pos 0)) false (n * c) c C h (refl, ap (λ (x : ℕ). x * c) (mul-one n) ∙ sym (mul-one (n * c)))
same_of v true c zero C h = is_none v true (0 * c) c C (zero-mul c) h
same_of v true c (suc n) C h = value→same v (fin true (suc n) (pos 0)) true (suc n * c) c C h (refl, ap (λ (x : ℕ). x * c) (mul-one (suc n)) ∙ sym (mul-one (suc n * c)))

-- ---- what a pattern stands for

module _ (f : Format) (b a : ℕ) (A : a ≡ b % top f) where
  digits_of : a % hid f ≡ b % hid f
  digits_of = ap (λ (n : ℕ). n % hid f) A ∙ go f
    where
      go : (f : Format) → b % top f % hid f ≡ b % hid f
      go binary32 = omega arith
      go binary64 = omega arith

  field_of : (x : ℕ) → a / hid f ≡ x → x ≡ b % top f / hid f
  field_of x e = sym e ∙ ap (λ (n : ℕ). n / hid f) A

  units-value : a / hid f < ones f → HasValue (of_bits f b) (leb (top f) b) (units_of f (a / hid f) (a % hid f)) (2 ^ low f)
  units-value l = go (a / hid f) refl l
    where
      pred : (x : ℕ) → x ≡ suc x - 1
      pred x = omega arith

      less : (x o : ℕ) → x < o → x ≡ o → ⊥
      less x o h e = omega arith

      go : (x : ℕ) → a / hid f ≡ x → x < ones f → HasValue (of_bits f b) (leb (top f) b) (units_of f x (a % hid f)) (2 ^ low f)
      go zero e h = read_low f b (leb (top f) b) zero (a % hid f) refl (field_of zero e) digits_of refl
      go (suc x) e h = read-middle f b (leb (top f) b) (suc x) (a % hid f) refl (field_of (suc x) e) digits_of (hid f + a % hid f) x refl (pred x) (no-suc x) (less (suc x) (ones f) h)

  special : a / hid f ≡ ones f → (of_bits f b ≡ inf (leb (top f) b)) ⊎ (of_bits f b ≡ nan)
  special e = go (lt-or-ge (a % hid f) 1)
    where
      zero-t : (t : ℕ) → t < 1 → t ≡ 0
      zero-t t h = omega arith

      some-t : (t : ℕ) → 1 ≤ t → t ≡ 0 → ⊥
      some-t t h e = omega arith

      go : (a % hid f < 1) ⊎ (1 ≤ a % hid f) → (of_bits f b ≡ inf (leb (top f) b)) ⊎ (of_bits f b ≡ nan)
      go (inl h) = inl (read-infinite f b (leb (top f) b) (ones f) (a % hid f) refl (field_of (ones f) e) digits_of refl (zero-t (a % hid f) h))
      go (inr h) = inr (read-nan f b (leb (top f) b) (ones f) (a % hid f) refl (field_of (ones f) e) digits_of refl (some-t (a % hid f) h))

  field-most : a / hid f ≤ ones f
  field-most = go (ones f) ((div-lt_iff_lt-mul (pow_pos (prec f - 1))).1 (lt_of_lt_of_le (lt_of_le_of_lt (le_of_eq A) (mod-lt b (top_pos f))) (le_of_eq (mul_comm (hid f) (suc (ones f))))))
    where
      go : (o : ℕ) {x : ℕ} → x < suc o → x ≤ o
      go o h = omega arith

      top_pos : (f : Format) → 0 < top f
      top_pos binary32 = lit< tt
      top_pos binary64 = lit< tt

-- neither an infinity nor a NaN is an integer
infinite-lost : (s : Bool) (z : ℤ) → same_number (inf s) (exactly z) ≡ false
unfolding same_number eq is_nan
infinite-lost s (pos n) = refl
infinite-lost s (negsuc n) = refl

nan-lost : (z : ℤ) → same_number nan (exactly z) ≡ false
unfolding same_number eq is_nan
nan-lost (pos n) = refl
nan-lost (negsuc n) = refl

pub integer-kind : (s : Bool) (w : ℕ) → is_float (integer_kind s w) ≡ false
integer-kind true w = refl
integer-kind false w = refl

pub wide-kind : (s : Bool) (w : ℕ) → 0 < w → Wide (integer_kind s w)
wide-kind true w h = h
wide-kind false w h = h

-- a pattern stands for its integer
has-own : (s : Bool) (w r : ℕ) → r < 2 ^ kind_bits (integer_kind s w) → HasInt (integer_kind s w) (integer_of s w r)
unfolding HasInt
has-own s w r l = (r, l, subst (λ (v : Float). T (eq (exactly (integer_of s w r)) v)) (sym (value-is s w r)) (self-same (exactly (integer_of s w r)) (int_number (integer_of s w r))))

-- ---- the cast keeps the number exactly where it is whole and in range
module _ (f : Format) (b a : ℕ) (A : a ≡ b % top f) (s : Bool) (w : ℕ) (W : 0 < w) where
  InRange : Type 0
  InRange = (n : ℕ) × Size f a n × (in_range (integer_kind s w) (signed_by (leb (top f) b) n) ≡ true)

  kept_in : is_kept (float f) (integer_kind s w) b ≡ true → InRange
  unfolding is_kept InRange
  kept_in h = go (lt-or-ge (a / hid f) (ones f))
    where
      l : Kind
      l = integer_kind s w

      r : ℕ
      r = cast_of (float f) (integer_kind s w) b

      z : ℤ
      z = integer_of s w (cast_of (float f) (integer_kind s w) b)

      as-integer : same_number (of_bits f b) (exactly z) ≡ true
      as-integer = ap (same_number (of_bits f b)) (sym (value-is s w r)) ∙ h

      meet : (x o : ℕ) → x ≤ o → o ≤ x → x ≡ o
      meet x o p q = omega arith

      is_same : T (eq (of_bits f b) (exactly z)) ⊎ ((is_nan (of_bits f b) ≡ true) × (is_nan (exactly z) ≡ true)) → T (eq (of_bits f b) (exactly z))
      is_same (inl e) = e
      is_same (inr n) = absurd (false≢true (sym (int_number z) ∙ n.1))

      lost : (of_bits f b ≡ inf (leb (top f) b)) ⊎ (of_bits f b ≡ nan) → InRange
      lost (inl e) = absurd (false≢true (sym (infinite-lost (leb (top f) b) z) ∙ ap (λ (v : Float). same_number v (exactly z)) (sym e) ∙ as-integer))
      lost (inr e) = absurd (false≢true (sym (nan-lost z) ∙ ap (λ (v : Float). same_number v (exactly z)) (sym e) ∙ as-integer))

      go : (a / hid f < ones f) ⊎ (ones f ≤ a / hid f) → InRange
      go (inr o) = lost (special f b a A (meet (a / hid f) (ones f) (field-most f b a A) o))
      go (inl o) =
          let v = units-value f b a A o in
          let e = is_same (same-either (of_bits f b) (exactly z) as-integer) in
          let has : HasInt l z = has_of in (
            nat_abs z,
            (o, size-of (of_bits f b) (leb (top f) b) (units_of f (a / hid f) (a % hid f)) (2 ^ low f) z v e),
            ap (in_range l) (sign_of (of_bits f b) (leb (top f) b) (units_of f (a / hid f) (a % hid f)) (2 ^ low f) z (pow_pos (low f)) v e) ∙ has-range l z (wide-kind s w W) has,
          )
        where
          has_of : HasInt (integer_kind s w) (integer_of s w (cast_of (float f) (integer_kind s w) b))
          has_of = has-own s w r (cast_fits_lem (float f) (integer_kind s w) b)

  in_kept : InRange → is_kept (float f) (integer_kind s w) b ≡ true
  unfolding is_kept InRange HasInt
  in_kept (n, (o, e), h) =
      let v : HasValue (of_bits f b) (leb (top f) b) (n * 2 ^ low f) (2 ^ low f) = subst (λ (u : ℕ). HasValue (of_bits f b) (leb (top f) b) u (2 ^ low f)) e (units-value f b a A o) in
      let z = signed_by (leb (top f) b) n in
      let k = same_of (of_bits f b) (leb (top f) b) (2 ^ low f) n (pow_pos (low f)) v in
      let (y, l, q) = range-has (integer_kind s w) z (integer-kind s w) (wide-kind s w W) h in
      same-of-eq (of_bits f b) (value_in (integer_kind s w) (cast_of (float f) (integer_kind s w) b))
      (cast_same (float f) (integer_kind s w) b y (wide-kind s w W) l (via y z (value-is s w y) k q))
    where
      via : (y : ℕ) (z : ℤ) → value_in (integer_kind s w) y ≡ exactly (integer_of s w y) → T (eq (of_bits f b) (exactly z)) → T (eq (exactly z) (value_in (integer_kind s w) y)) → T (eq (of_bits f b) (value_in (integer_kind s w) y))
      via y z e k q =
          subst (λ (u : Float). T (eq (of_bits f b) u)) (ap exactly (int_same z (integer_of s w y) (subst (λ (u : Float). T (eq (exactly z) u)) e q)) ∙ sym e) k

  told : Tells (is_kept (float f) (integer_kind s w) b) InRange
  told = (kept_in, in_kept)

-- ---- the pattern without its sign

module _ (f : Format) (b a : ℕ) (A : a ≡ b % top f) where
  high_part : top f ≤ b → b < 2 * top f → b ≡ top f + a
  high_part h l = sym (sum (top f) h) ∙ ap (λ (n : ℕ). top f + n) (sym (A ∙ ap (λ (n : ℕ). n % top f) (once (top f) h) ∙ digits_mod 1 {m = top f} {r = b - top f} (rest (top f) h l)))
    where
      sum : (t : ℕ) → t ≤ b → t + (b - t) ≡ b
      sum t h = omega arith

      once : (t : ℕ) → t ≤ b → b ≡ 1 * t + (b - t)
      once t h = omega arith

      rest : (t : ℕ) → t ≤ b → b < 2 * t → b - t < t
      rest t h l = omega arith

-- the pattern of 2 ^ v
power_size : (f : Format) (a v : ℕ) → v < 64 → a ≡ (emax f + v) * hid f → Size f a (2 ^ v)
power_size f a v l e =
    lead-size f a v (ap (λ (n : ℕ). n / hid f) (e ∙ plus ((emax f + v) * hid f)) ∙ digits_div (emax f + v) {m = hid f} {r = 0} (pow_pos (prec f - 1))) (2 ^ v) l
    (ap (λ (n : ℕ). (hid f + n) * 2 ^ v) (ap (λ (n : ℕ). n % hid f) (e ∙ plus ((emax f + v) * hid f)) ∙ digits_mod (emax f + v) {m = hid f} {r = 0} (pow_pos (prec f - 1)))
    ∙ ap (λ (n : ℕ). n * 2 ^ v) (sym (plus (hid f))) ∙ mul_comm (hid f) (2 ^ v))
  where
    plus : (x : ℕ) → x ≡ x + 0
    plus x = omega arith

power-of : (f : Format) (a v : ℕ) → Size f a (2 ^ v) → a ≡ (emax f + v) * hid f
power-of f a v s = go (lt-or-ge (a / hid f) (emax f))
  where
    no : (n : ℕ) → 0 < n → n ≡ 0 → ⊥
    no n p e = omega arith

    sum : (x e : ℕ) → e ≤ x → x ≡ e + (x - e)
    sum x e h = omega arith

    go : (a / hid f < emax f) ⊎ (emax f ≤ a / hid f) → a ≡ (emax f + v) * hid f
    go (inl h) = absurd (no (2 ^ v) (pow_pos v) (size-below-one f a (2 ^ v) h s))
    go (inr h) = size-power f a (a / hid f - emax f) (sum (a / hid f) (emax f) h) v s

-- ---- the code's answers

module _ (f : Format) (b a : ℕ) (A : a ≡ b % top f) (B : b < 2 * top f) (w : ℕ) (W : 0 < w) where
  split-or : (p q : Bool) → (p || q) ≡ true → (p ≡ true) ⊎ (q ≡ true)
  split-or true q h = inl refl
  split-or false q h = inr h

  -- without a sign: from 0 to below 2 ^ w; of the negative ones only -0
  pub kept-unsigned : (p : Bool) → Tells p (Below f a w) → (p && (ltb b (top f) || eqb a 0)) ≡ is_kept (float f) (integer_kind false w) b
  unfolding InRange
  kept-unsigned p t = go (lt-or-ge b (top f))
    where
      goal : Type 0
      goal = (p && (ltb b (top f) || eqb a 0)) ≡ is_kept (float f) (integer_kind false w) b

      plain : b < top f → Tells p (InRange f b a A false w W)
      plain h =
          let g : leb (top f) b ≡ false = lt-leb (top f) b h in (
            (λ r. let (n, l, s) = t.0 r in (n, s, ap (λ (c : Bool). in_range (unsigned w) (signed_by c n)) g ∙ lt-ltb n (2 ^ w) l)),
            (λ (n, s, r). t.1 (n, ltb-true n (2 ^ w) (sym (ap (λ (c : Bool). in_range (unsigned w) (signed_by c n)) g) ∙ r), s)),
          )

      only_zero : (n : ℕ) → in_range (unsigned w) (neg_ℤ (pos n)) ≡ true → n ≡ 0
      only_zero zero r = refl
      only_zero (suc n) r = absurd (false≢true r)

      minus : top f ≤ b → Tells (p && eqb a 0) (InRange f b a A false w W)
      minus h =
          let g : leb (top f) b ≡ true = le-leb (top f) b h in (
            (λ r. (0, none-size f a (eqb→eq a 0 (subst T (sym (and_right p (eqb a 0) r)) tt)), ap (λ (c : Bool). in_range (unsigned w) (signed_by c 0)) g ∙ lt-ltb 0 (2 ^ w) (pow_pos w))),
            (λ (n, s, r).
                let z = only_zero n (sym (ap (λ (c : Bool). in_range (unsigned w) (signed_by c n)) g) ∙ r) in
                let e = subst (Size f a) z s in
                ap₂ ◌&&◌ (t.1 (0, pow_pos w, e)) (eq-eqb a 0 (size_none f a e))),
          )

      go : (b < top f) ⊎ (top f ≤ b) → (p && (ltb b (top f) || eqb a 0)) ≡ is_kept (float f) (integer_kind false w) b
      go (inl h) = ap (λ (c : Bool). p && (c || eqb a 0)) (lt-ltb b (top f) h) ∙ and-true p ∙ agree p (is_kept (float f) (integer_kind false w) b) (plain h) (told f b a A false w W)
      go (inr h) = ap (λ (c : Bool). p && (c || eqb a 0)) (le-ltb b (top f) h) ∙ agree (p && eqb a 0) (is_kept (float f) (integer_kind false w) b) (minus h) (told f b a A false w W)

  -- with a sign: to below 2 ^ (w - 1), and down to -2 ^ (w - 1) itself
  pub kept-signed : w ≤ 64 → (p : Bool) → Tells p (Below f a (w - 1)) → (c : ℕ) → c ≡ top f + (emax f + (w - 1)) * hid f → (p || eqb b c) ≡ is_kept (float f) (integer_kind true w) b
  unfolding InRange
  kept-signed K p t c C = go (lt-or-ge b (top f))
    where
      v : ℕ
      v = w - 1

      off : b < top f → b ≡ c → ⊥
      off h e = no (top f) ((emax f + (w - 1)) * hid f) h (e ∙ C)
        where
          no : (x y : ℕ) → b < x → b ≡ x + y → ⊥
          no x y h e = omega arith

      plain : b < top f → Tells p (InRange f b a A true w W)
      plain h =
          let g : leb (top f) b ≡ false = lt-leb (top f) b h in (
            (λ r. let (n, l, s) = t.0 r in (n, s, ap (λ (d : Bool). in_range (signed w) (signed_by d n)) g ∙ lt-ltb n (2 ^ (w - 1)) l)),
            (λ (n, s, r). t.1 (n, ltb-true n (2 ^ (w - 1)) (sym (ap (λ (d : Bool). in_range (signed w) (signed_by d n)) g) ∙ r), s)),
          )

      -- -n is in range exactly up to 2 ^ (w - 1)
      in_reach : (n : ℕ) → n ≤ 2 ^ (w - 1) → in_range (signed w) (neg_ℤ (pos n)) ≡ true
      in_reach zero l = lt-ltb 0 (2 ^ (w - 1)) (pow_pos (w - 1))
      in_reach (suc n) l = lt-ltb n (2 ^ (w - 1)) l

      reach : (n : ℕ) → in_range (signed w) (neg_ℤ (pos n)) ≡ true → n ≤ 2 ^ (w - 1)
      reach zero r = least (2 ^ (w - 1))
        where
          least : (x : ℕ) → 0 ≤ x
          least x = omega arith
      reach (suc n) r = ltb-true n (2 ^ (w - 1)) r

      up : (n x : ℕ) → n < x → n ≤ x
      up n x h = omega arith

      meet : (n x : ℕ) → n ≤ x → x ≤ n → n ≡ x
      meet n x h g = omega arith

      short : w - 1 < 64
      short = before w W K
        where
          before : (w : ℕ) → 0 < w → w ≤ 64 → w - 1 < 64
          before w h l = omega arith

      cancel : (x y z : ℕ) → x + y ≡ x + z → y ≡ z
      cancel x y z e = omega arith

      minus : top f ≤ b → Tells (p || eqb b c) (InRange f b a A true w W)
      minus h = (there, back)
        where
          g : leb (top f) b ≡ true
          g = le-leb (top f) b h

          put : (n : ℕ) → in_range (signed w) (neg_ℤ (pos n)) ≡ true → in_range (signed w) (signed_by (leb (top f) b) n) ≡ true
          put n r = ap (λ (d : Bool). in_range (signed w) (signed_by d n)) g ∙ r

          pick : (p ≡ true) ⊎ (eqb b c ≡ true) → InRange f b a A true w W
          pick (inl r) = let (n, l, s) = t.0 r in (n, s, put n (in_reach n (up n (2 ^ (w - 1)) l)))
          pick (inr r) = (
            2 ^ (w - 1),
            power_size f a (w - 1) short (cancel (top f) a ((emax f + (w - 1)) * hid f) (sym (high_part f b a A h B) ∙ eqb→eq b c (subst T (sym r) tt) ∙ C)),
            put (2 ^ (w - 1)) (in_reach (2 ^ (w - 1)) (le_of_eq refl)),
          )

          there : (p || eqb b c) ≡ true → InRange f b a A true w W
          there r = pick (split-or p (eqb b c) r)

          ends : (n : ℕ) → Size f a n → n ≤ 2 ^ (w - 1) → (n < 2 ^ (w - 1)) ⊎ (2 ^ (w - 1) ≤ n) → (p || eqb b c) ≡ true
          ends n s l (inl q) = ap (λ (d : Bool). d || eqb b c) (t.1 (n, q, s))
          ends n s l (inr q) =
              ap (λ (d : Bool). p || d) (eq-eqb b c (high_part f b a A h B ∙ ap (λ (k : ℕ). top f + k) (power-of f a (w - 1) (subst (Size f a) (meet n (2 ^ (w - 1)) l q) s)) ∙ sym C)) ∙ or-true p

          back : InRange f b a A true w W → (p || eqb b c) ≡ true
          back (n, s, r) =
              let l = reach n (sym (ap (λ (d : Bool). in_range (signed w) (signed_by d n)) g) ∙ r) in
              ends n s l (lt-or-ge n (2 ^ (w - 1)))

      go : (b < top f) ⊎ (top f ≤ b) → (p || eqb b c) ≡ is_kept (float f) (integer_kind true w) b
      go (inl h) = ap (λ (d : Bool). p || d) (ne_eqb b c (off h)) ∙ or-false p ∙ agree p (is_kept (float f) (integer_kind true w) b) (plain h) (told f b a A true w W)
      go (inr h) = agree (p || eqb b c) (is_kept (float f) (integer_kind true w) b) (minus h) (told f b a A true w W)
