-- An attribute of several numbers: its length, its parts one after the other, and its codes.
use Rattle.std.specs.Prelude.{◌≡◌, ◌++◌, ◌≤◌, ◌<◌, ◌+◌, ◌-◌, ◌*◌, ◌^◌, ◌%◌}
use Rattle.common.specs.Logic.{◌∙◌, sym, ap, refl, subst, ap₂, List, append_assoc, append-nil, ℕ, suc, zero, mul-le-mul_right, mod-eq_of_lt, not-suc-le-zero, le_of_suc-le-suc, suc-mul, zero-mul, pow-succ', arith, eq-eqb, ne_eqb, length, take, drop, length-append}
use native.Mathlib.Nat.{add_comm, add-sub_cancel_left}
use native.Mathlib.Numerals.{add-one}
use borrow.Rule.Slice.PartMut.{put_mid}
use lib.Pow.{pow-add}
use lib.Seq.{take_at, drop_at, drop-drop}
use Rattle.attribute_conversion.specs.Bytes.{le_value, le_bytes}
use Rattle.scalar_casts.specs.Scalars.{width_of, bits_of, cast_scalar}
use Rattle.attribute_conversion.specs.Attributes.{cast_number, cast_each, cast_codes, components_of, component_of}
use Rattle.scalar_casts.specs.declared.scalar.Scalar.{Scalar}
use Rattle.attribute_conversion.proofs.LittleEndian.{length-bytes, part-stored}

-- ---- one number

pub byte_pow : (n : ℕ) → 256 ^ n ≡ 2 ^ (8 * n)
byte_pow zero = refl
byte_pow (suc n) =
    let e : 8 + 8 * n ≡ 8 * suc n = omega arith in
    pow-succ' 256 n ∙ ap (λ (x : ℕ). 256 * x) (byte_pow n) ∙ sym (pow-add 2 8 (8 * n)) ∙ ap (λ (k : ℕ). 2 ^ k) e

-- a number that was loaded is a pattern of its scalar
pub loaded-is : (f : Scalar) (s : List ℕ) (v x : ℕ) → v ≡ width_of f → x < 256 ^ v → x ≡ le_value s → x % 2 ^ bits_of f ≡ le_value s
loaded-is f s v x A L X =
    let in-bits : x < 2 ^ bits_of f = subst (λ (n : ℕ). x < n) (ap (λ (u : ℕ). 256 ^ u) A ∙ byte_pow (width_of f)) L in
    mod-eq_of_lt in-bits ∙ X

-- what the code loads, casts and stores
pub number_is : (f t : Scalar) (s out : List ℕ) (v w x r : ℕ) → v ≡ width_of f → w ≡ width_of t → x < 256 ^ v → x ≡ le_value s → r ≡ cast_scalar f t (x % 2 ^ bits_of f) → out ≡ le_bytes w r → out ≡ cast_number f t s
unfolding cast_number
number_is f t s out v w x r A W L X R O = O ∙ ap₂ le_bytes W (R ∙ ap (cast_scalar f t) (loaded-is f s v x A L X))

length-number : (f t : Scalar) (s : List ℕ) → length (cast_number f t s) ≡ width_of t
unfolding cast_number
length-number f t s = length-bytes (width_of t) _

-- ---- k numbers, one after the other

pub length-each : (k : ℕ) (f t : Scalar) (s : List ℕ) → length (cast_each k f t s) ≡ k * width_of t
unfolding cast_each
length-each zero f t s = omega arith
length-each (suc k) f t s =
    length-append (cast_number f t (take (width_of f) s)) (cast_each k f t (drop (width_of f) s))
    ∙ ap₂ ◌+◌ (length-number f t (take (width_of f) s)) (length-each k f t (drop (width_of f) s))
    ∙ add_comm (width_of t) (k * width_of t)
    ∙ sym (suc-mul k (width_of t))

next-part : (i w : ℕ) (s : List ℕ) → drop (i * w) (drop w s) ≡ drop (suc i * w) s
next-part i w s = drop-drop (i * w) w s ∙ ap (λ (n : ℕ). drop n s) (add_comm w (i * w) ∙ sym (suc-mul i w))

-- number i of them
pub each_at : (k : ℕ) (f t : Scalar) (s : List ℕ) (i : ℕ) → i < k → take (width_of t) (drop (i * width_of t) (cast_each k f t s)) ≡ cast_number f t (take (width_of f) (drop (i * width_of f) s))
unfolding cast_each
each_at zero f t s i h = absurd (not-suc-le-zero h)
each_at (suc k) f t s zero h = rw (zero-mul (width_of t), zero-mul (width_of f)) (take_at (cast_number f t (take (width_of f) s)) (cast_each k f t (drop (width_of f) s)) (width_of t) (length-number f t (take (width_of f) s)))
each_at (suc k) f t s (suc i) h =
    let first = cast_number f t (take (width_of f) s) in
    let rest = cast_each k f t (drop (width_of f) s) in
    ap (take (width_of t)) (sym (next-part i (width_of t) (first ++ rest)) ∙ ap (drop (i * width_of t)) (drop_at first rest (width_of t) (length-number f t (take (width_of f) s))))
    ∙ each_at k f t (drop (width_of f) s) i (le_of_suc-le-suc h)
    ∙ ap (λ (l : List ℕ). cast_number f t (take (width_of f) l)) (next-part i (width_of f) s)

-- one more
each_more : (i : ℕ) (f t : Scalar) (s : List ℕ) → cast_each (suc i) f t s ≡ cast_each i f t s ++ cast_number f t (take (width_of f) (drop (i * width_of f) s))
unfolding cast_each
each_more zero f t s = append-nil (cast_number f t (take (width_of f) s)) ∙ rw (zero-mul (width_of f))
each_more (suc i) f t s =
    ap (λ (l : List ℕ). cast_number f t (take (width_of f) s) ++ l) (each_more i f t (drop (width_of f) s) ∙ ap (λ (l : List ℕ). cast_each i f t (drop (width_of f) s) ++ cast_number f t (take (width_of f) l)) (next-part i (width_of f) s))
    ∙ sym (append_assoc (cast_number f t (take (width_of f) s)) (cast_each i f t (drop (width_of f) s)) _)

-- number i of the k in a list of them lies within
module _ (k i n : ℕ) {v : ℕ} (s : List ℕ) (A : v ≡ n) (S : length s ≡ k * n) (I : i < k) where
  pub part-within : i * v + v ≤ length s
  part-within = omega (arith, suc-mul i n, mul-le-mul_right n I, ap (λ (x : ℕ). i * x) A)

-- a turn of the loop: i of the k numbers stand in dst, and p is the next; v and w are the two widths
module _ (k : ℕ) (f t : Scalar) {v w : ℕ} (i : ℕ) (src dst p : List ℕ) (A : v ≡ width_of f) (B : w ≡ width_of t) (I : i < k) where
  pub each_turn : length dst ≡ k * width_of t → take (i * w) dst ≡ cast_each i f t src → p ≡ cast_number f t (take (i * v + v - i * v) (drop (i * v) src))
      → (length (put_mid (i * w) (i * w + w - i * w) dst p) ≡ k * width_of t) × (take ((i + 1) * w) (put_mid (i * w) (i * w + w - i * w) dst p) ≡ cast_each (i + 1) f t src)
  each_turn D T P =
      let s = part-stored (i * w) w dst p (part-within k i (width_of t) dst B D I) (ap length P ∙ length-number f t _ ∙ sym B) in (
        s.0 ∙ D,
        ap (λ (n : ℕ). take n (put_mid (i * w) (i * w + w - i * w) dst p)) (ap (λ (n : ℕ). n * w) (add-one i) ∙ suc-mul i w) ∙ s.1
            ∙ ap₂ ◌++◌ T (P ∙ ap₂ (λ (a b : ℕ). cast_number f t (take a (drop b src))) (add-sub_cancel_left (i * v) v ∙ A) (ap (λ (n : ℕ). i * n) A))
            ∙ sym (each_more i f t src) ∙ ap (λ (n : ℕ). cast_each n f t src) (sym (add-one i)),
      )

-- ---- the cast by codes
module _ (from to : ℕ) (s : List ℕ) where
  pub as_same : from ≡ to → s ≡ cast_codes from to s
  unfolding cast_codes
  as_same e = rw (eq-eqb from to e)

  pub as-cast : {k : ℕ} {a b : Scalar} → (from ≡ to → ⊥) → k ≡ components_of from → a ≡ component_of from → b ≡ component_of to → cast_each k a b s ≡ cast_codes from to s
  unfolding cast_codes
  as-cast n K A B = rw (ne_eqb from to n, K, A, B)
