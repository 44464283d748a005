-- When a format has a value that is known as a fraction.
use Rattle.std.specs.Prelude.{◌≡◌, ◌||◌, ◌&&◌, ◌*◌, ◌<◌}
use Rattle.common.specs.Logic.{sym, ap, ◌∙◌, subst, Bool, false, ℕ, T}
use mathlib.Core.Bool.{or-false}
use Rattle.std.proofs.Common.{ℤ, mul_right_comm}
use native.Mathlib.Nat.{eq_of_mul-eq-mul_right}
use lib.Ieee.{Float, nan, inf, fin, Format, up, down, eq, is_nan, round, fits, of_bits}
use lib.Ieee.Fits.{down_pos}
use lib.Ieee.Bits.{is_true}
use lib.Ieee.Exact.{HasValue}
use Rattle.numbers.proofs.Value.{rounded-value}
use Rattle.numbers.specs.Casts.{Kind, float, rounded, cast_of}
use Rattle.kept_casts.specs.Kept.{value_in, same_number, is_kept}
use Rattle.kept_casts.specs.Steps.{Tells}
use Rattle.kept_casts.proofs.Same.{value→same, same→cross, Fit, fit, fit-exact}
use Rattle.kept_casts.proofs.Casting.{to-float, rounded-fits}

-- two finite values that are the same number, one of them a / c
pub cross-of : (s : Bool) (a c : ℕ) (t : Bool) (m : ℕ) (e : ℤ) (v : Float) → HasValue v s a c → T (eq v (fin t m e)) → m * up e * c ≡ a * down e
unfolding eq
cross-of s a c t m e nan h k = absurd h
cross-of s a c t m e (inf r) h k = absurd h
cross-of s a c t m e (fin r n d) h k =
    eq_of_mul-eq-mul_right (down d) (down_pos d) (m * up e * c) (a * down e)
    (mul_right_comm (m * up e) c (down d) ∙ ap (λ (x : ℕ). x * c) (sym (same→cross r n d t m e k)) ∙ mul_right_comm (n * up d) (down e) c
    ∙ ap (λ (x : ℕ). x * down e) h.1 ∙ mul_right_comm a (down d) (down e))

fit_of : (f : Format) (s : Bool) (a c : ℕ) (v y : Float) → HasValue v s a c → T (fits f y) → T (eq v y) → Fit f a c
unfolding eq
fit_of f s a c nan y h F k = absurd h
fit_of f s a c (inf r) y h F k = absurd h
fit_of f s a c (fin r n d) nan h F k = absurd k
fit_of f s a c (fin r n d) (inf t) h F k = absurd k
fit_of f s a c (fin r n d) (fin t m e) h F k = fit f t m e a c F (cross-of s a c t m e (fin r n d) h k)

-- rounding keeps the number exactly where the format has it
pub rounded-fit : (f : Format) (s : Bool) (a c : ℕ) (v : Float) → 0 < c → HasValue v s a c → Tells (eq v (rounded f v)) (Fit f a c)
rounded-fit f s a c v C h = (
  (λ e. fit_of f s a c v (rounded f v) h (rounded-fits f v) (subst T (sym e) tt)),
  (λ k. is_true (eq v (rounded f v)) (subst (λ (y : Float). T (eq v y)) (sym (rounded-value f v s a c C h)) (value→same v (round f s a c) s a c C h (fit-exact f s a c C k)))),
)

-- ---- to a float: what is no NaN is kept where it is not changed by rounding

pub kept-rounded : (k : Kind) (f : Format) (x : ℕ) → is_nan (value_in k x) ≡ false → is_kept k (float f) x ≡ eq (value_in k x) (rounded f (value_in k x))
unfolding is_kept same_number
kept-rounded k f x h =
    ap (λ (b : Bool). eq (value_in k x) (of_bits f (cast_of k (float f) x)) || (b && is_nan (of_bits f (cast_of k (float f) x)))) h
    ∙ or-false (eq (value_in k x) (of_bits f (cast_of k (float f) x)))
    ∙ ap (eq (value_in k x)) (to-float k f x h)
