-- The number that a cast gives, by the kinds of source and target, and where it is the source's.
use Rattle.std.specs.Prelude.{◌≡◌, ◌⊎◌, ◌+◌, ◌-◌, ◌*◌, ◌/◌, ◌^◌, ◌≤◌, ◌<◌}
use Rattle.common.specs.Logic.{refl, sym, ap, ◌∙◌, subst, true, false, inl, inr, ℕ, suc, min, mul-one, mul-div_cancel, mod-eq_of_lt, le_of_lt, arith, T}
use Rattle.std.proofs.Common.{ℤ, pos, negsuc, neg_ℤ, true≢false, pow_pos}
use mathlib.Core.Bool.{false≢true}
use lib.Signed.{mag}
use lib.Ieee.{Float, nan, inf, fin, Format, up, down, eq, is_nan, round, of_int, fits, of_bits, to_unsigned, to_signed}
use lib.Ieee.Fits.{down_pos, nan-fits, inf-fits, round-fits, of_int-fits}
use lib.Ieee.Bits.{of_bits-to_bits, of_bits-fits, nan_bits_is}
use Rattle.numbers.proofs.Size.{lt-or-ge}
use Rattle.numbers.proofs.Nan.{nan-claim}
use Rattle.numbers.proofs.TwosComplement.{signed_low, signed_high, twice_half}
use Rattle.numbers.proofs.Value.{number}
use Rattle.numbers.specs.Casts.{Kind, unsigned, signed, float, kind_bits, signed_of, pattern_of, int_to_int, int_to_float, float_to_signed, rounded, cast_float, cast_of}
use Rattle.kept_casts.specs.Kept.{exactly, value_in}
use Rattle.kept_casts.proofs.Same.{same→cross, same→sign, rounded-held, zero_of}

-- ---- to a float: the number, rounded

pub rounded-fits : (f : Format) (v : Float) → T (fits f (rounded f v))
unfolding rounded
rounded-fits f nan = nan-fits f
rounded-fits f (inf s) = inf-fits f s
rounded-fits f (fin s m e) = round-fits f s (m * up e) (down e)

int-rounded : (f : Format) (z : ℤ) → of_int f z ≡ rounded f (exactly z)
unfolding of_int rounded
int-rounded f (pos n) = ap (λ (x : ℕ). round f false x 1) (sym (mul-one n))
int-rounded f (negsuc n) = ap (λ (x : ℕ). round f true x 1) (sym (mul-one (suc n)))

from_int : (f : Format) (z : ℤ) → of_bits f (int_to_float f z) ≡ rounded f (exactly z)
unfolding int_to_float
from_int f z = of_bits-to_bits f (of_int f z) (of_int-fits f z) ∙ int-rounded f z

pub to-float : (k : Kind) (f : Format) (x : ℕ) → is_nan (value_in k x) ≡ false → of_bits f (cast_of k (float f) x) ≡ rounded f (value_in k x)
to-float (unsigned w) f x h = from_int f (pos x)
to-float (signed w) f x h = from_int f (signed_of w x)
to-float (float g) f x h = ap (of_bits f) (sym (number g f x h)) ∙ of_bits-to_bits f (rounded f (of_bits g x)) (rounded-fits f (of_bits g x))

pub int_number : (z : ℤ) → is_nan (exactly z) ≡ false
unfolding is_nan
int_number (pos n) = refl
int_number (negsuc n) = refl

pub nan-to-float : (k : Kind) (f : Format) (x : ℕ) → is_nan (value_in k x) ≡ true → is_nan (of_bits f (cast_of k (float f) x)) ≡ true
nan-to-float (unsigned w) f x h = absurd (false≢true (sym (int_number (pos x)) ∙ h))
nan-to-float (signed w) f x h = absurd (false≢true (sym (int_number (signed_of w x)) ∙ h))
nan-to-float (float g) f x h = sym (nan_bits_is f (cast_float g f x)) ∙ (nan-claim.kept g f x (nan_bits_is g x ∙ h)).nan

-- ---- to an integer: the integer that is the same number, if it is in range

cut : (m : ℕ) (e : ℤ) (n : ℕ) → m * up e * 1 ≡ n * 1 * down e → m * up e / down e ≡ n
cut m e n h = ap (λ (x : ℕ). x / down e) (sym (mul-one (m * up e)) ∙ h ∙ ap (λ (x : ℕ). x * down e) (mul-one n)) ∙ mul-div_cancel n (down_pos e)

no_size : (m : ℕ) (e : ℤ) (n : ℕ) → m * up e * 1 ≡ 0 → m * up e * 1 ≡ n * 1 * down e → n ≡ 0
no_size m e n z h = sym (mul-one n) ∙ zero_of (n * 1) (down e) (down_pos e) (sym h ∙ z)

pub no-suc : (n : ℕ) → suc n ≡ 0 → ⊥
no-suc n h = omega arith

flat : (a b : ℕ) → a * 1 * 1 ≡ b * 1 * 1 → a ≡ b
flat a b h = omega arith

int-zero : (n : ℕ) → n * 1 * 1 ≡ 0 → n ≡ 0
int-zero n h = omega arith

pub int_same : (y z : ℤ) → T (eq (exactly y) (exactly z)) → y ≡ z
int_same (pos a) (pos b) h = ap pos (flat a b (same→cross false a (pos 0) false b (pos 0) h))
int_same (pos a) (negsuc b) h = go (same→sign false a (pos 0) true (suc b) (pos 0) h)
  where
    go : (false ≡ true) ⊎ (a * 1 * 1 ≡ 0) → pos a ≡ negsuc b
    go (inl e) = absurd (false≢true e)
    go (inr e) = absurd (no-suc b (sym (flat a (suc b) (same→cross false a (pos 0) true (suc b) (pos 0) h)) ∙ int-zero a e))
int_same (negsuc a) (pos b) h = go (same→sign true (suc a) (pos 0) false b (pos 0) h)
  where
    go : (true ≡ false) ⊎ (suc a * 1 * 1 ≡ 0) → negsuc a ≡ pos b
    go (inl e) = absurd (true≢false e)
    go (inr e) = absurd (no-suc a (int-zero (suc a) e))
int_same (negsuc a) (negsuc b) h = ap negsuc (back a b (flat (suc a) (suc b) (same→cross true (suc a) (pos 0) true (suc b) (pos 0) h)))
  where
    back : (a b : ℕ) → suc a ≡ suc b → a ≡ b
    back a b e = omega arith

below-cap : (n t : ℕ) → n < t → min n (t - 1) ≡ n
below-cap n t h = omega arith

up-to-cap : (n t : ℕ) → n ≤ t → min n t ≡ n
up-to-cap n t h = omega arith

unsigned_of : (w : ℕ) (v : Float) (y : ℕ) → y < 2 ^ w → T (eq v (exactly (pos y))) → to_unsigned w v ≡ y
unfolding eq to_unsigned
unsigned_of w nan y L h = absurd h
unsigned_of w (inf s) y L h = absurd h
unsigned_of w (fin false m e) y L h = ap (λ (x : ℕ). min x (2 ^ w - 1)) (cut m e y (same→cross false m e false y (pos 0) h)) ∙ below-cap y (2 ^ w) L
unsigned_of w (fin true m e) y L h = go (same→sign true m e false y (pos 0) h)
  where
    go : (true ≡ false) ⊎ (m * up e * 1 ≡ 0) → 0 ≡ y
    go (inl e) = absurd (true≢false e)
    go (inr z) = sym (no_size m e y z (same→cross true m e false y (pos 0) h))

signed-of : (h : ℕ) (v : Float) (z : ℤ) → mag z < 2 ^ h → T (eq v (exactly z)) → to_signed h v ≡ z
unfolding eq to_signed
signed-of h nan (pos y) L t = absurd t
signed-of h nan (negsuc y) L t = absurd t
signed-of h (inf s) (pos y) L t = absurd t
signed-of h (inf s) (negsuc y) L t = absurd t
signed-of h (fin false m e) (pos y) L t = ap (λ (x : ℕ). pos (min x (2 ^ h - 1))) (cut m e y (same→cross false m e false y (pos 0) t)) ∙ ap pos (below-cap y (2 ^ h) L)
signed-of h (fin true m e) (pos y) L t = go (same→sign true m e false y (pos 0) t)
  where
    go : (true ≡ false) ⊎ (m * up e * 1 ≡ 0) → neg_ℤ (pos (min (m * up e / down e) (2 ^ h))) ≡ pos y
    go (inl e) = absurd (true≢false e)
    go (inr z) =
        let c = same→cross true m e false y (pos 0) t in
        let n = no_size m e y z c in
        ap (λ (x : ℕ). neg_ℤ (pos (min x (2 ^ h)))) (cut m e y c ∙ n) ∙ ap (λ (x : ℕ). neg_ℤ (pos x)) (up-to-cap 0 (2 ^ h) (le_of_lt (pow_pos h))) ∙ ap pos (sym n)
signed-of h (fin false m e) (negsuc k) L t = go (same→sign false m e true (suc k) (pos 0) t)
  where
    go : (false ≡ true) ⊎ (m * up e * 1 ≡ 0) → pos (min (m * up e / down e) (2 ^ h - 1)) ≡ negsuc k
    go (inl e) = absurd (false≢true e)
    go (inr z) = absurd (no-suc k (no_size m e (suc k) z (same→cross false m e true (suc k) (pos 0) t)))
signed-of h (fin true m e) (negsuc k) L t =
    ap (λ (x : ℕ). neg_ℤ (pos (min x (2 ^ h)))) (cut m e (suc k) (same→cross true m e true (suc k) (pos 0) t)) ∙ ap (λ (x : ℕ). neg_ℤ (pos x)) (up-to-cap (suc k) (2 ^ h) L)

-- ---- two's complement: the pattern of a pattern's integer is the pattern

-- the two cases of a pattern's integer
pub signs : (w : ℕ) (P : ℤ → Type 0) (y : ℕ) → 0 < w → y < 2 ^ w → (y < 2 ^ (w - 1) → P (pos y)) → ((n : ℕ) → n < 2 ^ (w - 1) → n + suc y ≡ 2 ^ w → P (negsuc n)) → P (signed_of w y)
signs w P y W L a b = go (lt-or-ge y (2 ^ (w - 1)))
  where
    small : (t u : ℕ) → t ≡ 2 * u → u ≤ y → y < t → t - suc y < u
    small t u e h l = omega arith

    sum : (t : ℕ) → y < t → t - suc y + suc y ≡ t
    sum t l = omega arith

    go : (y < 2 ^ (w - 1)) ⊎ (2 ^ (w - 1) ≤ y) → P (signed_of w y)
    go (inl h) = subst P (sym (signed_low w y h)) (a h)
    go (inr h) = subst P (sym (signed_high w y h)) (b (2 ^ w - suc y) (small (2 ^ w) (2 ^ (w - 1)) (twice_half w W) h L) (sum (2 ^ w) L))

pub signed_range : (w y : ℕ) → 0 < w → y < 2 ^ w → mag (signed_of w y) < 2 ^ (w - 1)
signed_range w y W L = signs w (λ (z : ℤ). mag z < 2 ^ (w - 1)) y W L (λ h. h) (λ n h e. h)

pattern-back : (w y : ℕ) → 0 < w → y < 2 ^ w → pattern_of w (signed_of w y) ≡ y
pattern-back w y W L = signs w (λ (z : ℤ). pattern_of w z ≡ y) y W L (λ h. refl) (λ n h e. go (2 ^ w) n e)
  where
    go : (t n : ℕ) → n + suc y ≡ t → t - suc n ≡ y
    go t n e = omega arith

int-back : (w y : ℕ) → 0 < w → y < 2 ^ w → int_to_int w (signed_of w y) ≡ y
unfolding int_to_int
int-back w y W L = signs w (λ (z : ℤ). int_to_int w z ≡ y) y W L (λ h. mod-eq_of_lt L)
    (λ n h e. ap (λ (x : ℕ). 2 ^ w - suc x) (mod-eq_of_lt (less (2 ^ w) n e)) ∙ go (2 ^ w) n e)
  where
    go : (t n : ℕ) → n + suc y ≡ t → t - suc n ≡ y
    go t n e = omega arith

    less : (t n : ℕ) → n + suc y ≡ t → n < t
    less t n e = omega arith

-- ---- every kind

-- a kind has patterns
abbrev pub Wide : Kind → Type 0
Wide (unsigned w) = 0 < w
Wide (signed w) = 0 < w
Wide (float f) = 0 < 1

to-unsigned : (k : Kind) (w x y : ℕ) → y < 2 ^ w → T (eq (value_in k x) (exactly (pos y))) → cast_of k (unsigned w) x ≡ y
unfolding int_to_int
to-unsigned (unsigned v) w x y L h = ap (int_to_int w) (int_same (pos x) (pos y) h) ∙ mod-eq_of_lt L
to-unsigned (signed v) w x y L h = ap (int_to_int w) (int_same (signed_of v x) (pos y) h) ∙ mod-eq_of_lt L
to-unsigned (float g) w x y L h = unsigned_of w (of_bits g x) y L h

to-signed : (k : Kind) (w x y : ℕ) → 0 < w → y < 2 ^ w → T (eq (value_in k x) (exactly (signed_of w y))) → cast_of k (signed w) x ≡ y
unfolding float_to_signed
to-signed (unsigned v) w x y W L h = ap (int_to_int w) (int_same (pos x) (signed_of w y) h) ∙ int-back w y W L
to-signed (signed v) w x y W L h = ap (int_to_int w) (int_same (signed_of v x) (signed_of w y) h) ∙ int-back w y W L
to-signed (float g) w x y W L h = ap (pattern_of w) (signed-of (w - 1) (of_bits g x) (signed_of w y) (signed_range w y W L) h) ∙ pattern-back w y W L

pub same_number_lem : (u v : Float) → T (eq u v) → is_nan u ≡ false
unfolding eq is_nan
same_number_lem nan v h = absurd h
same_number_lem (inf s) v h = refl
same_number_lem (fin s m e) v h = refl

-- where some pattern of the target is the same number, the cast is
pub cast_same : (k l : Kind) (x y : ℕ) → Wide l → y < 2 ^ kind_bits l → T (eq (value_in k x) (value_in l y)) → T (eq (value_in k x) (value_in l (cast_of k l x)))
cast_same k (unsigned w) x y W L h = subst (λ (r : ℕ). T (eq (value_in k x) (exactly (pos r)))) (sym (to-unsigned k w x y L h)) h
cast_same k (signed w) x y W L h = subst (λ (r : ℕ). T (eq (value_in k x) (exactly (signed_of w r)))) (sym (to-signed k w x y W L h)) h
cast_same k (float f) x y W L h =
    subst (λ (v : Float). T (eq (value_in k x) v)) (sym (to-float k f x (same_number_lem (value_in k x) (of_bits f y) h)))
    (rounded-held f (value_in k x) (of_bits f y) (of_bits-fits f y) h)
