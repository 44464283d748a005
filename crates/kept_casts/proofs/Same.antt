-- When two finite values are the same number, and where rounding to a format changes nothing.
use Rattle.std.specs.Prelude.{◌≡◌, ◌&&◌, ◌||◌, ◌⊎◌, ◌+◌, ◌-◌, ◌*◌, ◌%◌, ◌^◌, ◌≤◌, ◌<◌}
use Rattle.common.specs.Logic.{refl, sym, ap, ◌∙◌, subst, Bool, true, false, inl, inr, ℕ, zero, suc, mul-one, one-mul, mul_assoc, mul_comm, zero-mul, zero-lt-suc, mul-lt-mul_of_pos_right, mul-le-mul_right, sub-add_cancel, arith, T, eqb, ltb, leb, eqb→eq, ltb→lt}
use Rattle.std.proofs.Common.{ℤ, pos, negsuc, true≢false, mul-pos, lt_of_not-le, mul_right_comm, not-le_of_lt, leb→le, pow_pos, pow-add}
use mathlib.Core.Bool.{beq}
use native.Mathlib.Nat.{eq_of_mul-eq-mul_right}
use lib.Ieee.{Float, nan, inf, fin, Format, prec, emax, low, up, down, eq, round, fits, is_nan}
use lib.Ieee.Fits.{down_pos, and_i, and_l, and_r, eq→eqb}
use lib.Ieee.Exact.{HasValue, round_exact}
use Rattle.numbers.proofs.Size.{pow_le_back}
use Rattle.numbers.specs.Casts.{rounded}

beq-refl : (s : Bool) → T (beq s s)
beq-refl true = tt
beq-refl false = tt

or_l : (a b : Bool) → T a → T (a || b)
or_l true b t = tt
or_l false b t = absurd t

-- two values of one sign and one fraction a / c are the same number
pub value→same : (u v : Float) (s : Bool) (a c : ℕ) → 0 < c → HasValue u s a c → HasValue v s a c → T (eq u v)
unfolding eq
value→same nan v s a c C h k = absurd h
value→same (inf r) v s a c C h k = absurd h
value→same (fin r m e) nan s a c C h k = absurd k
value→same (fin r m e) (inf t) s a c C h k = absurd k
value→same (fin r m e) (fin t n d) s a c C h k =
    and_i (eqb (m * up e * down d) (n * up d * down e)) (beq r t || eqb (m * up e * down d) 0) (eq→eqb cross)
    (or_l (beq r t) (eqb (m * up e * down d) 0) (subst (λ (b : Bool). T (beq r b)) (h.0 ∙ sym k.0) (beq-refl r)))
  where
    cross : m * up e * down d ≡ n * up d * down e
    cross = eq_of_mul-eq-mul_right c C (m * up e * down d) (n * up d * down e)
        (mul_right_comm (m * up e) (down d) c ∙ ap (λ (x : ℕ). x * down d) h.1 ∙ mul_right_comm a (down e) (down d)
        ∙ ap (λ (x : ℕ). x * down e) (sym k.1) ∙ mul_right_comm (n * up d) c (down e))

-- the same number has the same size; and the same sign, unless it is 0
pub same→cross : (s : Bool) (m : ℕ) (e : ℤ) (t : Bool) (n : ℕ) (d : ℤ) → T (eq (fin s m e) (fin t n d)) → m * up e * down d ≡ n * up d * down e
unfolding eq
same→cross s m e t n d h = eqb→eq (m * up e * down d) (n * up d * down e) (and_l (eqb (m * up e * down d) (n * up d * down e)) (beq s t || eqb (m * up e * down d) 0) h)

pub same→sign : (s : Bool) (m : ℕ) (e : ℤ) (t : Bool) (n : ℕ) (d : ℤ) → T (eq (fin s m e) (fin t n d)) → (s ≡ t) ⊎ (m * up e * down d ≡ 0)
unfolding eq
same→sign s m e t n d h = go s t (and_r (eqb (m * up e * down d) (n * up d * down e)) (beq s t || eqb (m * up e * down d) 0) h)
  where
    go : (s t : Bool) → T (beq s t || eqb (m * up e * down d) 0) → (s ≡ t) ⊎ (m * up e * down d ≡ 0)
    go true true h = inl refl
    go true false h = inr (eqb→eq (m * up e * down d) 0 h)
    go false true h = inr (eqb→eq (m * up e * down d) 0 h)
    go false false h = inl refl

-- ---- what a format holds, it rounds to itself

-- 2 ^ e in units of the format's smallest value
unit : (l : ℕ) (e : ℤ) → down e ≤ 2 ^ l → (j : ℕ) × (up e * 2 ^ l ≡ 2 ^ j * down e)
unit l (pos k) h = (k + l, sym (pow-add 2 k l) ∙ sym (mul-one (2 ^ (k + l))))
unit l (negsuc k) h = (l - suc k, one-mul (2 ^ l) ∙ ap (λ (x : ℕ). 2 ^ x) (sym (sub-add_cancel (pow_le_back (suc k) l h))) ∙ pow-add 2 (l - suc k) (suc k))

-- what `fits` says of a value that is not 0
pub fits-says : (f : Format) (t : Bool) (m : ℕ) (e : ℤ) → T (fits f (fin t (suc m) e)) → (suc m < 2 ^ prec f) × (down e ≤ 2 ^ low f) × (suc m * up e < 2 ^ suc (emax f) * down e)
unfolding fits
fits-says f t m e h =
    let a = eqb (suc m % 2) 1 in
    let b = ltb (suc m) (2 ^ prec f) in
    let c = leb (down e) (2 ^ low f) in
    let d = ltb (suc m * up e) (2 ^ suc (emax f) * down e) in (
      ltb→lt (suc m) (2 ^ prec f) (and_r a b (and_l (a && b) c (and_l (a && b && c) d h))),
      leb→le (down e) (2 ^ low f) (and_r (a && b) c (and_l (a && b && c) d h)),
      ltb→lt (suc m * up e) (2 ^ suc (emax f) * down e) (and_r (a && b && c) d h),
    )

-- a product is 0 where one of the two is
pub zero_of : (n c : ℕ) → 0 < c → n * c ≡ 0 → n ≡ 0
zero_of zero c C h = refl
zero_of (suc n) c C h = absurd (go (suc n * c) (mul-pos (zero-lt-suc n) C) h)
  where
    go : (x : ℕ) → 0 < x → x ≡ 0 → ⊥
    go x p e = omega arith

-- a / c is q * 2 ^ j of the format's smallest values, with a q that the format keeps whole, and below an infinity
unfoldable pub Fit : Format → ℕ → ℕ → Type 0
Fit f a c = (q : ℕ) × (j : ℕ) × (q < 2 ^ prec f) × (q * 2 ^ j < 2 ^ (low f + suc (emax f))) × (a * 2 ^ low f ≡ q * 2 ^ j * c)

-- so is the size of every value of the format
pub fit : (f : Format) (t : Bool) (m : ℕ) (e : ℤ) (a c : ℕ) → T (fits f (fin t m e)) → m * up e * c ≡ a * down e → Fit f a c
unfolding Fit
fit f t zero e a c F h = (
  0,
  0,
  pow_pos (prec f),
  pow_pos (low f + suc (emax f)),
  ap (λ (x : ℕ). x * 2 ^ low f) (zero_of a (down e) (down_pos e) (sym h ∙ ap (λ (x : ℕ). x * c) (zero-mul (up e)) ∙ zero-mul c)) ∙ zero-mul (2 ^ low f) ∙ sym (zero-mul c),
)
fit f t (suc m) e a c F h =
    let says = fits-says f t m e F in
    let u = unit (low f) e says.1 in
    let j = u.0 in
    let l = 2 ^ low f in (
      suc m,
      j,
      says.0,
      bound (suc m * 2 ^ j) (2 ^ (low f + suc (emax f))) (down e) (suc m * up e * l) (2 ^ suc (emax f) * down e * l)
          (mul_assoc (suc m) (2 ^ j) (down e) ∙ ap (λ (x : ℕ). suc m * x) (sym u.1) ∙ sym (mul_assoc (suc m) (up e) l))
          (ap (λ (x : ℕ). x * down e) (pow-add 2 (low f) (suc (emax f)) ∙ mul_comm l (2 ^ suc (emax f))) ∙ mul_right_comm (2 ^ suc (emax f)) l (down e))
          (mul-lt-mul_of_pos_right says.2 (pow_pos (low f))),
      eq_of_mul-eq-mul_right (down e) (down_pos e) (a * l) (suc m * 2 ^ j * c)
          (mul_right_comm a l (down e) ∙ ap (λ (x : ℕ). x * l) (sym h) ∙ mul_right_comm (suc m * up e) c l
          ∙ ap (λ (x : ℕ). x * c) (mul_assoc (suc m) (up e) l ∙ ap (λ (x : ℕ). suc m * x) u.1 ∙ sym (mul_assoc (suc m) (2 ^ j) (down e))) ∙ mul_right_comm (suc m * 2 ^ j) (down e) c),
    )
  where
    bound : (p q d x y : ℕ) → p * d ≡ x → q * d ≡ y → x < y → p < q
    bound p q d x y a b h = lt_of_not-le (λ (g : q ≤ p). not-le_of_lt h (subst (λ (z : ℕ). z ≤ x) b (subst (λ (z : ℕ). q * d ≤ z) a (mul-le-mul_right d g))))

-- and such a fraction is not changed by rounding, whatever its sign
pub fit-exact : (f : Format) (s : Bool) (a c : ℕ) → 0 < c → Fit f a c → HasValue (round f s a c) s a c
unfolding Fit
fit-exact f s a c C (q, j, l, u, e) = round_exact f s a c q j C l u e

-- so where the format holds the number, it is kept
pub own : (s : Bool) (m : ℕ) (e : ℤ) → HasValue (fin s m e) s (m * up e) (down e)
own s m e = (refl, refl)

round-held : (f : Format) (s : Bool) (m : ℕ) (e : ℤ) (y : Float) → T (fits f y) → T (eq (fin s m e) y) → HasValue (round f s (m * up e) (down e)) s (m * up e) (down e)
unfolding eq
round-held f s m e nan F h = absurd h
round-held f s m e (inf t) F h = absurd h
round-held f s m e (fin t n d) F h = fit-exact f s (m * up e) (down e) (down_pos e) (fit f t n d (m * up e) (down e) F (sym (same→cross s m e t n d h)))

pub rounded-held : (f : Format) (v y : Float) → T (fits f y) → T (eq v y) → T (eq v (rounded f v))
unfolding eq rounded
rounded-held f nan y F h = absurd h
rounded-held f (inf s) y F h = beq-refl s
rounded-held f (fin s m e) y F h = value→same (fin s m e) (round f s (m * up e) (down e)) s (m * up e) (down e) (down_pos e) (own s m e) (round-held f s m e y F h)

-- ---- the same number as itself
pub self-same : (v : Float) → is_nan v ≡ false → T (eq v v)
unfolding eq is_nan
self-same nan h = absurd (true≢false h)
self-same (inf s) h = beq-refl s
self-same (fin s m e) h = value→same (fin s m e) (fin s m e) s (m * up e) (down e) (down_pos e) (own s m e) (own s m e)
