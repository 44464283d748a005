-- The quotient of two integers that F64 holds is their fraction rounded once, and its negation is the negative fraction rounded once.
use Rattle.std.specs.Prelude.{◌≡◌, ◌≤◌, ◌<◌, ◌+◌, ◌*◌, ◌^◌}
use Rattle.common.specs.Logic.{◌∙◌, sym, refl, subst, true, Bool, false, cond, ℕ, suc, zero, lt_of_lt_of_le, lt_of_le_of_lt, le_of_lt, mul_assoc, mul_comm, mul-one, arith, ne_eqb, ltb, T, lit≤, lit<}
use native.Mathlib.Nat.{mul_left_comm, mul-pos, pow-le-pow_right, one-le-pow}
use lib.Dec.{le→leb}
use lib.IntN.{pos}
use lib.Ieee.{Float, nan, inf, fin, Format, binary64, prec, emax, low, up, down, odd, units, round, neg, div, of_int, in_float}
use lib.Ieee.Back.{round_whole}
use lib.Ieee.Exact.{HasValue}
use lib.Ieee.Fits.{down_pos}
use lib.Ieee.Positive.{first_pos}
use lib.Ieee.Scale.{round_same}
use Rattle.decimals.specs.Decimals.{value_of}

-- ---- the operands

pub holds : (m : ℕ) → m < 2 ^ 53 → T (in_float binary64 (pos m))
unfolding in_float
holds m h = le→leb m (2 ^ 53) (le_of_lt h)

pub exact : (m : ℕ) → m < 2 ^ 53 → HasValue (of_int binary64 (pos m)) false m 1
unfolding of_int
exact m h = round_whole binary64 false m (le_of_lt h)

-- ---- the quotient

cross : (a b x y u v : ℕ) → x * 1 ≡ a * u → y * 1 ≡ b * v → x * v * b ≡ a * (y * u)
cross a b x y u v p q =
    let P : x ≡ a * u = sym (mul-one x) ∙ p in
    let Q : y ≡ b * v = sym (mul-one y) ∙ q in
    rw (P, Q) (simp (mul_assoc, mul_comm, mul_left_comm))

above : (x b v : ℕ) → 0 < b → 0 < v → x * 1 ≡ b * v → 0 < x
above x b v B D e = subst (λ (z : ℕ). 0 < z) (sym e ∙ mul-one x) (mul-pos B D)

pub quotient_is : (x y : Float) (a b : ℕ) → 0 < b → HasValue x false a 1 → HasValue y false b 1 → div binary64 x y ≡ round binary64 false a b
unfolding div
quotient_is nan y a b B p q = absurd p
quotient_is (inf s) y a b B p q = absurd p
quotient_is (fin s m e) nan a b B p q = absurd q
quotient_is (fin s m e) (inf t) a b B p q = absurd q
quotient_is (fin s m e) (fin t n d) a b B p q =
    let N : 0 < n * up d = above (n * up d) b (down d) B (down_pos d) q.1 in
    let M : 0 < n = first_pos n (up d) N in
    rw (p.0, q.0, ne_eqb n 0 (λ z. omega arith))
    (round_same binary64 false (m * up e * down d) (n * up d * down e) a b (mul-pos N (down_pos e)) B
    (cross a b (m * up e) (n * up d) (down e) (down d) p.1 q.1))

-- ---- the sign

neg-odd : (d q k l : ℕ) → neg (odd d false q k l) ≡ odd d true q k l
unfolding neg odd
neg-odd d zero k l = refl
neg-odd d (suc q) k l = refl

neg-units : (f : Format) (q k : ℕ) → neg (units f false q k) ≡ units f true q k
unfolding units neg
neg-units f q k = go (ltb (q * 2 ^ k) (2 ^ (low f + suc (emax f))))
  where
    go : (b : Bool) → neg (cond b (odd (suc (prec f)) false q k (low f)) (inf false)) ≡ cond b (odd (suc (prec f)) true q k (low f)) (inf true)
    go true = neg-odd (suc (prec f)) q k (low f)
    go false = refl

pub neg-round : (f : Format) (a b : ℕ) → neg (round f false a b) ≡ round f true a b
unfolding round
neg-round f a b = neg-units f _ _

-- ---- the value of a decimal

pub number-holds : (m : ℕ) → m < 10 ^ 15 → m < 2 ^ 53
number-holds m h = lt_of_lt_of_le h (lit≤ tt)

pub power-above : (k p : ℕ) → p ≡ 10 ^ k → 0 < p
power-above k p e = rw e (one-le-pow k 10 (lit< tt))

pub power-holds : (k p : ℕ) → p ≡ 10 ^ k → k ≤ 15 → p < 2 ^ 53
power-holds k p e l = lt_of_le_of_lt {m = 10 ^ 15} (rw e (pow-le-pow_right {n = 10} (lit< tt) {i = k} {j = 15} l)) (lit< tt)

module _ (s : Bool) (m k p : ℕ) (v : Float) (P : p ≡ 10 ^ k) (Q : v ≡ round binary64 false m p) where
  pub value-minus : s ≡ true → neg v ≡ value_of s m k
  unfolding value_of
  value-minus h = rw (h, Q, P) (neg-round binary64 m (10 ^ k))

  pub value-plus : s ≡ false → v ≡ value_of s m k
  unfolding value_of
  value-plus h = rw (h, Q, P)
