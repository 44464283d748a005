-- An integer as a float is no NaN, its pattern fits, and the pattern of a negative one is that of its magnitude with the sign.
use Rattle.std.specs.Prelude.{◌≡◌, ◌≤◌, ◌<◌, ◌+◌, ◌-◌, ◌*◌, ◌^◌}
use Rattle.common.specs.Logic.{◌∙◌, sym, ap, subst, ap₂, true, Bool, false, cond, not, ℕ, suc, zero, min, le_of_eq, lt_of_lt_of_le, lit≤, lt_of_le_of_lt, zero-add, zero-lt-suc, arith, leb-true, leb-false, leb, ltb, T}
use Rattle.std.proofs.Common.{ℤ, pos, negsuc}
use lib.Ieee.Order.{drop, kept}
use lib.Ieee.{Float, inf, Format, binary32, binary64, prec, emax, low, hid, ones, top, odd, units, round, of_int, to_bits, is_nan}
use lib.Ieee.Bits.{to_bits-lt}
use lib.Ieee.Fits.{round_is, of_int-fits}
use Rattle.numbers.specs.Casts.{int_to_float, signed_of}
use Rattle.numbers.proofs.Round.{round-bits, bits_fit}
use Rattle.numbers.proofs.TwosComplement.{signed_low, signed_high}

number-odd : (d : ℕ) (s : Bool) (q k l : ℕ) → T (not (is_nan (odd d s q k l)))
unfolding odd is_nan
number-odd d s zero k l = tt
number-odd d s (suc q) k l = tt

number-units : (f : Format) (s : Bool) (q k : ℕ) → T (not (is_nan (units f s q k)))
unfolding units is_nan
number-units f s q k = go (ltb (q * 2 ^ k) (2 ^ (low f + suc (emax f))))
  where
    go : (b : Bool) → T (not (is_nan (cond b (odd (suc (prec f)) s q k (low f)) (inf s))))
    go true = number-odd (suc (prec f)) s q k (low f)
    go false = tt

pub number-round : (f : Format) (s : Bool) (a b : ℕ) → T (not (is_nan (round f s a b)))
number-round f s a b = subst (λ (v : Float). T (not (is_nan v))) (sym (round_is f s a b)) (number-units f s _ _)

pub any-number : (f : Format) (z : ℤ) → T (not (is_nan (of_int f z)))
unfolding of_int
any-number f (pos n) = number-round f false n 1
any-number f (negsuc n) = number-round f true (suc n) 1

-- the pattern of an integer fits 64 bits
pub any-fits : (f : Format) (z : ℤ) → to_bits f (of_int f z) < 2 ^ 64
any-fits f z = lt_of_lt_of_le (to_bits-lt f (of_int f z) (of_int-fits f z)) (go f)
  where
    go : (f : Format) → 2 * top f ≤ 2 ^ 64
    go binary32 = lit≤ tt
    go binary64 = lit≤ tt

-- the sign
positive-bits : (f : Format) (n : ℕ) → int_to_float f (pos n) ≡ min (drop (prec f) (n * 2 ^ low f) 1 * hid f + kept (prec f) (n * 2 ^ low f) 1) (ones f * hid f)
unfolding int_to_float of_int
positive-bits f n = round-bits f false n 1 (zero-lt-suc 0) ∙ zero-add _

with-sign : (f : Format) (n : ℕ) → top f + int_to_float f (pos (suc n)) ≡ int_to_float f (negsuc n)
unfolding int_to_float of_int
with-sign f n = ap (λ (x : ℕ). top f + x) (positive-bits f (suc n)) ∙ sym (round-bits f true (suc n) 1 (zero-lt-suc 0))

signed-fits : (f : Format) (n r : ℕ) → r ≡ int_to_float f (pos n) → top f + r < 2 ^ 64
signed-fits f n r e = lt_of_le_of_lt (le_of_eq (ap (λ (x : ℕ). top f + x) (e ∙ positive-bits f n))) (bits_fit f true (drop (prec f) (n * 2 ^ low f) 1 * hid f + kept (prec f) (n * 2 ^ low f) 1))

-- by the distance from 0 and the sign
module _ (f : Format) (w x : ℕ) (L : x < 2 ^ w) where
  pub either-sign : (n : Bool) (s m r : ℕ) → n ≡ leb (2 ^ (w - 1)) x → s ≡ cond n (top f) 0 → m ≡ cond n (2 ^ w - x) x → r ≡ int_to_float f (pos m) → s + r ≡ int_to_float f (signed_of w x)
  either-sign true s m r N S M R =
      let one : 2 ^ w - x ≡ suc (2 ^ w - suc x) = omega arith in
      ap₂ ◌+◌ S (R ∙ ap (λ (y : ℕ). int_to_float f (pos y)) (M ∙ one))
      ∙ with-sign f (2 ^ w - suc x)
      ∙ ap (int_to_float f) (sym (signed_high w x (leb-true (2 ^ (w - 1)) x (sym N))))
  either-sign false s m r N S M R =
      ap₂ ◌+◌ S (R ∙ ap (λ (y : ℕ). int_to_float f (pos y)) M)
      ∙ zero-add (int_to_float f (pos x))
      ∙ ap (int_to_float f) (sym (signed_low w x (leb-false (2 ^ (w - 1)) x (sym N))))

pub either-fits : (f : Format) (n : Bool) (s m r : ℕ) → s ≡ cond n (top f) 0 → r ≡ int_to_float f (pos m) → s + r < 2 ^ 64
either-fits f true s m r S R = omega (arith, signed-fits f m r R)
either-fits f false s m r S R = omega (arith, signed-fits f m r R)
