-- A float cut to a whole number: its sign, and its distance from 0 held at 64 bits.
use Rattle.std.specs.Prelude.{◌≡◌, ◌≤◌, ◌<◌, ◌-◌, ◌*◌, ◌^◌, ◌/◌}
use Rattle.common.specs.Logic.{◌∙◌, sym, ap, refl, subst, ap₂, true, Bool, false, cond, ℕ, min, arith}
use Rattle.std.proofs.Common.{pos, neg_ℤ, pow_mono}
use lib.Ieee.{Float, nan, inf, fin, up, down, to_unsigned, to_signed}
use lib.Ieee.Exact.{HasValue}
use lib.Ieee.Fits.{down_pos}
use lib.Ieee.Nearest.{div_same}
use Rattle.numbers.specs.Casts.{float_to_signed, pattern_of}
use Rattle.truncation_casts.specs.Truncation.{Truncated}

pub truncated-value : (v : Float) (s : Bool) (a c n : ℕ) → 0 < c → HasValue v s a c → n ≡ min (a / c) (2 ^ 64 - 1) → Truncated v s n
truncated-value nan s a c n C h N = absurd h
truncated-value (inf t) s a c n C h N = absurd h
truncated-value (fin t m e) s a c n C h N = (h.0, N ∙ ap (λ (x : ℕ). min x (2 ^ 64 - 1)) (sym (div_same (m * up e) (down e) a c (down_pos e) C h.1)))

pub at-infinite : (v : Float) (s : Bool) → v ≡ inf s → Truncated v s (2 ^ 64 - 1)
at-infinite v s e = subst (λ (u : Float). Truncated u s (2 ^ 64 - 1)) (sym e) (refl, refl)

-- a cap of 64 bits before one of fewer changes nothing
cap-cap : (x c : ℕ) → c ≤ 2 ^ 64 - 1 → min (min x (2 ^ 64 - 1)) c ≡ min x c
cap-cap x c h = omega arith

cap-none : (c : ℕ) → min 0 c ≡ 0
cap-none c = omega arith

cap-top : (c : ℕ) → c ≤ 2 ^ 64 - 1 → min (2 ^ 64 - 1) c ≡ c
cap-top c h = omega arith

pub unsigned_is : (w : ℕ) (v : Float) (s : Bool) (n : ℕ) → 2 ^ w - 1 ≤ 2 ^ 64 - 1 → Truncated v s n → cond s 0 (min n (2 ^ w - 1)) ≡ to_unsigned w v
unfolding to_unsigned
unsigned_is w nan true n h t = refl
unsigned_is w nan false n h t = ap (λ (x : ℕ). min x (2 ^ w - 1)) t ∙ cap-none (2 ^ w - 1)
unsigned_is w (inf r) s n h t = ap₂ (λ (b : Bool) (x : ℕ). cond b 0 (min x (2 ^ w - 1))) (sym t.0) t.1 ∙ ap (cond r 0) (cap-top (2 ^ w - 1) h)
unsigned_is w (fin r m e) s n h t = ap₂ (λ (b : Bool) (x : ℕ). cond b 0 (min x (2 ^ w - 1))) (sym t.0) t.1 ∙ ap (cond r 0) (cap-cap (m * up e / down e) (2 ^ w - 1) h)

pub ones-le : (w : ℕ) → w ≤ 64 → 2 ^ w - 1 ≤ 2 ^ 64 - 1
ones-le w h = let t : 2 ^ w ≤ 2 ^ 64 = pow_mono h in omega arith

pub half_le : (w : ℕ) → w ≤ 64 → 2 ^ (w - 1) ≤ 2 ^ 63
half_le w h = pow_mono {i = w - 1} {j = 63} (omega arith)

-- the same with a sign: h is half of the w bits' numbers
module _ (w : ℕ) where
  abbrev pub signed : Bool → ℕ → ℕ
  signed s n = pattern_of w (cond s (neg_ℤ (pos (min n (2 ^ (w - 1))))) (pos (min n (2 ^ (w - 1) - 1))))

  held : (s : Bool) (n m : ℕ) → min n (2 ^ (w - 1)) ≡ min m (2 ^ (w - 1)) → min n (2 ^ (w - 1) - 1) ≡ min m (2 ^ (w - 1) - 1) → signed s n ≡ signed s m
  held true n m p q = ap (λ (x : ℕ). pattern_of w (neg_ℤ (pos x))) p
  held false n m p q = q

  none : (s : Bool) → signed s 0 ≡ 0
  none true = ap (λ (x : ℕ). pattern_of w (neg_ℤ (pos x))) (cap-none (2 ^ (w - 1)))
  none false = cap-none (2 ^ (w - 1) - 1)

  most : (s : Bool) → 2 ^ (w - 1) ≤ 2 ^ 63 → signed s (2 ^ 64 - 1) ≡ pattern_of w (cond s (neg_ℤ (pos (2 ^ (w - 1)))) (pos (2 ^ (w - 1) - 1)))
  most true h = ap (λ (x : ℕ). pattern_of w (neg_ℤ (pos x))) (cap-top (2 ^ (w - 1)) (omega arith))
  most false h = cap-top (2 ^ (w - 1) - 1) (omega arith)

  pub signed_is : (v : Float) (s : Bool) (n : ℕ) → 2 ^ (w - 1) ≤ 2 ^ 63 → Truncated v s n → signed s n ≡ float_to_signed w v
  unfolding float_to_signed to_signed
  signed_is nan s n h t = ap (signed s) t ∙ none s
  signed_is (inf r) s n h t = ap₂ signed (sym t.0) t.1 ∙ most r h
  signed_is (fin r m e) s n h t =
      ap₂ signed (sym t.0) t.1
      ∙ held r (min (m * up e / down e) (2 ^ 64 - 1)) (m * up e / down e) (cap-cap (m * up e / down e) (2 ^ (w - 1)) (omega arith)) (cap-cap (m * up e / down e) (2 ^ (w - 1) - 1) (omega arith))
