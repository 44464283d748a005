-- What is kept, by the two kinds: what the target has, and a NaN where it is a float.
use Rattle.std.specs.Prelude.{◌≡◌, ◌&&◌, ◌||◌, ◌⊎◌, ◌<◌, ◌^◌}
use Rattle.common.specs.Logic.{refl, sym, ap, ap₂, ◌∙◌, subst, Bool, true, false, inl, inr, ℕ, T}
use mathlib.Core.Bool.{false≢true, or-true}
use Rattle.std.proofs.Common.{pos}
use lib.Ieee.{Float, eq, is_nan}
use lib.Ieee.Bits.{is_true}
use Rattle.numbers.specs.Casts.{Kind, unsigned, signed, float, kind_bits, signed_of, cast_of}
use Rattle.numbers.proofs.Fitting.{cast_fits_lem}
use Rattle.kept_casts.specs.Kept.{value_in, same_number, is_kept, is_float, Has}
use Rattle.kept_casts.proofs.Same.{self-same}
use Rattle.kept_casts.proofs.Casting.{Wide, cast_same, nan-to-float, int_number}

-- ---- the same number, or both a NaN

pub same-either : (u v : Float) → same_number u v ≡ true → T (eq u v) ⊎ ((is_nan u ≡ true) × (is_nan v ≡ true))
unfolding same_number
same-either u v h = go (eq u v) (is_nan u) (is_nan v) h
  where
    go : (a b c : Bool) → (a || (b && c)) ≡ true → T a ⊎ ((b ≡ true) × (c ≡ true))
    go true b c h = inl tt
    go false true true h = inr (refl, refl)
    go false true false h = absurd (false≢true h)
    go false false c h = absurd (false≢true h)

pub same-of-eq : (u v : Float) → T (eq u v) → same_number u v ≡ true
unfolding same_number
same-of-eq u v h = ap (λ (b : Bool). b || (is_nan u && is_nan v)) (is_true (eq u v) h)

same-of-nan : (u v : Float) → is_nan u ≡ true → is_nan v ≡ true → same_number u v ≡ true
unfolding same_number
same-of-nan u v a b = ap₂ (λ (p q : Bool). eq u v || (p && q)) a b ∙ or-true (eq u v)

pub same_self : (v : Float) → same_number v v ≡ true
same_self v = go (is_nan v) refl
  where
    go : (b : Bool) → is_nan v ≡ b → same_number v v ≡ true
    go true e = same-of-nan v v e e
    go false e = same-of-eq v v (self-same v e)

-- ---- the cast

only-float : (l : Kind) (y : ℕ) → is_nan (value_in l y) ≡ true → is_float l ≡ true
only-float (unsigned w) y h = absurd (false≢true (sym (int_number (pos y)) ∙ h))
only-float (signed w) y h = absurd (false≢true (sym (int_number (signed_of w y)) ∙ h))
only-float (float f) y h = refl

nan-kept : (k l : Kind) (x : ℕ) → is_nan (value_in k x) ≡ true → is_float l ≡ true → is_nan (value_in l (cast_of k l x)) ≡ true
nan-kept k (unsigned w) x h F = absurd (false≢true F)
nan-kept k (signed w) x h F = absurd (false≢true F)
nan-kept k (float f) x h F = nan-to-float k f x h

module _ (k l : Kind) (x : ℕ) where
  pub kept-means : is_kept k l x ≡ true → ((is_nan (value_in k x) ≡ true) × (is_float l ≡ true)) ⊎ Has l (value_in k x)
  unfolding is_kept
  kept-means h = go (same-either (value_in k x) (value_in l (cast_of k l x)) h)
    where
      go : T (eq (value_in k x) (value_in l (cast_of k l x))) ⊎ ((is_nan (value_in k x) ≡ true) × (is_nan (value_in l (cast_of k l x)) ≡ true))
          → ((is_nan (value_in k x) ≡ true) × (is_float l ≡ true)) ⊎ Has l (value_in k x)
      go (inl e) = inr (cast_of k l x, cast_fits_lem k l x, is_true (eq (value_in k x) (value_in l (cast_of k l x))) e)
      go (inr n) = inl (n.0, only-float l (cast_of k l x) n.1)

  pub kept-has : Wide l → Has l (value_in k x) → is_kept k l x ≡ true
  unfolding is_kept
  kept-has W (y, b, e) = same-of-eq (value_in k x) (value_in l (cast_of k l x)) (cast_same k l x y W b (subst T (sym e) tt))

  pub kept_nan : is_nan (value_in k x) ≡ true → is_float l ≡ true → is_kept k l x ≡ true
  unfolding is_kept
  kept_nan n F = same-of-nan (value_in k x) (value_in l (cast_of k l x)) n (nan-kept k l x n F)

-- a kind to itself
pub kept-own : (k : Kind) (x : ℕ) → Wide k → x < 2 ^ kind_bits k → is_kept k k x ≡ true
kept-own k x W L = go (is_nan (value_in k x)) refl
  where
    go : (b : Bool) → is_nan (value_in k x) ≡ b → is_kept k k x ≡ true
    go true e = kept_nan k k x e (only-float k x e)
    go false e = kept-has k k x W (x, L, is_true (eq (value_in k x) (value_in k x)) (self-same (value_in k x) e))
