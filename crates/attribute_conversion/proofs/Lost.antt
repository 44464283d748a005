-- How many components are lost: of one number, of several, and by codes.
use Rattle.std.specs.Prelude.{◌≡◌, ◌≤◌, ◌<◌, ◌+◌, ◌-◌, ◌*◌, ◌^◌, ◌%◌, Some, None, Option}
use Rattle.common.specs.Logic.{◌∙◌, sym, ap, ap₂, true, Bool, false, cond, List, ⊎_elim, ℕ, arith, eq-eqb, ne_eqb, ltb, take, drop}
use native.Mathlib.Nat.{add-sub_cancel_left}
use Rattle.common.specs.Lists.{sum_below}
use Rattle.common.proofs.Lists.{decide}
use Rattle.common.proofs.Sums.{sum_more, sum-le}
use Rattle.datatype.specs.Datatype.{same_datatype, size_of}
use Rattle.datatype.specs.declared.datatype.Datatype.{Datatype}
use Rattle.pairs.proofs.PairRule.{same_codes}
use Rattle.scalar_casts.specs.Scalars.{width_of, bits_of, keeps_number}
use Rattle.scalar_casts.specs.declared.scalar.Scalar.{Scalar}
use Rattle.attribute_conversion.specs.Attributes.{component, components_of, component_of, cast_fits}
use Rattle.attribute_conversion.specs.Bytes.{le_value}
use Rattle.attribute_conversion.specs.Lost.{lost_number, lost_component, lost_in, lost_codes, cast_answer}
use Rattle.attribute_conversion.proofs.Components.{loaded-is}
use Rattle.attribute_conversion.proofs.Sizes.{differ, fits-entry, fits-target}

-- ---- one number

-- what the code loads and tests
module _ (f t : Scalar) (s : List ℕ) (v x : ℕ) {r : Bool} (A : v ≡ width_of f) (L : x < 256 ^ v) (X : x ≡ le_value s) (R : r ≡ keeps_number f t (x % 2 ^ bits_of f)) where
  number-lost : cond r 0 1 ≡ lost_number f t s
  unfolding lost_number
  number-lost = ap (λ (b : Bool). cond b 0 1) (R ∙ ap (keeps_number f t) (loaded-is f s v x A L X))

  pub number-kept : r ≡ true → 0 ≡ lost_number f t s
  number-kept e = rw e at number-lost

  pub number-other : r ≡ false → 1 ≡ lost_number f t s
  number-other e = rw e at number-lost

number-one : (f t : Scalar) (s : List ℕ) → lost_number f t s ≤ 1
unfolding lost_number
number-one f t s = go (keeps_number f t (le_value s))
  where
    go : (b : Bool) → cond b 0 1 ≤ 1
    go true = omega arith
    go false = omega arith

-- ---- k of them

component-one : (f t : Scalar) (s : List ℕ) (i : ℕ) → lost_component f t s i ≤ 1
unfolding lost_component
component-one f t s i = number-one f t (component (width_of f) i s)

pub lost-few : (f t : Scalar) (s : List ℕ) (k : ℕ) → sum_below (lost_component f t s) k ≤ k
lost-few f t s k = omega (arith, sum-le (lost_component f t s) 1 k (component-one f t s))

-- a turn of the loop: v is the width, and l is lost of the i numbers before
pub lost-turn : (f t : Scalar) (s : List ℕ) (i : ℕ) {v l r : ℕ} → v ≡ width_of f → l ≡ sum_below (lost_component f t s) i → r ≡ lost_number f t (take (i * v + v - i * v) (drop (i * v) s))
    → l + r ≡ sum_below (lost_component f t s) (i + 1)
unfolding lost_component
lost-turn f t s i {v} A L R =
    ap₂ ◌+◌ L (R ∙ ap₂ (λ (a b : ℕ). lost_number f t (take a (drop b s))) (add-sub_cancel_left (i * v) v ∙ A) (ap (λ (n : ℕ). i * n) A))
    ∙ sym (sum_more (lost_component f t s) i)

-- ---- by codes

module _ (from to : ℕ) (s : List ℕ) where
  pub none-lost : from ≡ to → 0 ≡ lost_codes from to s
  unfolding lost_codes
  none-lost e = rw (eq-eqb from to e)

  pub codes-lost : {k : ℕ} {a b : Scalar} → (from ≡ to → ⊥) → k ≡ components_of from → a ≡ component_of from → b ≡ component_of to → sum_below (lost_component a b s) k ≡ lost_codes from to s
  unfolding lost_codes
  codes-lost n K A B = rw (ne_eqb from to n, K, A, B)

module _ (f t : Datatype) (a b : ℕ) (C : cast_fits f t a b ≡ true) (s : List ℕ) where
  pub fits-lost : lost_codes f.code t.code s ≡ lost_in f t s
  unfolding lost_codes lost_in
  fits-lost =
      ⊎_elim (λ (e : same_datatype f t ≡ true). rw (e, eq-eqb f.code t.code (same_codes f t e)))
      (λ (e : same_datatype f t ≡ false). rw (e, ne_eqb f.code t.code (differ f t (fits-entry f t a b C) e)))
      (decide (same_datatype f t))

  -- where the target fits, it has the datatype's size
  pub lost-fits : {l : ℕ} → l ≡ cond (cast_fits f t a (size_of t)) (lost_in f t s) 0 → l ≡ lost_in f t s
  lost-fits L = L ∙ ap (λ (c : Bool). cond c (lost_in f t s) 0) (ap (cast_fits f t a) (sym (fits-target f t a b C)) ∙ C)

-- at most as many as a Vec3 has
pub at-most-three : (c : ℕ) → components_of c ≤ 3
at-most-three c = go (ltb c 10)
  where
    go : (b : Bool) → cond b 1 3 ≤ 3
    go true = omega arith
    go false = omega arith

pub lost-in-few : (f t : Datatype) (s : List ℕ) → lost_in f t s ≤ 3
unfolding lost_in
lost-in-few f t s = go (same_datatype f t)
  where
    go : (b : Bool) → cond b 0 (sum_below (lost_component (component_of f.code) (component_of t.code) s) (components_of f.code)) ≤ 3
    go true = omega arith
    go false = omega (arith, lost-few (component_of f.code) (component_of t.code) s (components_of f.code), at-most-three f.code)

-- ---- the answer

pub answer-some : (fits : Bool) (lost : ℕ) {l : ℕ} → fits ≡ true → l ≡ lost → Some l ≡ cast_answer fits lost
unfolding cast_answer
answer-some fits lost F L = rw (F, L)

pub answer-none : (fits : Bool) (lost : ℕ) → fits ≡ false → None ≡ cast_answer fits lost
unfolding cast_answer
answer-none fits lost F = rw F

-- and what it tells
fits-answer : (fits : Bool) (lost : ℕ) → fits ≡ true → cast_answer fits lost ≡ Some lost
unfolding cast_answer
fits-answer fits lost F = rw F

pub some-told : (fits : Bool) (lost : ℕ) {k : ℕ} {a : Option ℕ} → a ≡ cast_answer fits lost → a ≡ Some k → fits ≡ true → k ≡ lost
some-told fits lost {k} A D F = let e : Some k ≡ Some lost = sym D ∙ A ∙ fits-answer fits lost F in cc

pub never-none : (fits : Bool) (lost : ℕ) {a : Option ℕ} → a ≡ cast_answer fits lost → a ≡ None → fits ≡ true → ⊥
never-none fits lost A D F = let e : None ≡ Some lost = sym D ∙ A ∙ fits-answer fits lost F in cc
