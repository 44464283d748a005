-- Laws of `specs.Bits`: a field that was read, and the zero fill.
use Rattle.std.specs.Prelude.{◌≡◌, ◌≤◌, ◌<◌, ◌+◌, ◌-◌, ◌*◌, ◌^◌, ◌%◌, ◌/◌}
use Rattle.common.specs.Logic.{◌∙◌, sym, ap, refl, true, false, List, ℕ, suc, zero, mod-lt, arith, lt-ltb, le-ltb, eq-eqb, ne_eqb, eqb-true, ltb-false, eqb, length, get_or}
use native.Mathlib.Nat.{pow-suc}
use native.Mathlib.Numerals.{add-one}
use Rattle.common.specs.Refusal.{Outcome, got, refused}
use Rattle.common.proofs.Lists.{and_left, and_right}
use Rattle.common.proofs.Refusals.{passes-cons, check-got, check-holds, check-passes}
use Rattle.format.specs.Bits.{Read, read, bit_at, number_at, field, zero_fill}

-- what a function ensures of its result, in the arm where the result is known
pub told : {A B : Type 0} (f : A → B) {a k : A} {o : B} → a ≡ k → f a ≡ o → f k ≡ o
told f e h = ap f (sym e) ∙ h

-- an outcome is not both
pub never : {P X : Type 0} {o : Outcome X} {x : X} {n : ℕ} → got x ≡ o → refused n ≡ o → P
never g r = absurd (let z : ◌≡◌ {A = ℕ} 0 1 = cc in omega arith)

-- a bit is 0 or 1
pub bit-small : (s : List ℕ) (p : ℕ) → bit_at s p < 2
bit-small s p = mod-lt (get_or s (p / 8) 0 / 2 ^ (7 - p % 8)) (omega arith)

-- w bits spell a number below 2 ^ w
pub number_small : (s : List ℕ) (p w : ℕ) → number_at s p w < 2 ^ w
unfolding number_at
number_small s p zero = omega arith
number_small s p (suc w) =
    let h : number_at s p w < 2 ^ w = number_small s p w in
    let e : 2 ^ suc w ≡ 2 ^ w * 2 = pow-suc 2 w in
    omega (arith, bit-small s (p + w))

pub number_more : (s : List ℕ) (p w : ℕ) → number_at s p (w + 1) ≡ number_at s p w * 2 + bit_at s (p + w)
unfolding number_at
number_more s p w = rw add-one refl

-- ---- a field

module _ (w : ℕ) (s : List ℕ) (p : ℕ) where
  pub field-ends : 8 * length s < p + w → refused 2 ≡ field w s p
  unfolding field
  field-ends h = sym (check-holds 2 _ (lt-ltb _ _ h))

  pub field-inside : p + w ≤ 8 * length s → got (read (number_at s p w) (p + w)) ≡ field w s p
  unfolding field
  field-inside h = sym (check-passes 2 _ (le-ltb _ _ h))

  -- a field that was read
  pub record FieldGot (v q : ℕ) : Type 0 where
    pub inside : p + w ≤ 8 * length s
    pub value : v ≡ number_at s p w
    pub small : v < 2 ^ w
    pub next : q ≡ p + w

  pub field-got : {v q : ℕ} → got (read v q) ≡ field w s p → FieldGot v q
  unfolding field
  field-got {v} {q} h =
      let g = check-got _ _ _ (sym h) in
      let e : number_at s p w ≡ v = ap (λ (r : Read ℕ). r.value) g.1 in
      record {
        inside = ltb-false _ _ (passes-cons _ _ _ g.0).0;
        value = sym e;
        small = omega (arith, number_small s p w);
        next = sym (ap (λ (r : Read ℕ). r.next) g.1);
      }

-- ---- the fill

module _ (s : List ℕ) (p : ℕ) where
  pub fill-other : (length s ≡ (p + 7) / 8 → ⊥) → false ≡ zero_fill s p
  unfolding zero_fill
  fill-other h = rw (ne_eqb _ _ h)

  pub fill_is : (w v : ℕ) → length s ≡ (p + 7) / 8 → w ≡ 8 * length s - p → v ≡ number_at s p w → eqb v 0 ≡ zero_fill s p
  unfolding zero_fill
  fill_is w v h e g = rw (eq-eqb _ _ h, ← e, ← g)

  pub fill-true : zero_fill s p ≡ true → (length s ≡ (p + 7) / 8) × (number_at s p (8 * length s - p) ≡ 0)
  unfolding zero_fill
  fill-true h = (eqb-true _ _ (and_left _ _ h), eqb-true _ _ (and_right (eqb (length s) ((p + 7) / 8)) _ h))

  pub fill_holds : length s ≡ (p + 7) / 8 → number_at s p (8 * length s - p) ≡ 0 → zero_fill s p ≡ true
  unfolding zero_fill
  fill_holds l z = rw (eq-eqb _ _ l, eq-eqb _ _ z)
