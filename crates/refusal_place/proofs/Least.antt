-- Laws of `least_from`, and of the loop that looks for the entry with which a refusal shows.
use Rattle.std.specs.Prelude.{◌≡◌, ◌≤◌, ◌<◌, ◌+◌, ◌-◌, ◌∷◌, Option, None, Some, SomeIff, Result}
use Rattle.common.specs.Logic.{◌∙◌, sym, ap, refl, subst, true, Bool, false, cond, List, [], ⊎_elim, ℕ, suc, zero, min, arith, le_of_lt, min-eq_left, min-eq_right, eq-or-lt_of_le, ltb, lt-ltb, map, get_or, take}
use lib.Seq.{take_all, take_at}
use Rattle.common.specs.Lists.{first}
use Rattle.common.specs.Refusal.{Answer, answered}
use Rattle.common.specs.declared.Refusal.{Refusal}
use Rattle.common.proofs.Lists.{order, length-first, first-split}
use Rattle.layout.specs.declared.point_layout.PointLayout.{PointLayout}
use Rattle.layout.specs.Records.{attribute_of, missing, listed, layout_of}
use Rattle.refusal_place.specs.Place.{least_from, is_refusal, place_among, first_targets, entry_at, entry_told, Tells}
use Rattle.refusal_place.specs.declared.RefusalPlace.{RefusalPlace}

-- ---- the least number

module _ (p : ℕ → Bool) where
  least-at : (k i j : ℕ) → i ≤ j → j < i + k → p j ≡ true → ((m : ℕ) → i ≤ m → m < j → p m ≡ false) → least_from p i k ≡ j
  unfolding least_from
  least-at zero i j a b t f = absurd (omega arith)
  least-at (suc k) i j a b t f =
      ⊎_elim (λ e. let h : p i ≡ true = ap p e ∙ t in rw h e)
      (λ l. let h : p i ≡ false = f i (omega arith) l in rw h (least-at k (suc i) j l (omega arith) t (λ m c d. f m (omega arith) d)))
      (eq-or-lt_of_le a)

  least-none : (k i : ℕ) → ((m : ℕ) → i ≤ m → m < i + k → p m ≡ false) → least_from p i k ≡ i + k
  unfolding least_from
  least-none zero i f = omega arith
  least-none (suc k) i f =
      let h : p i ≡ false = f i (omega arith) (omega arith) in
      rw h (least-none k (suc i) (λ m a b. f m (omega arith) (omega arith)) ∙ omega arith)

-- ---- the loop

-- the first k answers are not the refusal n
abbrev pub Passed : (ℕ → Result Unit Refusal → Type 0) → ℕ → ℕ → Type 0
Passed post n k = (i : ℕ) → i < k → (r : Result Unit Refusal) × post i r × (is_refusal n (answered r) ≡ false)

module _ (post : ℕ → Result Unit Refusal → Type 0) (n : ℕ) where
  pub passed-more : (k : ℕ) → Passed post n k → (r : Result Unit Refusal) → post k r → is_refusal n (answered r) ≡ false → Passed post n (k + 1)
  passed-more k h r p e i l =
      ⊎_elim (λ q. let z : k ≡ i = sym q in (r, subst (λ (m : ℕ). post m r) z p, e)) (λ q. h i q) (eq-or-lt_of_le (omega arith))

  module _ (told : ℕ → Answer) (h : (j : ℕ) (r : Result Unit Refusal) → j < 33 → post j r → answered r ≡ told j) where
    not-yet : (k : ℕ) → k ≤ 33 → Passed post n k → (m : ℕ) → m < k → is_refusal n (told m) ≡ false
    not-yet k l q m a = let x = q m a in ap (is_refusal n) (sym (h m x.0 (omega arith) x.1)) ∙ x.2

  pub tells-found : (j : ℕ) (r : Result Unit Refusal) → j < 33 → Passed post n j → post j r → is_refusal n (answered r) ≡ true → Tells post n (entry_at j)
  unfolding entry_told
  tells-found j r l q p t told h =
      let e : is_refusal n (told j) ≡ true = ap (is_refusal n) (sym (h j r l p)) ∙ t in
      sym (ap entry_at (least-at (λ (i : ℕ). is_refusal n (told i)) 33 0 j (omega arith) l e (λ m a b. not-yet told h j (omega arith) q m b)))

  pub tells-none : Passed post n 33 → Tells post n None
  unfolding entry_told entry_at
  tells-none q told h = sym (ap entry_at (least-none (λ (i : ℕ). is_refusal n (told i)) 33 0 (λ m a b. not-yet told h 33 (omega arith) q m b)))

-- the entry before so many, as `checked_sub` tells it
pub entry-before : (j : ℕ) (o : Option ℕ) → j < 33 → SomeIff o (1 ≤ j) (j - 1) → o ≡ entry_at j
unfolding entry_at
entry-before zero None l h = refl
entry-before zero (Some x) l h = absurd (omega (arith, h.0))
entry-before (suc i) None l h = absurd (h (omega arith))
entry-before (suc i) (Some x) l h = let e : x ≡ i = omega (arith, h.1) in rw (lt-ltb i 32 (omega arith), e)

-- ---- the place

module _ (other : RefusalPlace) (entry : ℕ → RefusalPlace) where
  pub entry-told : (k : ℕ) {j : ℕ} → Some j ≡ entry_at k → entry j ≡ place_among other entry k
  unfolding place_among entry_at
  entry-told zero h = absurd (let z : ◌≡◌ {A = ℕ} 0 1 = cc in omega arith)
  entry-told (suc i) {j} h = go (ltb i 32) h
    where
      go : (b : Bool) → Some j ≡ cond b (Some i) None → entry j ≡ cond b (entry i) other
      go true e = let q : j ≡ i = cc in ap entry q
      go false e = absurd (let z : ◌≡◌ {A = ℕ} 0 1 = cc in omega arith)

  pub other-told : (k : ℕ) → None ≡ entry_at k → other ≡ place_among other entry k
  unfolding place_among entry_at
  other-told zero h = refl
  other-told (suc i) h = go (ltb i 32) h
    where
      go : (b : Bool) → None ≡ cond b (Some i) None → other ≡ cond b (entry i) other
      go true e = absurd (let z : ◌≡◌ {A = ℕ} 0 1 = cc in omega arith)
      go false e = refl

-- ---- the first target attributes

take-map : {A B : Type 0} (f : A → B) (t : ℕ) (xs : List A) → take t (map f xs) ≡ map f (take t xs)
take-map f zero xs = refl
take-map f (suc t) [] = refl
take-map f (suc t) (x ∷ xs) = ap (λ (ys : List _). f x ∷ ys) (take-map f t xs)

module _ {A : Type 0} (d : A) (xs : List A) where
  take-first : (t k : ℕ) → t ≤ k → take t (first d xs k) ≡ first d xs t
  take-first t k h =
      ⊎_elim (λ e. rw (← e) (take_all t (first d xs t) (omega (arith, length-first d xs t))))
      (λ l. let r = first-split d xs t k l in rw r.1 (take_at (first d xs t) (get_or xs t d ∷ r.0) t (length-first d xs t)))
      (eq-or-lt_of_le h)

  first-min : (t k : ℕ) → first d xs (min t k) ≡ take t (first d xs k)
  first-min t k =
      ⊎_elim (λ h. ap (first d xs) (min-eq_left h) ∙ sym (take-first t k h))
      (λ (h : k < t). ap (first d xs) (min-eq_right (le_of_lt h)) ∙ sym (take_all t (first d xs k) (omega (arith, length-first d xs k)))) (order t k)

pub targets-cut : (m : PointLayout) (t k : ℕ) → k ≡ min t m.count → layout_of (record { attributes = m.attributes; count = k; size = m.size; alignment = m.alignment }) ≡ first_targets t (layout_of m)
unfolding layout_of first_targets listed
targets-cut m t k e = rw (e, take-map attribute_of t (first missing m.attributes m.count), first-min missing m.attributes t m.count)
