-- Laws of `specs.Lists`: how each notion goes on when an element joins the end, which is a loop's turn; and what it says of each place.
use Rattle.std.specs.Prelude.{◌≡◌, ◌&&◌, ◌||◌, ◌∷◌, ◌++◌, ◌⊎◌, ◌≤◌, ◌<◌, ◌+◌, ◌-◌}
use Rattle.common.specs.Logic.{◌∙◌, sym, ap, refl, subst, true, Bool, false, and-true, List, [], map, append_assoc, append-nil, flat_map, ⊎_elim, inl, inr, None, Some, ℕ, suc, zero, min, max, suc-le-suc, zero-add, not-suc-le-zero, le_of_suc-le-suc, add-zero, add-suc, suc-add, eq-or-lt_of_le, arith, eq-eqb, le-leb, eqb-true, leb-true, lt-leb, leb-false, eqb-false, eqb, leb, length, get_or, take, set, length-append, get_or-append, get_or-eq_default}
use mathlib.Core.Bool.{and_assoc}
use native.Mathlib.Numerals.{add-one}
use lib.Seq.{get_or-set_same, get_or-set_other, take-suc, get_or_at, get_or-append-add}
use Rattle.std.specs.Prelude.{nat_eq}
use Rattle.std.specs.List.{list_all}
use Rattle.std.specs.Cmp.Lexicographic.{pointwise}
use Rattle.common.specs.Lists.{all, pairwise, against, at_most, greatest, place_from, first, tabulate, every, same_bytes}

-- ---- booleans

pub and_left : (a b : Bool) → (a && b) ≡ true → a ≡ true
and_left true b h = refl
and_left false b h = h

pub and_right : (a b : Bool) → (a && b) ≡ true → b ≡ true
and_right true b h = h
and_right false b h = absurd (let z : ◌≡◌ {A = ℕ} 0 1 = cc in omega arith)

pub neither : (a b : Bool) → (a || b) ≡ false → (a ≡ false) × (b ≡ false)
neither true b h = absurd (let z : ◌≡◌ {A = ℕ} 0 1 = cc in omega arith)
neither false b h = (refl, h)

pub clash : {P : Type 0} {b : Bool} → b ≡ true → b ≡ false → P
clash p q = absurd (let z : ◌≡◌ {A = ℕ} 0 1 = cc in omega arith)

-- which of the two a test is
pub decide : (b : Bool) → (b ≡ true) ⊎ (b ≡ false)
decide true = inl refl
decide false = inr refl

and-swap : (a b c d : Bool) → ((a && b) && (c && d)) ≡ ((a && c) && (b && d))
and-swap true true c d = refl
and-swap true false true d = refl
and-swap true false false d = refl
and-swap false b c d = refl

-- of two numbers the first is at most the second, or above it
pub order : (i j : ℕ) → (i ≤ j) ⊎ (j < i)
order i j = ⊎_elim (λ e. inl (leb-true i j e)) (λ e. inr (leb-false i j e)) (decide (leb i j))

-- equal, where they cannot differ
pub equal : (i j : ℕ) → ((i ≡ j → ⊥) → ⊥) → i ≡ j
equal i j h = ⊎_elim (λ e. eqb-true i j e) (λ e. absurd (h (eqb-false i j e))) (decide (eqb i j))

leb-max : (a b n : ℕ) → (leb a n && leb b n) ≡ leb (max a b) n
leb-max a b n =
    ⊎_elim
    (λ p. ⊎_elim (λ q. rw (le-leb a n p, le-leb b n q, le-leb (max a b) n (omega arith))) (λ q. rw (le-leb a n p, lt-leb b n q, lt-leb (max a b) n (omega arith))) (order b n))
    (λ p. rw (lt-leb a n p, lt-leb (max a b) n (omega arith)))
    (order a n)

pub every-cons : (b : Bool) (bs : List Bool) → every (b ∷ bs) ≡ true → (b ≡ true) × (every bs ≡ true)
unfolding every
every-cons b bs h = (and_left b (every bs) h, and_right b (every bs) h)

module _ {A : Type 0} where
  -- ---- all

  pub all_append : (p : A → Bool) (xs ys : List A) → all p (xs ++ ys) ≡ (all p xs && all p ys)
  unfolding all
  all_append p [] ys = refl
  all_append p (x ∷ xs) ys = rw (all_append p xs ys) (sym (and_assoc (p x) (all p xs) (all p ys)))

  pub all_snoc : (p : A → Bool) (xs : List A) (a : A) → all p (xs ++ (a ∷ [])) ≡ (all p xs && p a)
  unfolding all
  all_snoc p xs a = all_append p xs (a ∷ []) ∙ rw (and-true (p a))

  -- a loop's start
  pub all_none : (p : A → Bool) {xs : List A} → xs ≡ [] → true ≡ all p xs
  unfolding all
  all_none p e = rw e

  pub flat_map-snoc : {B : Type 0} (f : A → List B) (xs : List A) (a : A) → flat_map f (xs ++ (a ∷ [])) ≡ flat_map f xs ++ f a
  unfolding flat_map
  flat_map-snoc f [] a = append-nil (f a)
  flat_map-snoc f (x ∷ xs) a = rw (flat_map-snoc f xs a) (sym (append_assoc (f x) (flat_map f xs) (f a)))

  -- a loop's turn
  pub all-turn : (p : A → Bool) (xs : List A) (a : A) {before test after : Bool} → before ≡ all p xs → test ≡ p a → after ≡ (before && test) → after ≡ all p (xs ++ (a ∷ []))
  all-turn p xs a b t h = h ∙ rw (b, t) (sym (all_snoc p xs a))

  pub all-at : (p : A → Bool) (xs : List A) (i : ℕ) (d : A) → all p xs ≡ true → i < length xs → p (get_or xs i d) ≡ true
  unfolding all
  all-at p [] i d h l = absurd (not-suc-le-zero l)
  all-at p (x ∷ xs) zero d h l = and_left (p x) (all p xs) h
  all-at p (x ∷ xs) (suc i) d h l = all-at p xs i d (and_right (p x) (all p xs) h) (le_of_suc-le-suc l)

  pub all-agree : (p q : A → Bool) (xs : List A) → ((x : A) → p x ≡ q x) → all p xs ≡ all q xs
  unfolding all
  all-agree p q [] f = refl
  all-agree p q (x ∷ xs) f = rw (f x, all-agree p q xs f)

  -- a test that not all pass, one fails
  abbrev pub Fails : (A → Bool) → List A → A → Type 0
  Fails p xs d = (i : ℕ) × (i < length xs) × (p (get_or xs i d) ≡ false)

  pub all-fails : (p : A → Bool) (xs : List A) (d : A) → all p xs ≡ false → Fails p xs d
  unfolding all
  all-fails p [] d h = clash refl h
  all-fails p (x ∷ xs) d h =
      ⊎_elim (λ e. let r = all-fails p xs d (rw e at h) in (suc r.0, suc-le-suc r.1, r.2)) (λ e. (0, omega arith, e)) (decide (p x))

  -- ---- pairwise

  pub pairwise-snoc : (r : A → A → Bool) (xs : List A) (a : A) → pairwise r (xs ++ (a ∷ [])) ≡ (pairwise r xs && all (against r a) xs)
  unfolding pairwise all against
  pairwise-snoc r [] a = refl
  pairwise-snoc r (x ∷ xs) a =
      rw (all_snoc (r x) xs a, pairwise-snoc r xs a) (and-swap (all (r x) xs) (r x a) (pairwise r xs) (all (against r a) xs))

  -- a list that has the relation, and one more element that the others have it to
  pub pairwise-join : (r : A → A → Bool) (xs : List A) (a : A) {b : Bool} → pairwise r xs ≡ true → b ≡ all (against r a) xs → b ≡ pairwise r (xs ++ (a ∷ []))
  pairwise-join r xs a h e = e ∙ sym (pairwise-snoc r xs a ∙ rw h)

  pub pairwise-at : (r : A → A → Bool) (xs : List A) (i j : ℕ) (d : A) → pairwise r xs ≡ true → i < j → j < length xs → r (get_or xs i d) (get_or xs j d) ≡ true
  unfolding pairwise
  pairwise-at r [] i j d h k l = absurd (not-suc-le-zero l)
  pairwise-at r (x ∷ xs) i zero d h k l = absurd (not-suc-le-zero k)
  pairwise-at r (x ∷ xs) zero (suc j) d h k l = all-at (r x) xs j d (and_left (all (r x) xs) (pairwise r xs) h) (le_of_suc-le-suc l)
  pairwise-at r (x ∷ xs) (suc i) (suc j) d h k l =
      pairwise-at r xs i j d (and_right (all (r x) xs) (pairwise r xs) h) (le_of_suc-le-suc k) (le_of_suc-le-suc l)

  abbrev pub FailsTwo : (A → A → Bool) → List A → A → Type 0
  FailsTwo r xs d = (i : ℕ) × (j : ℕ) × (i < j) × (j < length xs) × (r (get_or xs i d) (get_or xs j d) ≡ false)

  pub pairwise-fails : (r : A → A → Bool) (xs : List A) (d : A) → pairwise r xs ≡ false → FailsTwo r xs d
  unfolding pairwise
  pairwise-fails r [] d h = clash refl h
  pairwise-fails r (x ∷ xs) d h =
      ⊎_elim
      (λ e. let f = pairwise-fails r xs d (rw e at h) in (suc f.0, suc f.1, suc-le-suc f.2, suc-le-suc f.3, f.4))
      (λ e. let f = all-fails (r x) xs d e in (0, suc f.0, omega arith, suc-le-suc f.1, f.2))
      (decide (all (r x) xs))

  -- ---- greatest

  pub greatest-snoc : (f : A → ℕ) (xs : List A) (a : A) → greatest f (xs ++ (a ∷ [])) ≡ max (greatest f xs) (f a)
  unfolding greatest
  greatest-snoc f [] a = omega arith
  greatest-snoc f (x ∷ xs) a = rw (greatest-snoc f xs a) (omega arith)

  -- all are at most n where the greatest is
  pub all-at_most : (f : A → ℕ) (n : ℕ) (xs : List A) → all (at_most f n) xs ≡ leb (greatest f xs) n
  unfolding greatest all at_most
  all-at_most f n [] = sym (le-leb 0 n (omega arith))
  all-at_most f n (x ∷ xs) = rw (all-at_most f n xs) (leb-max (f x) (greatest f xs) n)

  -- ---- place_from

  -- where no place was found, the test fails at the first element, and there is none in the rest
  place-cons : (n : ℕ) (p : A → Bool) (x : A) (xs : List A) → place_from n p (x ∷ xs) ≡ None → (p x ≡ false) × (place_from (suc n) p xs ≡ None)
  unfolding place_from
  place-cons n p x xs h =
      ⊎_elim (λ e. absurd (let c : Some n ≡ None = rw e at h in let z : ◌≡◌ {A = ℕ} 0 1 = cc in omega arith)) (λ e. (e, rw e at h)) (decide (p x))

  pub place-misses : (n : ℕ) (p : A → Bool) (xs : List A) (k : ℕ) (d : A) → place_from n p xs ≡ None → k < length xs → p (get_or xs k d) ≡ false
  place-misses n p [] k d h l = absurd (not-suc-le-zero l)
  place-misses n p (x ∷ xs) zero d h l = (place-cons n p x xs h).0
  place-misses n p (x ∷ xs) (suc k) d h l = place-misses (suc n) p xs k d (place-cons n p x xs h).1 (le_of_suc-le-suc l)

  -- past elements that fail the test
  pub place-append : (n : ℕ) (p : A → Bool) (xs ys : List A) → place_from n p xs ≡ None → place_from n p (xs ++ ys) ≡ place_from (n + length xs) p ys
  unfolding place_from
  place-append n p [] ys h = rw add-zero
  place-append n p (x ∷ xs) ys h =
      let r = place-cons n p x xs h in rw r.0 (place-append (suc n) p xs ys r.1 ∙ rw (add-suc, suc-add))

  -- a loop's start, its turn where the test fails, and its stop where it passes
  pub place_none : (p : A → Bool) {xs : List A} → xs ≡ [] → place_from 0 p xs ≡ None
  unfolding place_from
  place_none p e = rw e

  pub place-miss : (p : A → Bool) (xs : List A) (a : A) → place_from 0 p xs ≡ None → p a ≡ false → place_from 0 p (xs ++ (a ∷ [])) ≡ None
  unfolding place_from
  place-miss p xs a h e = place-append 0 p xs (a ∷ []) h ∙ rw e

  pub place-hit : (p : A → Bool) (xs : List A) (a : A) (rest : List A) → place_from 0 p xs ≡ None → p a ≡ true → place_from 0 p (xs ++ (a ∷ rest)) ≡ Some (length xs)
  unfolding place_from
  place-hit p xs a rest h e = place-append 0 p xs (a ∷ rest) h ∙ rw (e, zero-add)

  place-from : (n : ℕ) (p : A → Bool) (xs : List A) (i : ℕ) (d : A) → place_from n p xs ≡ Some i → (k : ℕ) × (i ≡ n + k) × (k < length xs) × (p (get_or xs k d) ≡ true)
  unfolding place_from
  place-from n p [] i d h = absurd (let z : ◌≡◌ {A = ℕ} 0 1 = cc in omega arith)
  place-from n p (x ∷ xs) i d h =
      ⊎_elim (λ e. let f : Some n ≡ Some i = rw e at h in let q : n ≡ i = cc in (0, omega arith, omega arith, e))
      (λ e. let r = place-from (suc n) p xs i d (rw e at h) in (suc r.0, r.1 ∙ omega arith, suc-le-suc r.2, r.3)) (decide (p x))

  -- a place that was found is one of the list's, and the test passes there
  pub place_found : (p : A → Bool) (xs : List A) (i : ℕ) (d : A) → place_from 0 p xs ≡ Some i → (i < length xs) × (p (get_or xs i d) ≡ true)
  place_found p xs i d h =
      let r = place-from 0 p xs i d h in
      let e : r.0 ≡ i = omega (arith, r.1) in
      subst (λ (k : ℕ). (k < length xs) × (p (get_or xs k d) ≡ true)) e (r.2, r.3)

  -- ---- the first elements of an array

  pub length-first : (d : A) (xs : List A) (k : ℕ) → length (first d xs k) ≡ k
  unfolding first
  length-first d xs zero = refl
  length-first d xs (suc k) = length-append (first d xs k) (get_or xs k d ∷ []) ∙ rw (length-first d xs k) (omega arith)

  pub first-none : (d : A) (xs : List A) → first d xs 0 ≡ []
  unfolding first
  first-none d xs = refl

  pub first_more : (d : A) (xs : List A) (k : ℕ) → first d xs (k + 1) ≡ first d xs k ++ (get_or xs k d ∷ [])
  unfolding first
  first_more d xs k = rw add-one

  -- within the array they are what `take` gives
  pub first-take : (d : A) (xs : List A) (k : ℕ) → k ≤ length xs → first d xs k ≡ take k xs
  unfolding first
  first-take d xs zero h = refl
  first-take d xs (suc k) h = rw (first-take d xs k (omega arith)) (sym (take-suc xs k d (omega arith)))

  pub first-set-before : (d : A) (xs : List A) (k : ℕ) (a : A) (j : ℕ) → j ≤ k → first d (set xs k a) j ≡ first d xs j
  unfolding first
  first-set-before d xs k a zero h = refl
  first-set-before d xs k a (suc j) h =
      rw (first-set-before d xs k a j (omega arith), get_or-set_other xs k j a d (λ e. omega arith))

  -- an element stored past the first k joins their end
  pub first-set : (d : A) (xs : List A) (k : ℕ) (a : A) → k < length xs → first d (set xs k a) (k + 1) ≡ first d xs k ++ (a ∷ [])
  first-set d xs k a h = first_more d (set xs k a) k ∙ rw (first-set-before d xs k a k (omega arith), get_or-set_same xs k a d h)

  -- the first k, from the i-th on
  pub first-split : (d : A) (xs : List A) (i k : ℕ) → i < k → (rest : List A) × (first d xs k ≡ first d xs i ++ (get_or xs i d ∷ rest))
  unfolding first
  first-split d xs i zero h = absurd (not-suc-le-zero h)
  first-split d xs i (suc k) h =
      ⊎_elim (λ e. ([], subst (λ (j : ℕ). first d xs k ++ (get_or xs k d ∷ []) ≡ first d xs j ++ (get_or xs j d ∷ [])) (sym e) refl))
      (λ l. let r = first-split d xs i k l in (r.0 ++ (get_or xs k d ∷ []), rw r.1 (append_assoc (first d xs i) (get_or xs i d ∷ r.0) (get_or xs k d ∷ []))))
      (eq-or-lt_of_le (le_of_suc-le-suc h))

  pub first-at : (d : A) (xs : List A) (i k : ℕ) (e : A) → i < k → get_or (first d xs k) i e ≡ get_or xs i d
  first-at d xs i k e h =
      let r = first-split d xs i k h in
      rw r.1 (get_or_at (first d xs i) (get_or xs i d) r.0 e i (length-first d xs i))

  -- ---- f of each number below n

  pub length-tabulate : (f : ℕ → A) (n : ℕ) → length (tabulate f n) ≡ n
  unfolding tabulate
  length-tabulate f zero = refl
  length-tabulate f (suc n) = length-append (tabulate f n) (f n ∷ []) ∙ rw (length-tabulate f n) (omega arith)

  pub tabulate-at : (f : ℕ → A) (n i : ℕ) (d : A) → i < n → get_or (tabulate f n) i d ≡ f i
  unfolding tabulate
  tabulate-at f zero i d h = absurd (not-suc-le-zero h)
  tabulate-at f (suc n) i d h =
      ⊎_elim (λ e. get_or_at (tabulate f n) (f n) [] d i (length-tabulate f n ∙ sym e) ∙ ap f (sym e))
      (λ l. get_or-append (tabulate f n) (f n ∷ []) d i (omega (arith, length-tabulate f n)) ∙ tabulate-at f n i d l)
      (eq-or-lt_of_le (le_of_suc-le-suc h))

pub map_at : {A B : Type 0} (f : A → B) (xs : List A) (i : ℕ) (d : A) (e : B) → i < length xs → get_or (map f xs) i e ≡ f (get_or xs i d)
map_at f [] i d e h = absurd (not-suc-le-zero h)
map_at f (x ∷ xs) zero d e h = refl
map_at f (x ∷ xs) (suc i) d e h = map_at f xs i d e (le_of_suc-le-suc h)

pub all-flat_map : {A B : Type 0} (q : B → Bool) (f : A → List B) (xs : List A) → ((x : A) → all q (f x) ≡ true) → all q (flat_map f xs) ≡ true
unfolding all flat_map
all-flat_map q f [] h = refl
all-flat_map q f (x ∷ xs) h = all_append q (f x) (flat_map f xs) ∙ rw (h x, all-flat_map q f xs h)

-- an element of the joined lists is one of the list of some element, and each of those is among them
module _ {A B : Type 0} (f : A → List B) (d : A) (e : B) where
  pub flat_map-at : (xs : List A) (q : ℕ) → q < length (flat_map f xs) → (i : ℕ) × (r : ℕ) × (i < length xs) × (r < length (f (get_or xs i d))) × (get_or (flat_map f xs) q e ≡ get_or (f (get_or xs i d)) r e)
  unfolding flat_map
  flat_map-at [] q h = absurd (not-suc-le-zero h)
  flat_map-at (x ∷ xs) q h =
      ⊎_elim
      (λ l.
      let r = flat_map-at xs (q - length (f x)) (omega (arith, length-append (f x) (flat_map f xs))) in
      let z : q ≡ length (f x) + (q - length (f x)) = omega arith in
      (suc r.0, r.1, suc-le-suc r.2, r.3, ap (λ (k : ℕ). get_or (f x ++ flat_map f xs) k e) z ∙ get_or-append-add (f x) (flat_map f xs) (q - length (f x)) e ∙ r.4))
      (λ l. (0, q, omega arith, l, get_or-append (f x) (flat_map f xs) e q l))
      (order (length (f x)) q)

  pub at-flat_map : (xs : List A) (i r : ℕ) → i < length xs → r < length (f (get_or xs i d)) → (q : ℕ) × (q < length (flat_map f xs)) × (get_or (flat_map f xs) q e ≡ get_or (f (get_or xs i d)) r e)
  unfolding flat_map
  at-flat_map [] i r h l = absurd (not-suc-le-zero h)
  at-flat_map (x ∷ xs) zero r h l = (r, omega (arith, length-append (f x) (flat_map f xs)), get_or-append (f x) (flat_map f xs) e r l)
  at-flat_map (x ∷ xs) (suc i) r h l =
      let s = at-flat_map xs i r (le_of_suc-le-suc h) l in
      (length (f x) + s.0, omega (arith, s.1, length-append (f x) (flat_map f xs)), get_or-append-add (f x) (flat_map f xs) s.0 e ∙ s.2)

-- ---- same_bytes

pub same-snoc : (xs ys : List ℕ) (a b : ℕ) → length xs ≡ length ys → same_bytes (xs ++ (a ∷ [])) (ys ++ (b ∷ [])) ≡ (same_bytes xs ys && eqb a b)
unfolding same_bytes
same-snoc [] [] a b e = and-true (eqb a b)
same-snoc [] (y ∷ ys) a b e = absurd (omega (arith, e))
same-snoc (x ∷ xs) [] a b e = absurd (omega (arith, e))
same-snoc (x ∷ xs) (y ∷ ys) a b e = rw (same-snoc xs ys a b (omega (arith, e))) (sym (and_assoc (eqb x y) (same_bytes xs ys) (eqb a b)))

pub same-eq : (xs ys : List ℕ) → same_bytes xs ys ≡ true → xs ≡ ys
unfolding same_bytes
same-eq [] [] h = refl
same-eq [] (y ∷ ys) h = clash refl (sym h)
same-eq (x ∷ xs) [] h = clash refl (sym h)
same-eq (x ∷ xs) (y ∷ ys) h =
    rw (eqb-true x y (and_left (eqb x y) (same_bytes xs ys) h), same-eq xs ys (and_right (eqb x y) (same_bytes xs ys) h))

pub same_refl : (xs : List ℕ) → same_bytes xs xs ≡ true
unfolding same_bytes
same_refl [] = refl
same_refl (x ∷ xs) = rw (eq-eqb x x refl, same_refl xs)

-- the first bytes of two arrays are not the same where there are not equally many, or where one differs
pub same-lengths : (xs ys : List ℕ) → (length xs ≡ length ys → ⊥) → same_bytes xs ys ≡ false
same-lengths xs ys n = ⊎_elim (λ e. absurd (n (ap length (same-eq xs ys e)))) (λ e. e) (decide (same_bytes xs ys))

pub same_differs : (xs ys : List ℕ) (i k : ℕ) → i < k → (get_or xs i 0 ≡ get_or ys i 0 → ⊥) → same_bytes (first 0 xs k) (first 0 ys k) ≡ false
same_differs xs ys i k h n =
    ⊎_elim
    (λ e. absurd (n (sym (first-at 0 xs i k 0 h) ∙ ap (λ (l : List ℕ). get_or l i 0) (same-eq (first 0 xs k) (first 0 ys k) e) ∙ first-at 0 ys i k 0 h)))
    (λ e. e) (decide (same_bytes (first 0 xs k) (first 0 ys k)))

-- a loop's turn over two arrays, and its end: past both arrays the first bytes go on being the same
pub same_turn : (xs ys : List ℕ) (i : ℕ) → same_bytes (first 0 xs i) (first 0 ys i) ≡ true → get_or xs i 0 ≡ get_or ys i 0 → same_bytes (first 0 xs (i + 1)) (first 0 ys (i + 1)) ≡ true
same_turn xs ys i h e =
    rw (first_more 0 xs i, first_more 0 ys i, same-snoc (first 0 xs i) (first 0 ys i) (get_or xs i 0) (get_or ys i 0) (length-first 0 xs i ∙ sym (length-first 0 ys i)), h)
    (eq-eqb (get_or xs i 0) (get_or ys i 0) e)

pub same-past : (xs ys : List ℕ) (m n i : ℕ) → length xs ≤ m → length ys ≤ m → i ≡ min n m → same_bytes (first 0 xs i) (first 0 ys i) ≡ true → same_bytes (first 0 xs n) (first 0 ys n) ≡ true
same-past xs ys m zero i p q e h = let z : i ≡ 0 = omega arith in subst (λ (j : ℕ). same_bytes (first 0 xs j) (first 0 ys j) ≡ true) z h
same-past xs ys m (suc k) i p q e h =
    ⊎_elim
    (λ l. let z : i ≡ suc k = omega arith in subst (λ (j : ℕ). same_bytes (first 0 xs j) (first 0 ys j) ≡ true) z h)
    (λ l.
    let b = same-past xs ys m k i p q (omega arith) h in
    let t = same_turn xs ys k b (get_or-eq_default xs 0 (omega arith) ∙ sym (get_or-eq_default ys 0 (omega arith))) in
    rw (← add-one k) t)
    (order (suc k) m)

-- ---- what the library's tests of slices answer

-- `==` of two slices of bytes
pub slices-same : (xs ys : List ℕ) → pointwise nat_eq xs ys ≡ same_bytes xs ys
unfolding same_bytes
slices-same [] [] = refl
slices-same [] (y ∷ ys) = refl
slices-same (x ∷ xs) [] = refl
slices-same (x ∷ xs) (y ∷ ys) = ap (λ (b : Bool). eqb x y && b) (slices-same xs ys)

-- `all` of an iterator
pub list_all-all : {A : Type 0} (p : A → Bool) (xs : List A) → list_all p xs ≡ all p xs
unfolding all
list_all-all p [] = refl
list_all-all p (x ∷ xs) = ap (λ (b : Bool). p x && b) (list_all-all p xs)

-- the first elements of what is the same are the same
same-before : (xs ys : List ℕ) (i n : ℕ) → i ≤ n → same_bytes (first 0 xs n) (first 0 ys n) ≡ true → same_bytes (first 0 xs i) (first 0 ys i) ≡ true
unfolding first
same-before xs ys i zero h e = let z : i ≡ 0 = omega arith in subst (λ (j : ℕ). same_bytes (first 0 xs j) (first 0 ys j) ≡ true) (sym z) e
same-before xs ys i (suc k) h e =
    ⊎_elim
    (λ l. let z : suc k ≡ i = omega arith in subst (λ (j : ℕ). same_bytes (first 0 xs j) (first 0 ys j) ≡ true) z e)
    (λ l. same-before xs ys i k (omega arith) (and_left (same_bytes (first 0 xs k) (first 0 ys k)) _ (sym (same-snoc (first 0 xs k) (first 0 ys k) (get_or xs k 0) (get_or ys k 0) (length-first 0 xs k ∙ sym (length-first 0 ys k))) ∙ e)))
    (order (suc k) i)

-- past the ends of both arrays nothing tells them apart
pub same-cut : (xs ys : List ℕ) (m n : ℕ) → length xs ≤ m → length ys ≤ m → same_bytes (first 0 xs (min n m)) (first 0 ys (min n m)) ≡ same_bytes (first 0 xs n) (first 0 ys n)
same-cut xs ys m n p q = go _ _ (same-past xs ys m n (min n m) p q refl) (same-before xs ys (min n m) n (omega arith))
  where
    go : (a b : Bool) → (a ≡ true → b ≡ true) → (b ≡ true → a ≡ true) → a ≡ b
    go true b f g = sym (f refl)
    go false true f g = g refl
    go false false f g = refl
