-- A table's rule, from one test that antt computes at all of its entries.
use Rattle.std.specs.Prelude.{◌&&◌, ◌∷◌, ◌<◌, ◌+◌}
use Rattle.common.specs.Logic.{◌∙◌, sym, subst, true, Bool, false, List, [], ℕ, suc, zero, zero-add, not-suc-le-zero, le_of_suc-le-suc, add-zero, add-suc, suc-add, T, length, get_or}

module _ {A : Type 0} (f : ℕ → A → Bool) where
  -- the test passes at each entry and its place, counted from i
  abbrev pub passes : ℕ → List A → Bool
  passes i [] = true
  passes i (x ∷ xs) = f i x && passes (suc i) xs

  left : (a b : Bool) → T (a && b) → T a
  left true b t = tt
  left false b t = t

  right : (a b : Bool) → T (a && b) → T b
  right true b t = t
  right false b t = absurd t

  from : (xs : List A) (d : A) (i : ℕ) → T (passes i xs) → (k : ℕ) → k < length xs → T (f (i + k) (get_or xs k d))
  from [] d i t k h = absurd (not-suc-le-zero h)
  from (x ∷ xs) d i t zero h = subst (λ (m : ℕ). T (f m x)) (sym (add-zero i)) (left (f i x) (passes (suc i) xs) t)
  from (x ∷ xs) d i t (suc k) h =
      subst (λ (m : ℕ). T (f m (get_or xs k d))) (suc-add i k ∙ sym (add-suc i k))
      (from xs d (suc i) (right (f i x) (passes (suc i) xs) t) k (le_of_suc-le-suc h))

  pub at : (xs : List A) (d : A) → T (passes 0 xs) → (k : ℕ) → k < length xs → T (f k (get_or xs k d))
  at xs d t k h = subst (λ (m : ℕ). T (f m (get_or xs k d))) (zero-add k) (from xs d 0 t k h)
