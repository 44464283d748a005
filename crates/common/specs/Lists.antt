-- Tests and searches over lists, and the first elements of an array. Nothing here speaks of points.
use Rattle.std.specs.Prelude.{◌&&◌, ◌||◌, ◌∷◌, ◌++◌, ◌+◌}
use Rattle.common.specs.Logic.{true, Bool, false, cond, List, [], None, Some, Option, ℕ, suc, zero, max, eqb, leb, get_or}

module _ {A : Type 0} where
  -- each passes the test
  unfoldable pub all : (A → Bool) → List A → Bool
  all p [] = true
  all p (x ∷ xs) = p x && all p xs

  -- the test holds of each two, the earlier first
  unfoldable pub pairwise : (A → A → Bool) → List A → Bool
  pairwise r [] = true
  pairwise r (x ∷ xs) = all (r x) xs && pairwise r xs

  -- the test r of an element, with a in the second place
  unfoldable pub against : (A → A → Bool) → A → A → Bool
  against r a x = r x a

  -- f is at most n
  unfoldable pub at_most : (A → ℕ) → ℕ → A → Bool
  at_most f n x = leb (f x) n

  -- the greatest of f over the list, 0 if that is empty
  unfoldable pub greatest : (A → ℕ) → List A → ℕ
  greatest f [] = 0
  greatest f (x ∷ xs) = max (f x) (greatest f xs)

  -- the place of the first that passes the test, counted from n
  unfoldable pub place_from : ℕ → (A → Bool) → List A → Option ℕ
  place_from n p [] = None
  place_from n p (x ∷ xs) = cond (p x) (Some n) (place_from (suc n) p xs)

  -- the first k elements of an array; where k passes its end, d stands for each that is missing
  unfoldable pub first : A → List A → ℕ → List A
  first d xs zero = []
  first d xs (suc k) = first d xs k ++ (get_or xs k d ∷ [])

  -- f of each number below n, in turn
  unfoldable pub tabulate : (ℕ → A) → ℕ → List A
  tabulate f zero = []
  tabulate f (suc n) = tabulate f n ++ (f n ∷ [])

-- all of them hold
unfoldable pub every : List Bool → Bool
every [] = true
every (b ∷ bs) = b && every bs

-- equally many bytes, and the same
unfoldable pub same_bytes : List ℕ → List ℕ → Bool
same_bytes [] [] = true
same_bytes [] (y ∷ ys) = false
same_bytes (x ∷ xs) [] = false
same_bytes (x ∷ xs) (y ∷ ys) = eqb x y && same_bytes xs ys

-- the number is in the list
unfoldable pub is_one_of : List ℕ → ℕ → Bool
is_one_of [] n = false
is_one_of (m ∷ ms) n = eqb n m || is_one_of ms n

-- the sum of f over the numbers below n
unfoldable pub sum_below : (ℕ → ℕ) → ℕ → ℕ
sum_below f zero = 0
sum_below f (suc n) = sum_below f n + f n

-- the sum of a list
unfoldable pub sum : List ℕ → ℕ
sum [] = 0
sum (x ∷ xs) = x + sum xs
