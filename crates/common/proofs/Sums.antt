-- Laws of sums over the numbers below n, and over lists.
use Rattle.std.specs.Prelude.{◌≡◌, ◌∷◌, ◌++◌, ◌≤◌, ◌<◌, ◌+◌, ◌*◌}
use Rattle.common.specs.Logic.{◌∙◌, sym, ap, refl, ap₂, List, [], ⊎_elim, ℕ, suc, zero, zero-add, add-zero, add-suc, suc-mul, not-suc-le-zero, arith, length, get_or, get_or-eq_default}
use native.Mathlib.Nat.{add_assoc}
use native.Mathlib.Numerals.{add-one}
use lib.Seq.{take_all}
use Rattle.common.specs.Lists.{first, sum_below, sum}
use Rattle.common.proofs.Lists.{order, first-none, first_more, first-take}

-- one more
pub sum_more : (f : ℕ → ℕ) (n : ℕ) → sum_below f (n + 1) ≡ sum_below f n + f n
unfolding sum_below
sum_more f n = ap (sum_below f) (add-one n)

-- equal at each number
pub sum_same : (f g : ℕ → ℕ) (n : ℕ) → ((i : ℕ) → i < n → f i ≡ g i) → sum_below f n ≡ sum_below g n
unfolding sum_below
sum_same f g zero h = refl
sum_same f g (suc n) h = ap₂ ◌+◌ (sum_same f g n (λ i l. h i (omega arith))) (h n (omega arith))

-- the numbers below d, and the n from there on
pub sum-apart : (f g : ℕ → ℕ) (d n : ℕ) → ((i : ℕ) → i < n → g i ≡ f (d + i)) → sum_below f (d + n) ≡ sum_below f d + sum_below g n
unfolding sum_below
sum-apart f g d zero h = ap (sum_below f) (add-zero d) ∙ sym (add-zero (sum_below f d))
sum-apart f g d (suc n) h =
    ap (sum_below f) (add-suc d n) ∙ ap₂ ◌+◌ (sum-apart f g d n (λ i l. h i (omega arith))) (sym (h n (omega arith)))
    ∙ add_assoc (sum_below f d) (sum_below g n) (g n)

-- each at most b
pub sum-le : (f : ℕ → ℕ) (b n : ℕ) → ((i : ℕ) → f i ≤ b) → sum_below f n ≤ n * b
unfolding sum_below
sum-le f b zero h = omega arith
sum-le f b (suc n) h = omega (arith, sum-le f b n h, h n, suc-mul n b)

-- none is more than 0
pub sum-zero : (f : ℕ → ℕ) (n : ℕ) → ((i : ℕ) → f i ≡ 0) → sum_below f n ≡ 0
unfolding sum_below
sum-zero f zero h = refl
sum-zero f (suc n) h = omega (arith, sum-zero f n h, h n)

-- ---- of lists

pub sum-append : (xs ys : List ℕ) → sum (xs ++ ys) ≡ sum xs + sum ys
unfolding sum
sum-append [] ys = sym (zero-add (sum ys))
sum-append (x ∷ xs) ys = ap (λ (n : ℕ). x + n) (sum-append xs ys) ∙ sym (add_assoc x (sum xs) (sum ys))

-- zeros past the list's end add nothing
pub sum_first : (xs : List ℕ) (n : ℕ) → length xs ≤ n → sum (first 0 xs n) ≡ sum xs
unfolding first sum
sum_first [] zero h = refl
sum_first (x ∷ xs) zero h = absurd (not-suc-le-zero h)
sum_first xs (suc n) h =
    ⊎_elim
    (λ (g : length xs ≤ n). sum-append (first 0 xs n) (get_or xs n 0 ∷ []) ∙ omega (arith, sum_first xs n g, get_or-eq_default xs 0 g))
    (λ (g : n < length xs). let e : first 0 xs (suc n) ≡ xs = first-take 0 xs (suc n) g ∙ take_all (suc n) xs h in ap sum e)
    (order (length xs) n)

-- the first i numbers, and the next
pub sum-none : (xs : List ℕ) → 0 ≡ sum (first 0 xs 0)
unfolding sum
sum-none xs = rw (first-none 0 xs)

pub sum-next : (xs : List ℕ) (i : ℕ) {t : ℕ} → t ≡ sum (first 0 xs i) → t + get_or xs i 0 ≡ sum (first 0 xs (i + 1))
unfolding sum
sum-next xs i T = omega (arith, T, ap sum (first_more 0 xs i), sum-append (first 0 xs i) (get_or xs i 0 ∷ []))
