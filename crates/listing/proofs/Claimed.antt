-- The claims of specs/Claims.antt on the digits of numbers.
use Rattle.std.specs.Prelude.{◌≡◌, ◌∷◌, ◌++◌, ◌≤◌, ◌<◌, ◌+◌, ◌-◌, ◌*◌, ◌%◌, ◌/◌}
use Rattle.common.specs.Logic.{◌∙◌, refl, true, List, [], ⊎_elim, ℕ, suc, zero, not-suc-le-zero, arith, le-leb, length, get_or, length-append, get_or-append}
use Rattle.common.specs.Lists.{all}
use Rattle.common.proofs.Lists.{order, all_snoc}
use Rattle.listing.specs.Claims.{value_from, is_digit, DigitsClaim}
use Rattle.listing.specs.Text.{digit, digits}
use Rattle.listing.proofs.Digits.{one-digit, more-digits}

-- what holds of a number below 10, and of each number where it holds of that without its last digit, holds of all
module _
    (P : ℕ → List ℕ → Type 0)
    (one : (n : ℕ) → n < 10 → P n (digit n ∷ []))
    (more : (n : ℕ) (ds : List ℕ) → 10 ≤ n → P (n / 10) ds → P n (ds ++ (digit (n % 10) ∷ []))) where
  below : (k n : ℕ) → n < k → P n (digits n)
  below zero n h = absurd (not-suc-le-zero h)
  below (suc k) n h =
      ⊎_elim (λ l. rw (more-digits n l) (more n (digits (n / 10)) l (below k (n / 10) (omega arith)))) (λ l. rw (one-digit n l) (one n l)) (order 10 n)

  by_digits : (n : ℕ) → P n (digits n)
  by_digits n = below (suc n) n (omega arith)

value-snoc : (v d : ℕ) (ds : List ℕ) → value_from v (ds ++ (d ∷ [])) ≡ value_from v ds * 10 + (d - 0x30)
unfolding value_from
value-snoc v d [] = refl
value-snoc v d (e ∷ ds) = value-snoc (v * 10 + (e - 0x30)) d ds

spells : (n : ℕ) → value_from 0 (digits n) ≡ n
unfolding value_from
spells =
    by_digits (λ n ds. value_from 0 ds ≡ n) (λ n h. omega arith) (λ n ds h e. value-snoc 0 (digit (n % 10)) ds ∙ rw e (omega arith))

is_digit_lem : (d : ℕ) → d < 10 → is_digit (digit d) ≡ true
unfolding is_digit
is_digit_lem d h = rw (le-leb 0x30 (digit d) (omega arith), le-leb (digit d) 0x39 (omega arith))

all_digits : (n : ℕ) → all is_digit (digits n) ≡ true
unfolding all
all_digits =
    by_digits (λ n ds. all is_digit ds ≡ true) (λ n h. rw (is_digit_lem n h))
    (λ n ds h e. all_snoc is_digit ds (digit (n % 10)) ∙ rw (e, is_digit_lem (n % 10) (omega arith)))

-- there is a digit, and it is not `0` where the number is not 0
abbrev Front : ℕ → List ℕ → Type 0
Front n ds = (0 < length ds) × (0 < n → 0x30 < get_or ds 0 0)

fronts : (n : ℕ) → Front n (digits n)
fronts =
    by_digits Front (λ n h. (omega arith, λ l. omega arith))
    (λ n ds h f. (omega (arith, length-append ds (digit (n % 10) ∷ [])), λ l. rw (get_or-append ds (digit (n % 10) ∷ []) 0 0 f.0) (f.1 (omega arith))))

pub digits-claim : DigitsClaim
digits-claim = record { value = spells; only = all_digits; zero = one-digit 0 (omega arith); front = λ n h. (fronts n).1 h }
