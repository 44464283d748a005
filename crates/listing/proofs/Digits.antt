-- The digits of a number: how many are written and in which order, and that they spell the number.
use Rattle.std.specs.Prelude.{◌≡◌, ◌∷◌, ◌++◌, ◌≤◌, ◌<◌, ◌+◌, ◌*◌, ◌%◌, ◌/◌}
use Rattle.common.specs.Logic.{◌∙◌, ap, List, [], ⊎_elim, ℕ, suc, zero, not-suc-le-zero, arith, lt-ltb, le-ltb, length, length-append}
use Rattle.common.proofs.Lists.{order}
use Rattle.listing.specs.Text.{digit, digits_within, digits}

-- more room than a number needs changes nothing
within : (k j n : ℕ) → n < k → n < j → digits_within k n ≡ digits_within j n
unfolding digits_within
within zero j n h i = absurd (not-suc-le-zero h)
within (suc k) zero n h i = absurd (not-suc-le-zero i)
within (suc k) (suc j) n h i =
    ⊎_elim (λ m. rw (le-ltb n 10 m, within k j (n / 10) (omega arith) (omega arith))) (λ l. rw (lt-ltb n 10 l)) (order 10 n)

pub one-digit : (n : ℕ) → n < 10 → digits n ≡ digit n ∷ []
unfolding digits digits_within
one-digit n h = rw (lt-ltb n 10 h)

next-digit : (n : ℕ) → 10 ≤ n → digits_within (suc n) n ≡ digits_within n (n / 10) ++ (digit (n % 10) ∷ [])
unfolding digits_within
next-digit n h = rw (le-ltb n 10 h)

pub more-digits : (n : ℕ) → 10 ≤ n → digits n ≡ digits (n / 10) ++ (digit (n % 10) ∷ [])
unfolding digits
more-digits n h =
    next-digit n h ∙ ap (λ (ds : List ℕ). ds ++ (digit (n % 10) ∷ [])) (within n (suc (n / 10)) (n / 10) (omega arith) (omega arith))

-- ---- how many

pub length-one : (n : ℕ) → n < 10 → length (digits n) ≡ 1
length-one n h = ap length (one-digit n h)

pub length_more : (n : ℕ) → 10 ≤ n → length (digits n) ≡ length (digits (n / 10)) + 1
length_more n h = ap length (more-digits n h) ∙ length-append (digits (n / 10)) (digit (n % 10) ∷ [])

-- numbers below b have at most k digits
abbrev Few : ℕ → ℕ → Type 0
Few b k = (n : ℕ) → n < b → length (digits n) ≤ k

few-one : Few 10 1
few-one n h = omega (arith, length-one n h)

few-more : (b k : ℕ) → Few b k → Few (b * 10) (suc k)
few-more b k f n h =
    ⊎_elim (λ l. omega (arith, length_more n l, f (n / 10) (omega arith))) (λ l. omega (arith, length-one n l)) (order 10 n)

few-two : Few 100 2
few-two = few-more 10 1 few-one

pub few-three : Few 1000 3
few-three = few-more 100 2 few-two

few-four : Few 10000 4
few-four = few-more 1000 3 few-three

pub few-five : Few 100000 5
few-five = few-more 10000 4 few-four

pub at_most_two : (n : ℕ) → n ≤ 32 → length (digits n) ≤ 2
at_most_two n h = few-two n (omega arith)

pub at-most-three : (n : ℕ) → n < 256 → length (digits n) ≤ 3
at-most-three n h = few-three n (omega arith)

pub at-most-five : (n : ℕ) → n < 65536 → length (digits n) ≤ 5
at-most-five n h = few-five n (omega arith)

pub at_most_four : (n : ℕ) → n < 10000 → length (digits n) ≤ 4
at_most_four n h = few-four n (omega arith)

-- a text with a space and a number of at most k digits at its end
pub next_number : (n k : ℕ) (t u : List ℕ) → u ≡ t ++ (0x20 ∷ digits n) → length (digits n) ≤ k → length u ≤ length t + k + 1
next_number n k t u e h = omega (arith, ap length e, length-append t (0x20 ∷ digits n))
