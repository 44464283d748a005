-- Each turn of a loop over the digits of a text, and where its point stands.
use Rattle.std.specs.Prelude.{◌≡◌, ◌&&◌, ◌∷◌, ◌++◌, ◌≤◌, ◌<◌, ◌+◌, ◌-◌, ◌*◌, ◌^◌, None, Some}
use Rattle.common.specs.Logic.{◌∙◌, sym, ap, refl, subst, true, Bool, false, cond, not, List, [], ℕ, suc, arith, ap₂, eq-eqb, ne_eqb, leb-true, le_antisymm, lt_of_lt_of_le, lit<, length, length-drop, get_or, take, drop, leb}
use native.Mathlib.Numerals.{add-one}
use native.Mathlib.Nat.{pow-suc, pow-le-pow_right}
use Rattle.std.proofs.lemmas.List.{drop_all}
use lib.Seq.{drop-cons, take_all}
use lib.Ieee.{Float}
use Rattle.std.specs.List.{position_or_len}
use Rattle.common.specs.Lists.{all}
use Rattle.common.proofs.Lists.{and_left, and_right}
use Rattle.decimals.specs.Decimals.{is_digit, is_point, before_point, after_point, number_from, value_of, are_digits, decimal_by, unsigned_of, decimal_of}

-- ---- one byte more

module _ (t : List ℕ) (i : ℕ) (H : i < length t) where
  pub rest : drop i t ≡ get_or t i 0 ∷ drop (i + 1) t
  rest = rw (add-one, drop-cons t i 0)

  pub first-digit : all is_digit (drop i t) ≡ true → is_digit (get_or t i 0) ≡ true
  unfolding all
  first-digit h = and_left _ (all is_digit (drop (i + 1) t)) (rw rest at h)

  pub other-digits : all is_digit (drop i t) ≡ true → all is_digit (drop (i + 1) t) ≡ true
  unfolding all
  other-digits h = and_right (is_digit (get_or t i 0)) _ (rw rest at h)

  pub number-next : (n d : ℕ) → d ≡ get_or t i 0 - 0x30 → number_from n (drop i t) ≡ number_from (n * 10 + d) (drop (i + 1) t)
  unfolding number_from
  number-next n d e = rw (rest, e)

-- ---- one digit

pub digit-bounds : (b : ℕ) → is_digit b ≡ true → (0x30 ≤ b) × (b ≤ 0x39)
unfolding is_digit
digit-bounds b h = (leb-true 0x30 b (and_left (leb 0x30 b) (leb b 0x39) h), leb-true b 0x39 (and_right (leb 0x30 b) (leb b 0x39) h))

-- ---- the number of the digits so far

pub small : {n k : ℕ} → n < 10 ^ k → k ≤ 14 → n < 100000000000000
small {k = k} h l = lt_of_lt_of_le h (pow-le-pow_right {n = 10} (lit< tt) {i = k} {j = 14} l)

pub number-grows : (n d k j : ℕ) → n < 10 ^ k → d ≤ 9 → j ≡ k + 1 → n * 10 + d < 10 ^ j
number-grows n d k j h l e = rw (e, add-one, pow-suc) (omega arith)

-- no byte is left
pub passed-number : (t : List ℕ) (i n : ℕ) → length t ≤ i → number_from n (drop i t) ≡ n
unfolding number_from
passed-number t i n l = rw (drop_all i t l)

pub number-ends : (m i n k : ℕ) → i ≤ m → m ≤ i → n < 10 ^ (k + i) → n < 10 ^ (k + m)
number-ends m i n k h l p = subst (λ (j : ℕ). n < 10 ^ (k + j)) (le_antisymm h l) p

-- ---- before and after the point

-- where the point stands
pub point_at : (t : List ℕ) → position_or_len is_point t ≡ length (before_point t)
unfolding before_point
point_at [] = refl
point_at (x ∷ t) = go (is_point x) (point_at t)
  where
    go : (b : Bool) → position_or_len is_point t ≡ length (before_point t) → cond (not b) (1 + position_or_len is_point t) 0 ≡ length (cond b [] (x ∷ before_point t))
    go true e = refl
    go false e = omega arith

pub stands : (b : Bool) (n k : ℕ) → Some k ≡ cond b (Some n) None → k ≡ n
stands true n k e = cc
stands false n k e = absurd (let z : ◌≡◌ {A = ℕ} 0 1 = cc in omega arith)

pub nowhere : (b : Bool) (n : ℕ) → None ≡ cond b (Some n) None → b ≡ false
nowhere true n e = absurd (let z : ◌≡◌ {A = ℕ} 0 1 = cc in omega arith)
nowhere false n e = refl

-- the same of a text that begins with x, by whether x is the point
before-step :
    (b : Bool) (x : ℕ) (t : List ℕ) → take (length (before_point t)) t ≡ before_point t
    → take (length (cond b [] (x ∷ before_point t))) (x ∷ t) ≡ cond b [] (x ∷ before_point t)
before-step true x t h = refl
before-step false x t h = ap (λ (l : List ℕ). x ∷ l) h

before : (t : List ℕ) → take (length (before_point t)) t ≡ before_point t
unfolding before_point
before [] = refl
before (x ∷ t) = before-step (is_point x) x t (before t)

after-step :
    (b : Bool) (x : ℕ) (t : List ℕ) → drop (suc (length (before_point t))) t ≡ after_point t
    → drop (suc (length (cond b [] (x ∷ before_point t)))) (x ∷ t) ≡ cond b t (after_point t)
after-step true x t h = refl
after-step false x t h = h

after : (t : List ℕ) → drop (suc (length (before_point t))) t ≡ after_point t
unfolding before_point after_point
after [] = refl
after (x ∷ t) = after-step (is_point x) x t (after t)

-- the rest of a slice from n on
pub take_rest : (n : ℕ) (t : List ℕ) → take (length t - n) (drop n t) ≡ drop n t
take_rest n t = take_all (length t - n) (drop n t) (simp length-drop (omega arith))

pub unsigned-parts :
    (s : Bool) (t : List ℕ) (p : ℕ) → p ≡ length (before_point t)
    → decimal_by s (take p t) (take (length t - (p + 1)) (drop (p + 1) t)) ≡ unsigned_of s t
unfolding unsigned_of
unsigned-parts s t p e = ap₂ (decimal_by s) (rw e (before t)) (take_rest (p + 1) t ∙ rw (e, add-one) (after t))

-- no byte of the text is a point
pub unsigned-whole : (s : Bool) (t : List ℕ) (p : ℕ) → p ≡ length (before_point t) → length t ≤ p → decimal_by s t [] ≡ unsigned_of s t
unfolding unsigned_of
unsigned-whole s t p e l =
    let a : take (length (before_point t)) t ≡ t = take_all (length (before_point t)) t (omega arith) in
    let b : drop (suc (length (before_point t))) t ≡ [] = drop_all (suc (length (before_point t))) t (omega arith) in
    ap₂ (decimal_by s) (sym a ∙ before t) (sym b ∙ after t)

-- ---- digits before and after the point

pub all_both : (w f : List ℕ) → all is_digit (w ++ f) ≡ (all is_digit w && all is_digit f)
unfolding all
all_both [] f = refl
all_both (x ∷ w) f = and_assoc (is_digit x) (all is_digit w) (all is_digit f) (all is_digit (w ++ f)) (all_both w f)
  where
    and_assoc : (a b c d : Bool) → d ≡ (b && c) → (a && d) ≡ ((a && b) && c)
    and_assoc true b c d e = e
    and_assoc false b c d e = refl

module _ (w f : List ℕ) where
  both : are_digits w f ≡ true → (all is_digit w && all is_digit f) ≡ true
  unfolding are_digits
  both h = sym (all_both w f) ∙ and_left (all is_digit (w ++ f)) _ h

  pub whole-digits : are_digits w f ≡ true → all is_digit w ≡ true
  whole-digits h = and_left _ (all is_digit f) (both h)

  pub fraction-digits : are_digits w f ≡ true → all is_digit f ≡ true
  fraction-digits h = and_right (all is_digit w) _ (both h)

  pub few-digits : are_digits w f ≡ true → length w + length f ≤ 15
  unfolding are_digits
  few-digits h = leb-true _ _ (and_right (leb 1 (length w + length f)) _ (and_right (all is_digit (w ++ f)) _ h))

number-both : (n : ℕ) (w f : List ℕ) → number_from n (w ++ f) ≡ number_from (number_from n w) f
unfolding number_from
number-both n [] f = refl
number-both n (x ∷ w) f = number-both (n * 10 + (x - 0x30)) w f

module _ (s : Bool) (w f : List ℕ) where
  pub decimal-none : are_digits w f ≡ false → None ≡ decimal_by s w f
  unfolding decimal_by
  decimal-none h = rw h

  pub decimal-some :
      (n m : ℕ) (v : Float) → are_digits w f ≡ true → n ≡ number_from 0 w → m ≡ number_from n f → v ≡ value_of s m (length f)
      → Some v ≡ decimal_by s w f
  unfolding decimal_by
  decimal-some n m v h a b e = rw (h, e, b, a, number-both 0 w f)

-- ---- the sign

pub decimal-empty : (t : List ℕ) → length t ≡ 0 → None ≡ decimal_of t
unfolding decimal_of
decimal-empty [] h = refl
decimal-empty (x ∷ t) h = absurd (omega arith)

pub decimal-minus : (t : List ℕ) → 0 < length t → get_or t 0 0 ≡ 0x2d → unsigned_of true (take (length t - 1) (drop 1 t)) ≡ decimal_of t
unfolding decimal_of
decimal-minus [] h e = absurd (omega arith)
decimal-minus (x ∷ t) h e = rw (take_rest 1 (x ∷ t), eq-eqb x 0x2d e)

pub decimal-plus : (t : List ℕ) → 0 < length t → get_or t 0 0 ≡ 0x2b → unsigned_of false (take (length t - 1) (drop 1 t)) ≡ decimal_of t
unfolding decimal_of
decimal-plus [] h e = absurd (omega arith)
decimal-plus (x ∷ t) h e = rw (take_rest 1 (x ∷ t), e)

pub decimal-plain : (t : List ℕ) → 0 < length t → (get_or t 0 0 ≡ 0x2d → ⊥) → (get_or t 0 0 ≡ 0x2b → ⊥) → unsigned_of false t ≡ decimal_of t
unfolding decimal_of
decimal-plain [] h d e = absurd (omega arith)
decimal-plain (x ∷ t) h d e = rw (ne_eqb x 0x2d d, ne_eqb x 0x2b e)

pub number-few : (n k : ℕ) → n < 10 ^ k → k ≤ 15 → n < 10 ^ 15
number-few n k h l = lt_of_lt_of_le h (pow-le-pow_right {n = 10} (lit< tt) {i = k} {j = 15} l)
