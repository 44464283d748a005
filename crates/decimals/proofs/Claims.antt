-- The claims over decimals and over texts of them.
use Rattle.std.specs.Prelude.{◌≡◌, ◌&&◌, ◌∷◌, ◌++◌, ◌⊎◌, ◌≤◌, ◌<◌, ◌+◌, ◌^◌, ◌-◌, ◌*◌, None, Some, Result, Ok, Err}
use Rattle.common.specs.Logic.{◌∙◌, sym, ap, ap₂, refl, subst, true, Bool, false, cond, List, [], append-nil, not, ⊎_elim, inl, inr, eqb-true, leb-true, not-true, ℕ, suc, add-zero, zero-add, arith, eqb, leb, ne_eqb, lt-ltb, le-ltb, le-leb, length, length-append, get_or, drop, set, lit<}
use Rattle.common.specs.Lists.{all}
use native.Mathlib.Numerals.{add-one}
use lib.Ieee.{Float, binary64}
use lib.Seq.{append_snoc, sets, sets-eq}
use Rattle.decimals.specs.Claims.{RoundedOnce, Sign, unwritten, plus, minus, sign_text, is_minus, Digits, Written, DecimalClaim, Whole, WordsClaim, Values, refused, NumbersClaim}
use Rattle.decimals.specs.Decimals.{is_digit, is_point, before_point, after_point, number_from, value_of, are_digits, decimal_by, unsigned_of, decimal_of}
use Rattle.decimals.specs.Numbers.{wanted, separates, line_after, last_line, Word, with_word, words_from, words_of, zeros, none_read, after_words, numbers_of}
use Rattle.decimals.specs.declared.Form.{Form}
use Rattle.decimals.specs.declared.NumbersError.{NumbersError}
use Rattle.decimals.specs.declared.NumbersError.TheVariants.{BadWord, TooMany, TooFew}
use Rattle.decimals.specs.declared.Reading.{Reading}
use Rattle.common.proofs.Lists.{and_left, and_right}
use Rattle.decimals.proofs.Texts.{digit-bounds, all_both, decimal-plain, number-grows, number-few}
use Rattle.decimals.proofs.Values.{exact, quotient_is, number-holds, power-above, power-holds, neg-round}
use Rattle.decimals.proofs.Words.{wanted-le, stays_refused}

-- ---- one rounding

rounded-once : (m k : ℕ) → m < 10 ^ 15 → k ≤ 15 → RoundedOnce m k
unfolding value_of
rounded-once m k h l =
    let a = exact m (number-holds m h) in
    let b = exact (10 ^ k) (power-holds k (10 ^ k) refl l) in
    let q = quotient_is _ _ m (10 ^ k) (power-above k (10 ^ k) refl) a b in
    record { number = a; power = b; plus = sym q; minus = rw q (sym (neg-round binary64 m (10 ^ k))) }

-- ---- what is a decimal

digit-no-point : (b : ℕ) → is_digit b ≡ true → is_point b ≡ false
digit-no-point b h = let g = digit-bounds b h in ne_eqb b 0x2e (λ e. omega arith)

module _ (x : ℕ) (w : List ℕ) (D : all is_digit (x ∷ w) ≡ true) where
  first : is_digit x ≡ true
  unfolding all
  first = and_left (is_digit x) (all is_digit w) D

  others : all is_digit w ≡ true
  unfolding all
  others = and_right (is_digit x) (all is_digit w) D

-- so many digits are so small a number
number-below : (n k : ℕ) (w : List ℕ) → all is_digit w ≡ true → n < 10 ^ k → number_from n w < 10 ^ (k + length w)
unfolding number_from
number-below n k [] d h = rw add-zero h
number-below n k (x ∷ w) d h =
    let b = digit-bounds x (first x w d) in
    let e : k + 1 + length w ≡ k + suc (length w) = omega arith in
    subst (λ (j : ℕ). number_from (n * 10 + (x - 0x30)) w < 10 ^ j) e
    (number-below (n * 10 + (x - 0x30)) (k + 1) w (others x w d) (number-grows n (x - 0x30) k (k + 1) h (omega arith) refl))

once : (w f : List ℕ) → Digits w f → RoundedOnce (number_from 0 (w ++ f)) (length f)
once w f d =
    let l : length (w ++ f) ≤ 15 = simp length-append d.few in
    let g = d.few in
    rounded-once (number_from 0 (w ++ f)) (length f)
    (number-few (number_from 0 (w ++ f)) (0 + length (w ++ f)) (number-below 0 0 (w ++ f) d.digits (lit< tt)) (rw zero-add l))
    (omega arith)

before-whole : (w f : List ℕ) → all is_digit w ≡ true → before_point (w ++ 0x2e ∷ f) ≡ w
unfolding before_point
before-whole [] f d = refl
before-whole (x ∷ w) f d = rw (digit-no-point x (first x w d), before-whole w f (others x w d))

after-fraction : (w f : List ℕ) → all is_digit w ≡ true → after_point (w ++ 0x2e ∷ f) ≡ f
unfolding after_point
after-fraction [] f d = refl
after-fraction (x ∷ w) f d = rw (digit-no-point x (first x w d)) (after-fraction w f (others x w d))

before-all : (w : List ℕ) → all is_digit w ≡ true → before_point w ≡ w
unfolding before_point
before-all [] d = refl
before-all (x ∷ w) d = rw (digit-no-point x (first x w d), before-all w (others x w d))

after_none : (w : List ℕ) → all is_digit w ≡ true → after_point w ≡ []
unfolding after_point
after_none [] d = refl
after_none (x ∷ w) d = rw (digit-no-point x (first x w d)) (after_none w (others x w d))

by_digits : (s : Bool) (w f : List ℕ) → Digits w f → decimal_by s w f ≡ Some (value_of s (number_from 0 (w ++ f)) (length f))
unfolding decimal_by are_digits
by_digits s w f d = rw (d.digits, le-leb 1 (length w + length f) d.some, le-leb (length w + length f) 15 d.few)

-- a text with no sign begins with a digit or the point
unsigned : (t : List ℕ) → (get_or t 0 0 ≡ 0x2d → ⊥) → (get_or t 0 0 ≡ 0x2b → ⊥) → 0 < length t → decimal_of t ≡ unsigned_of false t
unsigned t a b h = sym (decimal-plain t h a b)

signed : (s : Sign) (t : List ℕ) → (get_or t 0 0 ≡ 0x2d → ⊥) → (get_or t 0 0 ≡ 0x2b → ⊥) → 0 < length t → decimal_of (sign_text s ++ t) ≡ unsigned_of (is_minus s) t
unfolding decimal_of
signed unwritten t a b h = unsigned t a b h
signed plus t a b h = refl
signed minus t a b h = refl

integer : (s : Sign) (w : List ℕ) → Digits w [] → decimal_of (sign_text s ++ w) ≡ Some (value_of (is_minus s) (number_from 0 w) 0)
unfolding unsigned_of
integer s [] d = absurd (let g = d.some in omega arith)
integer s (x ∷ w) d =
    let D : all is_digit (x ∷ w) ≡ true = rw append-nil at d.digits in
    let g = digit-bounds x (first x w D) in
    signed s (x ∷ w) (λ e. omega arith) (λ e. omega arith) (omega arith)
    ∙ ap₂ (decimal_by (is_minus s)) (before-all (x ∷ w) D) (after_none (x ∷ w) D)
    ∙ by_digits (is_minus s) (x ∷ w) [] d
    ∙ ap (λ (l : List ℕ). Some (value_of (is_minus s) (number_from 0 l) 0)) (append-nil (x ∷ w))

no_sign : (w f : List ℕ) → all is_digit w ≡ true → (b : ℕ) → b < 0x2e → get_or (w ++ 0x2e ∷ f) 0 0 ≡ b → ⊥
no_sign [] f d b l e = omega arith
no_sign (x ∷ w) f d b l e = let g = digit-bounds x (first x w d) in omega arith

pointed :
    (s : Sign) (w f : List ℕ) → Digits w f
    → decimal_of (sign_text s ++ (w ++ 0x2e ∷ f)) ≡ Some (value_of (is_minus s) (number_from 0 (w ++ f)) (length f))
unfolding unsigned_of
pointed s w f d =
    let D : all is_digit w ≡ true = and_left (all is_digit w) (all is_digit f) (sym (all_both w f) ∙ d.digits) in
    signed s (w ++ 0x2e ∷ f) (no_sign w f D 0x2d (lit< tt)) (no_sign w f D 0x2b (lit< tt)) (simp length-append (omega arith))
    ∙ ap₂ (decimal_by (is_minus s)) (before-whole w f D) (after-fraction w f D)
    ∙ by_digits (is_minus s) w f d

-- ---- and nothing else is

to-decimal : (t : List ℕ) (v : Float) → Written t v → decimal_of t ≡ Some v
to-decimal t v w =
    ⊎_elim
    (λ e. ap decimal_of e ∙ pointed w.sign w.whole w.fraction w.right ∙ ap Some (sym w.value))
    (λ e. ap decimal_of e.0 ∙ integer w.sign w.whole (subst (Digits w.whole) e.1 w.right) ∙ ap Some (sym (w.value ∙ rw (e.1, append-nil))))
    w.form

-- where the point stands
split_step :
    (b : Bool) (x : ℕ) (t : List ℕ) → eqb x 0x2e ≡ b → (t ≡ before_point t ++ 0x2e ∷ after_point t) ⊎ ((t ≡ before_point t) × (after_point t ≡ []))
    → (x ∷ t ≡ cond b [] (x ∷ before_point t) ++ 0x2e ∷ cond b t (after_point t)) ⊎ ((x ∷ t ≡ cond b [] (x ∷ before_point t)) × (cond b t (after_point t) ≡ []))
split_step true x t e h = inl (ap (λ (y : ℕ). y ∷ t) (eqb-true x 0x2e e))
split_step false x t e h = ⊎_elim (λ k. inl (ap (λ (l : List ℕ). x ∷ l) k)) (λ k. inr (ap (λ (l : List ℕ). x ∷ l) k.0, k.1)) h

split : (t : List ℕ) → (t ≡ before_point t ++ 0x2e ∷ after_point t) ⊎ ((t ≡ before_point t) × (after_point t ≡ []))
unfolding before_point after_point
split [] = inr (refl, refl)
split (x ∷ t) = split_step (eqb x 0x2e) x t refl (split t)

digits_of : (w f : List ℕ) → are_digits w f ≡ true → Digits w f
unfolding are_digits
digits_of w f h =
    let n = length w + length f in
    let b = and_right (all is_digit (w ++ f)) (leb 1 n && leb n 15) h in
    record {
      digits = and_left (all is_digit (w ++ f)) (leb 1 n && leb n 15) h;
      some = leb-true 1 n (and_left (leb 1 n) (leb n 15) b);
      few = leb-true n 15 (and_right (leb 1 n) (leb n 15) b);
    }

never : (v : Float) → None ≡ Some v → ⊥
never v e = let z : ◌≡◌ {A = ℕ} 0 1 = cc in omega arith

by-of : (b : Bool) (x v : Float) → cond b (Some x) None ≡ Some v → (b ≡ true) × (v ≡ x)
by-of true x v e = (refl, cc)
by-of false x v e = absurd (never v e)

from-unsigned : (s : Sign) (t : List ℕ) (v : Float) → unsigned_of (is_minus s) t ≡ Some v → Written (sign_text s ++ t) v
unfolding unsigned_of decimal_by
from-unsigned s t v e =
    let k = by-of (are_digits (before_point t) (after_point t)) _ v e in
    record {
      sign = s;
      whole = before_point t;
      fraction = after_point t;
      right = digits_of (before_point t) (after_point t) k.0;
      form = ⊎_elim (λ h. inl (ap (λ (l : List ℕ). sign_text s ++ l) h)) (λ h. inr (ap (λ (l : List ℕ). sign_text s ++ l) h.0, h.1)) (split t);
      value = k.1;
    }

from-decimal : (t : List ℕ) (v : Float) → decimal_of t ≡ Some v → Written t v
unfolding decimal_of
from-decimal [] v e = absurd (never v e)
from-decimal (x ∷ t) v e = go (eqb x 0x2d) (eqb x 0x2b) refl refl e
  where
    go : (a b : Bool) → eqb x 0x2d ≡ a → eqb x 0x2b ≡ b
        → cond a (unsigned_of true t) (cond b (unsigned_of false t) (unsigned_of false (x ∷ t))) ≡ Some v → Written (x ∷ t) v
    go true b h k e = subst (λ (y : ℕ). Written (y ∷ t) v) (sym (eqb-true x 0x2d h)) (from-unsigned minus t v e)
    go false true h k e = subst (λ (y : ℕ). Written (y ∷ t) v) (sym (eqb-true x 0x2b k)) (from-unsigned plus t v e)
    go false false h k e = from-unsigned unwritten (x ∷ t) v e

pub decimal-claim : DecimalClaim
decimal-claim = record { once = once; decimals = λ t v. (from-decimal t v, to-decimal t v) }

-- ---- words

module _ (f : Form) where
  inside : (b : ℕ) (w : List ℕ) → Whole f (b ∷ w) → separates f b ≡ false
  unfolding all
  inside b w h = not-true (separates f b) (and_left (not (separates f b)) (all (λ (x : ℕ). not (separates f x)) w) h)

  beyond : (b : ℕ) (w : List ℕ) → Whole f (b ∷ w) → Whole f w
  unfolding all
  beyond b w h = and_right (not (separates f b)) (all (λ (x : ℕ). not (separates f x)) w) h

  last_word : (n : ℕ) (v w : List ℕ) → Whole f w → words_from f n v w ≡ with_word f (last_line n w) (v ++ w) []
  unfolding words_from last_line all
  last_word n v [] h = rw append-nil
  last_word n v (b ∷ w) h =
      rw (inside b w h) (last_word (line_after n b) (v ++ b ∷ []) w (beyond b w h) ∙ ap (λ (l : List ℕ). with_word f (last_line (line_after n b) w) l []) (append_snoc v b w))

  next_word :
      (n b : ℕ) (v w rest : List ℕ) → Whole f w → separates f b ≡ true
      → words_from f n v (w ++ b ∷ rest) ≡ with_word f (last_line n w) (v ++ w) (words_from f (last_line n (w ++ b ∷ [])) [] rest)
  unfolding words_from last_line all
  next_word n b v [] rest h s = rw (s, append-nil)
  next_word n b v (x ∷ w) rest h s =
      rw (inside x w h)
      (next_word (line_after n x) b (v ++ x ∷ []) w rest (beyond x w h) s
      ∙ ap (λ (l : List ℕ). with_word f (last_line (line_after n x) w) l (words_from f (last_line (line_after n x) (w ++ b ∷ [])) [] rest)) (append_snoc v x w))

pub words-claim : (f : Form) → WordsClaim f
words-claim f = record { last = λ n w. last_word f n [] w; next = λ n b w rest. next_word f n b [] w rest }

-- ---- texts of decimals

-- numbers that are read, n of them, in xs
abbrev reading : ℕ → List Float → Result Reading NumbersError
reading n xs = Ok (record { count = n; numbers = xs })

module _ (f : Form) where
  -- n numbers are read, and a word follows
  word_good : (n : ℕ) (xs : List Float) (w : Word) (us : List Word) (v : Float) → n < wanted f → decimal_of w.bytes ≡ Some v
      → after_words f (reading n xs) (w ∷ us) ≡ after_words f (reading (suc n) (set xs n v)) us
  unfolding after_words
  word_good n xs w us v h e = rw (e, lt-ltb n (wanted f) h, add-one)

  over :
      (n : ℕ) (xs : List Float) (ws us : List Word) (vs : List Float) → Values ws vs → n + length vs ≤ wanted f
      → after_words f (reading n xs) (ws ++ us) ≡ after_words f (reading (n + length vs) (sets xs n vs)) us
  unfolding after_words
  over n xs [] us [] e h = rw add-zero
  over n xs [] us (v ∷ vs) e h = absurd (let z = ap length e in omega arith)
  over n xs (w ∷ ws) us [] e h = absurd (let z = ap length e in omega arith)
  over n xs (w ∷ ws) us (v ∷ vs) e h =
      let a : decimal_of w.bytes ≡ Some v = cc in
      let b : Values ws vs = cc in
      let l : n < wanted f = omega arith in
      let k : n + suc (length vs) ≡ suc n + length vs = omega arith in
      word_good n xs w (ws ++ us) v l a
      ∙ over (suc n) (set xs n v) ws us vs b (omega arith)
      ∙ ap (λ (m : ℕ). after_words f (reading m (sets (set xs n v) (suc n) vs)) us) (sym k)

  word-many : (n : ℕ) (xs : List Float) (w : Word) (us : List Word) (v : Float) → n ≡ wanted f → decimal_of w.bytes ≡ Some v
      → after_words f (reading n xs) (w ∷ us) ≡ after_words f (Err (TooMany w.line)) us
  unfolding after_words
  word-many n xs w us v h e = rw (e, le-ltb n (wanted f) (omega arith))

  word-bad : (n : ℕ) (xs : List Float) (w : Word) (us : List Word) → decimal_of w.bytes ≡ None
      → after_words f (reading n xs) (w ∷ us) ≡ after_words f (Err (BadWord w.line)) us
  unfolding after_words
  word-bad n xs w us e = rw e

  -- the values of all the words
  all_read : (t : List ℕ) (vs : List Float) → Values (words_of f t) vs → length vs ≤ wanted f
      → after_words f (Ok none_read) (words_of f t) ≡ reading (length vs) (vs ++ drop (length vs) zeros)
  unfolding after_words
  all_read t vs e h =
      let l = wanted-le f in
      ap (λ (ws : List Word). after_words f (Ok none_read) ws) (sym (append-nil (words_of f t)))
      ∙ over 0 zeros (words_of f t) [] vs e (omega arith)
      ∙ ap₂ reading (zero-add (length vs)) (sets-eq vs zeros 0 (omega arith) ∙ ap (λ (m : ℕ). vs ++ drop m zeros) (zero-add (length vs)))

  module _ (t : List ℕ) where
    read : (vs : List Float) → Values (words_of f t) vs → length vs ≡ wanted f → numbers_of f t ≡ Ok (vs ++ drop (length vs) zeros)
    unfolding numbers_of
    read vs e h = rw (all_read t vs e (omega arith), le-ltb (length vs) (wanted f) (omega arith))

    few : (vs : List Float) → Values (words_of f t) vs → length vs < wanted f → numbers_of f t ≡ refused (TooFew (last_line 1 t))
    unfolding numbers_of
    few vs e h = rw (all_read t vs e (omega arith), lt-ltb (length vs) (wanted f) h)

    many :
        (before after : List Word) (w : Word) (vs : List Float) (v : Float) → words_of f t ≡ before ++ w ∷ after → Values before vs → length vs ≡ wanted f
        → decimal_of w.bytes ≡ Some v → numbers_of f t ≡ refused (TooMany w.line)
    unfolding numbers_of
    many b a w vs v s e h d =
        rw (s, over 0 zeros b (w ∷ a) vs e (omega arith), word-many (0 + length vs) (sets zeros 0 vs) w a v (omega arith) d, stays_refused f (TooMany w.line) a)

    bad :
        (before after : List Word) (w : Word) (vs : List Float) → words_of f t ≡ before ++ w ∷ after → Values before vs → length vs ≤ wanted f
        → decimal_of w.bytes ≡ None → numbers_of f t ≡ refused (BadWord w.line)
    unfolding numbers_of
    bad b a w vs s e h d =
        rw (s, over 0 zeros b (w ∷ a) vs e (omega arith), word-bad (0 + length vs) (sets zeros 0 vs) w a d, stays_refused f (BadWord w.line) a)

pub numbers-claim : (f : Form) (text : List ℕ) → NumbersClaim f text
numbers-claim f t = record { read = read f t; few = few f t; many = many f t; bad = bad f t }
