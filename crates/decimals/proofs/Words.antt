-- The words of a text, and what is read of them, a byte at a time.
use Rattle.std.specs.Prelude.{◌≡◌, ◌∷◌, ◌++◌, ◌≤◌, ◌<◌, ◌+◌, ◌-◌, Result, Ok, Err}
use Rattle.common.specs.Logic.{◌∙◌, sym, ap, refl, true, Bool, false, cond, List, [], ℕ, suc, arith, length, get_or, take, drop, length-drop, le_antisymm}
use Rattle.std.proofs.lemmas.List.{drop_all}
use lib.Seq.{take-suc, get_or-drop}
use Rattle.decimals.specs.Numbers.{wanted, separates, is_word, line_after, last_line, Word, with_word, words_from, words_of, none_read, after_words, at_end, numbers_of}
use Rattle.decimals.specs.declared.Form.{Form}
use Rattle.decimals.specs.declared.Form.TheVariants.{Pose, Shift}
use Rattle.decimals.specs.declared.NumbersError.{NumbersError}
use Rattle.decimals.specs.declared.Reading.{Reading}
use Rattle.decimals.proofs.Texts.{rest}

pub wanted-le : (f : Form) → wanted f ≤ 12
wanted-le Pose = omega arith
wanted-le Shift = omega arith

-- ---- one word

-- after a refusal nothing changes
pub stays_refused : (f : Form) (e : NumbersError) (ws : List Word) → after_words f (Err e) ws ≡ Err e
unfolding after_words
stays_refused f e [] = refl
stays_refused f e (w ∷ ws) = stays_refused f e ws

module _ (f : Form) (r : Result Reading NumbersError) (n : ℕ) (w : List ℕ) where
  -- a word, and then the others
  then-others : (ws : List Word) → after_words f r (with_word f n w ws) ≡ after_words f (after_words f r (with_word f n w [])) ws
  unfolding after_words with_word
  then-others ws = go (is_word f (length w))
    where
      go : (b : Bool) → let x : Word = record { bytes = w; line = n } in after_words f r (cond b (x ∷ ws) ws) ≡ after_words f (after_words f r (cond b (x ∷ []) [])) ws
      go true = refl
      go false = refl

-- ---- one byte more

module _ (t : List ℕ) (i : ℕ) (H : i < length t) where
  pub word-ends :
      (f : Form) (r q : Result Reading NumbersError) (n : ℕ) (w : List ℕ) → separates f (get_or t i 0) ≡ true → q ≡ after_words f r (with_word f n w [])
      → after_words f r (words_from f n w (drop i t)) ≡ after_words f q (words_from f (line_after n (get_or t i 0)) [] (drop (i + 1) t))
  unfolding words_from
  word-ends f r q n w h e = rw (rest t i H, h, then-others f r n w, e)

  pub word-goes-on :
      (f : Form) (r : Result Reading NumbersError) (n : ℕ) (w : List ℕ) → separates f (get_or t i 0) ≡ false
      → after_words f r (words_from f n w (drop i t)) ≡ after_words f r (words_from f (line_after n (get_or t i 0)) (w ++ (get_or t i 0 ∷ [])) (drop (i + 1) t))
  unfolding words_from
  word-goes-on f r n w h = rw (rest t i H, h)

  pub line-goes-on : (n : ℕ) → last_line n (drop i t) ≡ last_line (line_after n (get_or t i 0)) (drop (i + 1) t)
  unfolding last_line
  line-goes-on n = rw (rest t i H)

  -- the word that begins at s
  pub word-longer : (s : ℕ) → s ≤ i → take (i - s) (drop s t) ++ (get_or t i 0 ∷ []) ≡ take (i + 1 - s) (drop s t)
  word-longer s h =
      let a : i + 1 - s ≡ suc (i - s) = omega arith in
      let b : s + (i - s) ≡ i = omega arith in
      let l : i - s < length (drop s t) = simp length-drop (omega arith) in
      let e : get_or (drop s t) (i - s) 0 ≡ get_or t i 0 = get_or-drop s t (i - s) 0 ∙ ap (λ (j : ℕ). get_or t j 0) b in
      sym (ap (λ (j : ℕ). take j (drop s t)) a ∙ take-suc (drop s t) (i - s) 0 l ∙ ap (λ (x : ℕ). take (i - s) (drop s t) ++ (x ∷ [])) e)

-- ---- one turn of the loop: r and n are the reading and the line so far, s is where the word begins, and whole and last are those of the whole text

-- what is kept
abbrev pub Kept : Form → List ℕ → Result Reading NumbersError → ℕ → ℕ → Reading → ℕ → ℕ → Type 0
Kept f t whole last i r n s =
    (i ≤ length t) × (s ≤ i) × (n ≤ i + 1) × (last ≡ last_line n (drop i t))
    × (whole ≡ after_words f (Ok r) (words_from f n (take (i - s) (drop s t)) (drop i t)))

module _ (f : Form) (t : List ℕ) (whole : Result Reading NumbersError) (last i : ℕ) (r r' : Reading) (n n' s s' : ℕ) where
  pub at-separator :
      i < length t → Kept f t whole last i r n s → (n' ≡ line_after n (get_or t i 0)) × (n' ≤ n + 1) → separates f (get_or t i 0) ≡ true
      → Ok r' ≡ after_words f (Ok r) (with_word f n (take (i - s) (drop s t)) []) → s' ≡ i + 1 → Kept f t whole last (i + 1) r' n' s'
  at-separator h k l b q e =
      let z : i + 1 - s' ≡ 0 = omega arith in
      let none_yet : take (i + 1 - s') (drop s' t) ≡ [] = ap (λ (j : ℕ). take j (drop s' t)) z in (
        omega arith,
        omega arith,
        omega arith,
        k.3 ∙ line-goes-on t i h n ∙ ap (λ (j : ℕ). last_line j (drop (i + 1) t)) (sym l.0),
        rw (none_yet, l.0) (k.4 ∙ word-ends t i h f (Ok r) (Ok r') n _ b q),
      )

  pub elsewhere :
      i < length t → Kept f t whole last i r n s → (n' ≡ line_after n (get_or t i 0)) × (n' ≤ n + 1) → separates f (get_or t i 0) ≡ false
      → r' ≡ r → s' ≡ s → Kept f t whole last (i + 1) r' n' s'
  elsewhere h k l b q e = (
    omega arith,
    omega arith,
    omega arith,
    k.3 ∙ line-goes-on t i h n ∙ ap (λ (j : ℕ). last_line j (drop (i + 1) t)) (sym l.0),
    rw (e, q, l.0, ← word-longer t i h s k.1) (k.4 ∙ word-goes-on t i h f (Ok r) n _ b),
  )

-- the word at a separator is refused
pub refused_here :
    (f : Form) (t : List ℕ) (whole : Result Reading NumbersError) (last i : ℕ) (r : Reading) (n s : ℕ) (e : NumbersError) → i < length t
    → Kept f t whole last i r n s → separates f (get_or t i 0) ≡ true → Err e ≡ after_words f (Ok r) (with_word f n (take (i - s) (drop s t)) []) → whole ≡ Err e
refused_here f t whole last i r n s e h k b q = k.4 ∙ word-ends t i h f (Ok r) (Err e) n _ b q ∙ stays_refused f e _

-- ---- the whole text

module _ (f : Form) (t : List ℕ) where
  pub refused_so : (e : NumbersError) → after_words f (Ok none_read) (words_of f t) ≡ Err e → Err e ≡ numbers_of f t
  unfolding numbers_of
  refused_so e h = rw h

  module _ (r : Reading) (q : Result Reading NumbersError) (n i s : ℕ) (I : i ≤ length t) (J : length t ≤ i) where
    -- the last word is read so
    pub last_read :
        after_words f (Ok none_read) (words_of f t) ≡ after_words f (Ok r) (words_from f n (take (i - s) (drop s t)) (drop i t))
        → q ≡ after_words f (Ok r) (with_word f n (take (length t - s) (drop s t)) []) → after_words f (Ok none_read) (words_of f t) ≡ q
    unfolding words_from
    last_read w Q =
        let e : drop i t ≡ [] = drop_all i t J in
        let k : i ≡ length t = le_antisymm I J in
        (rw (e, k) at w) ∙ sym Q

    pub numbers-end :
        last_line 1 t ≡ last_line n (drop i t)
        → after_words f (Ok none_read) (words_of f t) ≡ after_words f (Ok r) (words_from f n (take (i - s) (drop s t)) (drop i t))
        → q ≡ after_words f (Ok r) (with_word f n (take (length t - s) (drop s t)) []) → at_end f n q ≡ numbers_of f t
    unfolding numbers_of last_line
    numbers-end l w Q =
        let e : drop i t ≡ [] = drop_all i t J in
        let L : last_line 1 t ≡ n = rw e at l in
        rw (L, last_read w Q)
