-- Laws of `specs.Refusal`: what passing all lines says, and how the answer to some lines goes on with later ones.
use Rattle.std.specs.Prelude.{◌≡◌, ◌&&◌, ◌∷◌, ◌++◌, ◌⊎◌, Result, Ok, Err, is_ok}
use Rattle.common.specs.Logic.{◌∙◌, sym, ap, refl, subst, true, Bool, false, not, List, [], flat_map, ⊎_elim, inl, inr, ℕ, arith, not-true}
use Rattle.common.specs.Lists.{all}
use Rattle.std.specs.Result.{result_and}
use Rattle.common.specs.declared.Refusal.{Refusal}
use Rattle.common.specs.Refusal.{answered, outcome_of, Line, line, Outcome, got, refused, answer, outcome, check, answer_of, left_by, and_then, not_holding, passes, accepts, line_answer, or_else}
use Rattle.common.specs.Refusal.{Answer, Accepted, Refused}
use Rattle.common.proofs.Lists.{and_left, and_right, clash, all_append, decide}

-- the line's number passes the test
unfoldable pub numbered : (ℕ → Bool) → Line → Bool
numbered p l = p l.number

-- the inversion: where a list of lines passes, its first line does not hold, and the rest passes
pub passes-cons : (n : ℕ) (b : Bool) (ls : List Line) → passes (line n b ∷ ls) ≡ true → (b ≡ false) × (passes ls ≡ true)
unfolding passes all not_holding
passes-cons n b ls h = (not-true b (and_left (not b) (passes ls) h), and_right (not b) (passes ls) h)

pub passes_append : (ls ms : List Line) → passes (ls ++ ms) ≡ (passes ls && passes ms)
unfolding passes
passes_append ls ms = all_append not_holding ls ms

-- the lines of each element in turn
pub passes-flat_map : {A : Type 0} (f : A → List Line) (p : A → Bool) (xs : List A) → ((x : A) → passes (f x) ≡ p x) → passes (flat_map f xs) ≡ all p xs
unfolding flat_map all passes
passes-flat_map f p [] h = refl
passes-flat_map f p (x ∷ xs) h = passes_append (f x) (flat_map f xs) ∙ rw (h x, passes-flat_map f p xs h)

pub accepts-passes : (ls : List Line) → accepts (answer ls) ≡ passes ls
unfolding answer passes all not_holding
accepts-passes [] = refl
accepts-passes (l ∷ ls) = ⊎_elim (λ e. rw e) (λ e. rw e (accepts-passes ls)) (decide l.holds)

pub accepted : (a : Answer) → accepts a ≡ true → a ≡ Accepted
accepted Accepted h = refl
accepted (Refused n) h = absurd (let z : ◌≡◌ {A = ℕ} 0 1 = cc in omega arith)

pub passes-accepted : (ls : List Line) → passes ls ≡ true → answer ls ≡ Accepted
passes-accepted ls h = accepted (answer ls) (accepts-passes ls ∙ h)

pub accepted-passes : (ls : List Line) → answer ls ≡ Accepted → passes ls ≡ true
accepted-passes ls h = sym (accepts-passes ls) ∙ rw h

-- some lines, and then later ones
pub answer-append : (ls ms : List Line) → answer (ls ++ ms) ≡ or_else (answer ls) (answer ms)
unfolding answer or_else
answer-append [] ms = refl
answer-append (l ∷ ls) ms = ⊎_elim (λ e. rw e) (λ e. rw e (answer-append ls ms)) (decide l.holds)

-- lines told one after the other, as a chain of `line`s tells them
unfoldable pub line_by_line : Answer → List Line → Answer
line_by_line a [] = a
line_by_line a (l ∷ ls) = line_by_line (or_else a (line_answer l.number l.holds)) ls

refusal-stays : (n : ℕ) (ls : List Line) → line_by_line (Refused n) ls ≡ Refused n
unfolding line_by_line or_else
refusal-stays n [] = refl
refusal-stays n (l ∷ ls) = refusal-stays n ls

pub line-by-line : (a : Answer) (ls : List Line) → line_by_line a ls ≡ or_else a (answer ls)
unfolding line_by_line answer or_else
line-by-line (Refused n) ls = refusal-stays n ls
line-by-line Accepted [] = refl
line-by-line Accepted (l ∷ ls) = ⊎_elim (λ e. rw e (refusal-stays l.number ls)) (λ e. rw e (line-by-line Accepted ls)) (decide l.holds)

-- a refusal stands, whatever comes later
pub refused-number : (a : Answer) → accepts a ≡ false → (n : ℕ) × (a ≡ Refused n)
refused-number Accepted h = clash refl h
refused-number (Refused n) h = (n, refl)

pub refused-else : {a : Answer} (b : Answer) {n : ℕ} → a ≡ Refused n → or_else a b ≡ Refused n
unfolding or_else
refused-else b h = rw h

pub answer-stands : (ls ms : List Line) → accepts (answer ls) ≡ false → answer ls ≡ answer (ls ++ ms)
answer-stands ls ms h = let k = refused-number (answer ls) h in k.1 ∙ sym (answer-append ls ms ∙ refused-else (answer ms) k.1)

-- a line whose number is not the answer does not hold
pub refused-cons : (m : ℕ) (b : Bool) (ls : List Line) {n : ℕ} → answer (line m b ∷ ls) ≡ Refused n → (m ≡ n → ⊥) → (b ≡ false) × (answer ls ≡ Refused n)
unfolding answer
refused-cons m true ls {n} h k = absurd (k (cc))
refused-cons m false ls {n} h k = (refl, h)

-- a number that is answered is one of the lines'
pub answer-number : (p : ℕ → Bool) (ls : List Line) {n : ℕ} → all (numbered p) ls ≡ true → answer ls ≡ Refused n → p n ≡ true
unfolding answer all numbered
answer-number p [] h e = absurd (let z : ◌≡◌ {A = ℕ} 0 1 = cc in omega arith)
answer-number p (l ∷ ls) {n} h e =
    ⊎_elim
    (λ t. let q : Refused l.number ≡ Refused n = rw t at e in let r : l.number ≡ n = cc in subst (λ (k : ℕ). p k ≡ true) r (and_left (p l.number) (all (numbered p) ls) h))
    (λ t. answer-number p ls (and_right (p l.number) (all (numbered p) ls) h) (rw t at e)) (decide l.holds)

pub check-refused : {X : Type 0} (ls : List Line) (x : X) {n : ℕ} → check ls x ≡ refused n → answer ls ≡ Refused n
unfolding check outcome
check-refused ls x {n} h = go (answer ls) h
  where
    go : (a : Answer) → outcome a x ≡ refused n → a ≡ Refused n
    go Accepted e = absurd (let z : ◌≡◌ {A = ℕ} 0 1 = cc in omega arith)
    go (Refused k) e = cc

-- a value was got: no line holds, and it is the call's
pub check-got : {X : Type 0} (ls : List Line) (x y : X) → check ls x ≡ got y → (passes ls ≡ true) × (x ≡ y)
unfolding check outcome
check-got ls x y h = go (answer ls) refl h
  where
    go : (a : Answer) → answer ls ≡ a → outcome a x ≡ got y → (passes ls ≡ true) × (x ≡ y)
    go Accepted e k = (accepted-passes ls e, (cc))
    go (Refused n) e k = absurd (let z : ◌≡◌ {A = ℕ} 0 1 = cc in omega arith)

-- ---- what a call answers and leaves

module _ {X : Type 0} (ls : List Line) (x : X) where
  pub answer-of-check : answer ls ≡ answer_of (check ls x)
  unfolding check outcome answer_of
  answer-of-check = go (answer ls)
    where
      go : (a : Answer) → a ≡ answer_of (outcome a x)
      go Accepted = refl
      go (Refused n) = refl

  pub left-accepted : (before : X) → answer ls ≡ Accepted → left_by before (check ls x) ≡ x
  unfolding check outcome left_by
  left-accepted before h = rw h

  pub left-refused : (before : X) {n : ℕ} → answer ls ≡ Refused n → left_by before (check ls x) ≡ before
  unfolding check outcome left_by
  left-refused before h = rw h

-- an answer says what was given
module _ {X : Type 0} where
  pub answer-refused : (o : Outcome X) {a : Answer} {n : ℕ} → a ≡ answer_of o → a ≡ Refused n → o ≡ refused n
  unfolding answer_of
  answer-refused (got x) e h = absurd (let z : ◌≡◌ {A = ℕ} 0 1 = cc in omega arith)
  answer-refused (refused m) e h = cc

  pub answer-got : (o : Outcome X) {a : Answer} → a ≡ answer_of o → a ≡ Accepted → (x : X) × (o ≡ got x)
  unfolding answer_of
  answer-got (got x) e h = (x, refl)
  answer-got (refused m) e h = absurd (let z : ◌≡◌ {A = ℕ} 0 1 = cc in omega arith)

-- ---- a record that hands back an outcome

-- from the record handed back and the answer in it, what the outcome was: h is the record for each outcome, and ans its answer
module _ {A R : Type 0} (h : Outcome A → R) (ans : R → Answer) (yes : (x : A) → ans (h (got x)) ≡ Accepted) (no : (n : ℕ) → ans (h (refused n)) ≡ Refused n) where
  told : (o : Outcome A) → ans (h o) ≡ answer_of o
  unfolding answer_of
  told (got x) = yes x
  told (refused n) = no n

  pub outcome-got : (r : R) (o : Outcome A) → r ≡ h o → ans r ≡ Accepted → (x : A) × (o ≡ got x) × (r ≡ h (got x))
  outcome-got r o e a = let g = answer-got o (ap ans e ∙ told o) a in (g.0, g.1, e ∙ ap h g.1)

  pub outcome-refused : (r : R) (o : Outcome A) {n : ℕ} → r ≡ h o → ans r ≡ Refused n → o ≡ refused n
  outcome-refused r o e a = answer-refused o (ap ans e ∙ told o) a

-- ---- one line

pub check-holds : {X : Type 0} (n : ℕ) (x : X) {b : Bool} → b ≡ true → check (line n b ∷ []) x ≡ refused n
unfolding check answer outcome
check-holds n x h = rw h

pub check-passes : {X : Type 0} (n : ℕ) (x : X) {b : Bool} → b ≡ false → check (line n b ∷ []) x ≡ got x
unfolding check answer outcome
check-passes n x h = rw h

-- ---- and_then

module _ {X Y : Type 0} (f : X → Outcome Y) where
  pub then-got : {o : Outcome X} {x : X} → o ≡ got x → and_then o f ≡ f x
  unfolding and_then
  then-got h = rw h

  pub then-refused : {o : Outcome X} {n : ℕ} → o ≡ refused n → and_then o f ≡ refused n
  unfolding and_then
  then-refused h = rw h

  -- a value was got: there was one before
  pub got-then : (o : Outcome X) {y : Y} → and_then o f ≡ got y → (x : X) × (o ≡ got x) × (f x ≡ got y)
  unfolding and_then
  got-then (got x) h = (x, refl, h)
  got-then (refused n) h = absurd (let z : ◌≡◌ {A = ℕ} 0 1 = cc in omega arith)

  -- a refusal is the first one's, or that of what follows
  pub refused-then : (o : Outcome X) {n : ℕ} → and_then o f ≡ refused n → (o ≡ refused n) ⊎ ((x : X) × (o ≡ got x) × (f x ≡ refused n))
  unfolding and_then
  refused-then (got x) h = inr (x, refl, h)
  refused-then (refused m) h = inl (cc)

pub then-assoc : {X Y Z : Type 0} (o : Outcome X) (f : X → Outcome Y) (g : Y → Outcome Z) → and_then (and_then o f) g ≡ and_then o (λ x. and_then (f x) g)
unfolding and_then
then-assoc (got x) f g = refl
then-assoc (refused n) f g = refl

-- ---- results of the code

-- a result's answer is that of its outcome
pub answered-outcome : {X : Type 0} (r : Result X Refusal) → answered r ≡ answer_of (outcome_of r)
unfolding answer_of
answered-outcome (Ok x) = refl
answered-outcome (Err r) = refl

answer-of-outcome : {X : Type 0} (a : Answer) (x : X) → answer_of (outcome a x) ≡ a
unfolding answer_of outcome
answer-of-outcome Accepted x = refl
answer-of-outcome (Refused n) x = refl

-- the answer of a result that gives a value where no line holds
pub answered-check : {X : Type 0} (r : Result X Refusal) (ls : List Line) (x : X) → outcome_of r ≡ check ls x → answered r ≡ answer ls
unfolding check
answered-check r ls x e = answered-outcome r ∙ ap answer_of e ∙ answer-of-outcome (answer ls) x

-- no refusal, as the library's test tells it
pub ok-accepts : {X : Type 0} (r : Result X Refusal) → is_ok r ≡ accepts (answered r)
ok-accepts (Ok x) = refl
ok-accepts (Err r) = refl

-- one result, and then a later one
pub answered-and : {X Y : Type 0} (r : Result X Refusal) (s : Result Y Refusal) → answered (result_and r s) ≡ or_else (answered r) (answered s)
unfolding or_else
answered-and (Ok x) s = refl
answered-and (Err e) s = refl
