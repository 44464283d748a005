-- Laws of the words after a command's name.
use Rattle.std.specs.Prelude.{◌≡◌, ◌||◌, ◌∷◌, ◌≤◌, ◌<◌, ◌+◌}
use Rattle.common.specs.Logic.{◌∙◌, sym, ap, ap₂, refl, true, Bool, false, cond, not, List, [], ⊎_elim, eqb, length, ℕ, suc, arith, add-zero, lt-ltb, le-ltb, eq-eqb, ne_eqb, eqb-true}
use Rattle.common.specs.Ascii.{ascii}
use Rattle.common.specs.Lists.{all}
use Rattle.common.proofs.Lists.{and_left, and_right, clash, decide, order}
use Rattle.usage.specs.Claims.{is_operand, are_operands}
use Rattle.usage.specs.Usage.{is_text, word_of, start, read, one_more, in_command, after, completed, complete, after_all}
use Rattle.usage.specs.declared.Request.{Request}
use Rattle.usage.specs.declared.Task.{Task}
use Rattle.usage.specs.declared.Task.TheVariants.{Wrong}
use Rattle.usage.specs.declared.Word.{Word}
use Rattle.usage.specs.declared.Word.TheVariants.{Name, HelpOption, VersionOption, SourceColumns, TargetColumns, FailIfLost, OptionsEnd, StandardInput, UnknownOption, Other}
use Rattle.usage.proofs.Tasks.{Passed, never}
use Rattle.usage.proofs.Words.{is_dash, asks_operand, operand-means, dash-means, end-means}

-- ---- one word

module _ (m : ℕ) (h : Task) (r : Request) where
  -- an operand
  more : (e : Bool) (x : Word) → asks_operand e x ≡ true → in_command m h r (read e x) ≡ one_more m r
  more true (Name n) a = refl
  more true HelpOption a = refl
  more true VersionOption a = refl
  more true SourceColumns a = refl
  more true TargetColumns a = refl
  more true FailIfLost a = refl
  more true OptionsEnd a = refl
  more true StandardInput a = clash a refl
  more true UnknownOption a = refl
  more true Other a = refl
  more false (Name n) a = refl
  more false HelpOption a = clash a refl
  more false VersionOption a = clash a refl
  more false SourceColumns a = clash a refl
  more false TargetColumns a = clash a refl
  more false FailIfLost a = clash a refl
  more false OptionsEnd a = clash a refl
  more false StandardInput a = clash a refl
  more false UnknownOption a = clash a refl
  more false Other a = refl

  -- the first operand
  more-first : r.operands ≡ 0 → (e : Bool) (x : Word) → (is_dash x || asks_operand e x) ≡ true → in_command m h r (read e x) ≡ one_more m r
  more-first z e (Name n) a = more e (Name n) a
  more-first z e HelpOption a = more e HelpOption a
  more-first z e VersionOption a = more e VersionOption a
  more-first z e SourceColumns a = more e SourceColumns a
  more-first z e TargetColumns a = more e TargetColumns a
  more-first z e FailIfLost a = more e FailIfLost a
  more-first z e OptionsEnd a = more e OptionsEnd a
  more-first z true StandardInput a = rw (eq-eqb r.operands 0 z)
  more-first z false StandardInput a = rw (eq-eqb r.operands 0 z)
  more-first z e UnknownOption a = more e UnknownOption a
  more-first z e Other a = more e Other a

  -- no operand, after one
  no_more : eqb r.operands 0 ≡ false → (e : Bool) (x : Word) → asks_operand e x ≡ false → in_command m h r (read e x) ≡ start Wrong
  no_more z true (Name n) a = clash refl a
  no_more z true HelpOption a = clash refl a
  no_more z true VersionOption a = clash refl a
  no_more z true SourceColumns a = clash refl a
  no_more z true TargetColumns a = clash refl a
  no_more z true FailIfLost a = clash refl a
  no_more z true OptionsEnd a = clash refl a
  no_more z true StandardInput a = rw z
  no_more z true UnknownOption a = clash refl a
  no_more z true Other a = clash refl a
  no_more z false (Name n) a = clash refl a
  no_more z false HelpOption a = rw z
  no_more z false VersionOption a = refl
  no_more z false SourceColumns a = rw z
  no_more z false TargetColumns a = rw z
  no_more z false FailIfLost a = rw z
  no_more z false OptionsEnd a = rw z
  no_more z false StandardInput a = rw z
  no_more z false UnknownOption a = refl
  no_more z false Other a = clash refl a

-- ---- the words of a command that has m operands, and asks for t

-- t with k operands
abbrev pub at : Task → ℕ → Bool → Request
at t k e = record { task = t; operands = k; options_ended = e }

-- an option of convert
abbrev pub of_convert : Word → Bool
of_convert (Name n) = false
of_convert HelpOption = false
of_convert VersionOption = false
of_convert SourceColumns = true
of_convert TargetColumns = true
of_convert FailIfLost = true
of_convert OptionsEnd = false
of_convert StandardInput = false
of_convert UnknownOption = false
of_convert Other = false

or-not : (b : Bool) → (b || not b) ≡ true
or-not true = refl
or-not false = refl

pub record IsCommand (t h : Task) (m : ℕ) (p : Task → Bool) : Type 0 where
  pub some : 0 < m
  pub step : (k : ℕ) (e : Bool) (x : Word) → after (at t k e) x ≡ in_command m h (at t k e) (read e x)
  pub done : (k : ℕ) → completed t k ≡ cond (eqb k m) t Wrong
  pub passed : Passed p
  pub passes : p h ≡ true

-- the words after the name are operands, after -- or without it
pub record Rest (m : ℕ) (ws : List (List ℕ)) : Type 0 where
  pub ended : Bool
  pub operands : List (List ℕ)
  pub words : ws ≡ cond ended (ascii "--" ∷ operands) operands
  pub right : are_operands ended operands ≡ true
  pub number : length operands ≡ m

module _ (t h : Task) (m : ℕ) (p : Task → Bool) (command : IsCommand t h m p) where
  final : Request → List (List ℕ) → Task
  final r ws = complete (after_all r ws)

  carried : (ws : List (List ℕ)) {r s : Request} → r ≡ s → final r ws ≡ final s ws
  carried ws e = ap (λ (r : Request). final r ws) e

  -- t where k is the number, else wrong usage
  abbrev if_full : ℕ → Task
  if_full k = cond (eqb k m) t Wrong

  stays-wrong : (ws : List (List ℕ)) → final (start Wrong) ws ≡ Wrong
  unfolding final after_all
  stays-wrong [] = refl
  stays-wrong (w ∷ ws) = stays-wrong ws

  -- what is asked for fails the test, as t does
  Asked : Request → List (List ℕ) → Type 0
  Asked r ws = p (final r ws) ≡ false

  carry : (ws : List (List ℕ)) {r s : Request} → r ≡ s → Asked r ws → Asked s ws
  unfolding Asked
  carry ws e a = sym (ap p (carried ws e)) ∙ a

  not-wrong : {P : Type 0} (ws : List (List ℕ)) → Asked (start Wrong) ws → P
  unfolding final Asked
  not-wrong ws e = never p command.passed (start Wrong) ws command.passed.wrong e

  module _ (e : Bool) (w : List ℕ) (k : ℕ) where
    turn : is_operand e w ≡ true → after (at t k e) (word_of w) ≡ one_more m (at t k e)
    turn a = command.step k e (word_of w) ∙ more m h (at t k e) e (word_of w) (sym (operand-means e w) ∙ a)

    turn_below : k < m → is_operand e w ≡ true → after (at t k e) (word_of w) ≡ at t (k + 1) e
    turn_below l a = turn a ∙ rw (lt-ltb k m l)

    turn-above : m ≤ k → is_operand e w ≡ true → after (at t k e) (word_of w) ≡ start Wrong
    turn-above l a = turn a ∙ rw (le-ltb k m l)

    turn-wrong : 0 < k → is_operand e w ≡ false → after (at t k e) (word_of w) ≡ start Wrong
    turn-wrong l a =
        command.step k e (word_of w) ∙ no_more m h (at t k e) (ne_eqb k 0 (λ z. omega arith)) e (word_of w) (sym (operand-means e w) ∙ a)

  turn-first : (e : Bool) (w : List ℕ) → (is_text "-" w || is_operand e w) ≡ true → after (at t 0 e) (word_of w) ≡ at t 1 e
  turn-first e w a =
      command.step 0 e (word_of w)
      ∙ more-first m h (at t 0 e) refl e (word_of w) (sym (ap₂ ◌||◌ (dash-means w) (operand-means e w)) ∙ a)
      ∙ rw (lt-ltb 0 m command.some)

  counted : (k : ℕ) (e : Bool) (ws : List (List ℕ)) → k ≤ m → all (is_operand e) ws ≡ true → final (at t k e) ws ≡ if_full (k + length ws)
  unfolding final after_all all
  counted k e [] l a = command.done k ∙ ap if_full (sym (add-zero k))
  counted k e (w ∷ ws) l a =
      let o = and_left (is_operand e w) (all (is_operand e) ws) a in
      ⊎_elim
      (λ (g : m ≤ k). carried ws (turn-above e w k g o) ∙ stays-wrong ws ∙ sym (rw (ne_eqb (k + suc (length ws)) m (λ z. omega arith))))
      (λ (g : k < m).
      let b = counted (k + 1) e ws (omega arith) (and_right (is_operand e w) (all (is_operand e) ws) a) in
      carried ws (turn_below e w k g o) ∙ b ∙ ap if_full (omega arith))
      (order m k)

  pub counted-first : (e : Bool) (ws : List (List ℕ)) → are_operands e ws ≡ true → complete (after_all (at t 0 e) ws) ≡ cond (eqb (length ws) m) t Wrong
  unfolding final after_all are_operands
  counted-first e [] a = command.done 0
  counted-first e (w ∷ ws) a =
      carried ws (turn-first e w (and_left _ _ a)) ∙ counted 1 e ws command.some (and_right (is_text "-" w || is_operand e w) _ a)
      ∙ ap if_full (omega arith)

  -- ---- and only such words ask for t, or for another task that fails the test

  full : (k : ℕ) → p (completed t k) ≡ false → k ≡ m
  full k a =
      ⊎_elim (λ b. eqb-true k m b)
      (λ b. clash command.passed.wrong (sym (ap p (command.done k ∙ rw b)) ∙ a))
      (decide (eqb k m))

  only-more : (k : ℕ) (e : Bool) (ws : List (List ℕ)) → 0 < k → Asked (at t k e) ws → (k + length ws ≡ m) × (all (is_operand e) ws ≡ true)
  unfolding final Asked after_all all
  only-more k e [] l a = (add-zero k ∙ full k a, refl)
  only-more k e (w ∷ ws) l a =
      ⊎_elim
      (λ o.
      ⊎_elim
      (λ (g : m ≤ k). not-wrong ws (carry ws (turn-above e w k g o) a))
      (λ (g : k < m).
      let b = only-more (k + 1) e ws (omega arith) (carry ws (turn_below e w k g o) a) in
      (omega (arith, b.0), rw o b.1))
      (order m k))
      (λ o. not-wrong ws (carry ws (turn-wrong e w k l o) a))
      (decide (is_operand e w))

  only-first :
      (e : Bool) (w : List ℕ) (ws : List (List ℕ)) → (is_text "-" w || is_operand e w) ≡ true
      → Asked (after (at t 0 e) (word_of w)) ws → (are_operands e (w ∷ ws) ≡ true) × (suc (length ws) ≡ m)
  unfolding are_operands
  only-first e w ws o a =
      let b = only-more 1 e ws (omega arith) (carry ws (turn-first e w o) a) in
      (rw (o, b.1), omega (arith, b.0))

  only-ended : (ws : List (List ℕ)) → Asked (at t 0 true) ws → (are_operands true ws ≡ true) × (length ws ≡ m)
  unfolding final Asked after_all is_operand
  only-ended [] a = absurd (let z : 0 ≡ m = full 0 a in omega (arith, z, command.some))
  only-ended (w ∷ ws) a = only-first true w ws (or-not (is_text "-" w)) a

  plain :
      (w : List ℕ) (ws : List (List ℕ)) → (is_text "-" w || is_operand false w) ≡ true
      → Asked (after (at t 0 false) (word_of w)) ws → Rest m (w ∷ ws)
  plain w ws o a = let b = only-first false w ws o a in record { ended = false; operands = w ∷ ws; words = refl; right = b.0; number = b.1 }

  first_step : (w : List ℕ) (ws : List (List ℕ)) (x : Word) → word_of w ≡ x → Asked (after (at t 0 false) (word_of w)) ws → Asked (in_command m h (at t 0 false) x) ws
  first_step w ws x i a = carry ws (ap (after (at t 0 false)) i ∙ command.step 0 false x) a

  -- by the meaning of the first word after the name, which is no option of convert
  by_word :
      (w : List ℕ) (ws : List (List ℕ)) (x : Word) → word_of w ≡ x → of_convert x ≡ false
      → Asked (after (at t 0 false) (word_of w)) ws → Rest m (w ∷ ws)
  unfolding final Asked
  by_word w ws (Name n) i c a = plain w ws (rw (dash-means w, operand-means false w, i)) a
  by_word w ws HelpOption i c a = never p command.passed (start h) ws command.passes (first_step w ws HelpOption i a)
  by_word w ws VersionOption i c a = not-wrong ws (first_step w ws VersionOption i a)
  by_word w ws SourceColumns i c a = clash refl c
  by_word w ws TargetColumns i c a = clash refl c
  by_word w ws FailIfLost i c a = clash refl c
  by_word w ws OptionsEnd i c a =
      let b = only-ended ws (first_step w ws OptionsEnd i a) in
      record { ended = true; operands = ws; words = rw (end-means w i); right = b.0; number = b.1 }
  by_word w ws StandardInput i c a = plain w ws (rw (dash-means w, i)) a
  by_word w ws UnknownOption i c a = not-wrong ws (first_step w ws UnknownOption i a)
  by_word w ws Other i c a = plain w ws (rw (dash-means w, operand-means false w, i)) a

  pub only : (w : List ℕ) (ws : List (List ℕ)) → of_convert (word_of w) ≡ false → p (complete (after_all (at t 0 false) (w ∷ ws))) ≡ false → Rest m (w ∷ ws)
  unfolding final Asked after_all
  only w ws c a = by_word w ws (word_of w) refl c a

  pub not_none : {P : Type 0} → p (complete (at t 0 false)) ≡ false → P
  not_none a = absurd (let z : 0 ≡ m = full 0 a in omega (arith, z, command.some))
