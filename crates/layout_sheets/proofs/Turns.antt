-- Laws of `in_turn`: one call more, a refusal that stops, and what each call keeps; and of a loop over the elements of a list.
use Rattle.std.specs.Prelude.{◌≡◌, ◌∷◌, ◌++◌, ◌<◌, ◌+◌}
use Rattle.common.specs.Logic.{◌∙◌, sym, ap, refl, subst, arith, List, [], ℕ, length, get_or, take, drop}
use native.Mathlib.Numerals.{add-one}
use lib.Seq.{take-suc}
use Rattle.std.proofs.Common.{drop-cons}
use Rattle.std.proofs.lemmas.List.{take-append-drop, length-take-le}
use Rattle.common.specs.Refusal.{Outcome, got, refused, and_then}
use Rattle.common.proofs.Refusals.{got-then}
use Rattle.layout_sheets.specs.Sheet.{in_turn}

-- ---- the elements before a place

module _ {A : Type 0} (xs : List A) (i : ℕ) (d : A) (l : i < length xs) where
  pub take-more : take (i + 1) xs ≡ take i xs ++ (get_or xs i d ∷ [])
  take-more = rw add-one (take-suc xs i d l)

  pub take-split : xs ≡ take i xs ++ (get_or xs i d ∷ drop (i + 1) xs)
  take-split = sym (take-append-drop i xs) ∙ ap (λ (ys : List A). take i xs ++ ys) (rw add-one (drop-cons xs i d l))

pub take-length : {A : Type 0} (xs : List A) (i : ℕ) → i < length xs → length (take i xs) ≡ i
take-length xs i l = length-take-le i xs (omega arith)

-- ---- call by call

module _ {X A : Type 0} (f : X → A → Outcome X) where
  then_same : (o : Outcome X) → and_then o (λ x. got x) ≡ o
  unfolding and_then
  then_same (got x) = refl
  then_same (refused n) = refl

  -- after those that were accepted, the rest goes on
  turn-append : (x : X) (xs ys : List A) {y : X} → in_turn f x xs ≡ got y → in_turn f x (xs ++ ys) ≡ in_turn f y ys
  unfolding in_turn and_then
  turn-append x [] ys {y} h = let e : x ≡ y = cc in rw e
  turn-append x (a ∷ xs) ys {y} h =
      let g = got-then _ (f x a) h in
      rw g.1 (turn-append g.0 xs ys g.2)

  pub turn_more : (x : X) (xs : List A) (a : A) {y : X} → in_turn f x xs ≡ got y → in_turn f x (xs ++ (a ∷ [])) ≡ f y a
  unfolding in_turn
  turn_more x xs a {y} h = rw (turn-append x xs (a ∷ []) h) (then_same (f y a))

  pub turn-stops : (x : X) (xs : List A) (a : A) (rest : List A) {y : X} {n : ℕ} → in_turn f x xs ≡ got y → f y a ≡ refused n → in_turn f x (xs ++ (a ∷ rest)) ≡ refused n
  unfolding in_turn and_then
  turn-stops x xs a rest h e = rw (turn-append x xs (a ∷ rest) h, e)

  -- what holds at the start and is kept by each call holds at the end
  pub turn-keeps : (P : X → Type 0) → ((x : X) (a : A) (y : X) → P x → f x a ≡ got y → P y) → (x : X) (xs : List A) (y : X) → P x → in_turn f x xs ≡ got y → P y
  unfolding in_turn
  turn-keeps P k x [] y p h = let e : x ≡ y = cc in subst P e p
  turn-keeps P k x (a ∷ xs) y p h =
      let g = got-then _ (f x a) h in
      turn-keeps P k g.0 xs y (k x a g.0 p g.1) g.2

-- ---- a loop over the elements of a list

module _ {X A : Type 0} (f : X → A → Outcome X) (x : X) (xs : List A) (i : ℕ) (d : A) (l : i < length xs) {y : X} (h : in_turn f x (take i xs) ≡ got y) where
  pub turn-here : in_turn f x (take (i + 1) xs) ≡ f y (get_or xs i d)
  turn-here = ap (in_turn f x) (take-more xs i d l) ∙ turn_more f x (take i xs) (get_or xs i d) h

  pub turn-ends : {n : ℕ} → f y (get_or xs i d) ≡ refused n → in_turn f x xs ≡ refused n
  turn-ends e = ap (in_turn f x) (take-split xs i d l) ∙ turn-stops f x (take i xs) (get_or xs i d) (drop (i + 1) xs) h e
