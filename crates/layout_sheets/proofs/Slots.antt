-- Arrays of `specs.Records`: an element stored in the next slot, and the records of definitions, attributes and layouts read back.
use Rattle.std.specs.Prelude.{◌≡◌, ◌∷◌, ◌++◌, ◌<◌, ◌+◌, ◌-◌}
use Rattle.common.specs.Logic.{◌∙◌, sym, refl, List, [], append_assoc, ℕ, suc, arith, length, set, take, length-append, replicate}
use native.Mathlib.Numerals.{unary_clauses}
use lib.Seq.{set_at, take_at}
use Rattle.common.specs.Lists.{first}
use Rattle.common.proofs.Lists.{first-take}
use Rattle.layout_sheets.specs.Records.{slots}

module _ {A : Type 0} (d : A) (n : ℕ) where
  pub slots-none : slots d n [] ≡ replicate n d
  unfolding slots
  slots-none = simp unary_clauses

  -- a loop's turn
  pub slots_set : (xs : List A) (i : ℕ) (a : A) → length xs ≡ i → i < n → set (slots d n xs) i a ≡ slots d n (xs ++ (a ∷ []))
  unfolding slots
  slots_set xs i a e h =
      let l : length (xs ++ (a ∷ [])) ≡ i + 1 = length-append xs (a ∷ []) ∙ rw e in
      let m : n - length xs ≡ suc (n - (i + 1)) = omega arith in
      rw (m, l) (set_at xs d (replicate (n - (i + 1)) d) a i e ∙ sym (append_assoc xs (a ∷ []) (replicate (n - (i + 1)) d)))

  -- the array's first elements are the list
  pub slots-first : (e : A) (xs : List A) → first e (slots d n xs) (length xs) ≡ xs
  unfolding slots
  slots-first e xs =
      first-take e (xs ++ replicate (n - length xs) d) (length xs) (omega (arith, length-append xs (replicate (n - length xs) d)))
      ∙ take_at xs (replicate (n - length xs) d) (length xs) refl

  pub slots-take : (xs : List A) → take (length xs) (slots d n xs) ≡ xs
  unfolding slots
  slots-take xs = take_at xs (replicate (n - length xs) d) (length xs) refl
