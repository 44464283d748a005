-- Laws of the options of convert.
use Rattle.std.specs.Prelude.{◌≡◌, ◌||◌, ◌∷◌, ◌++◌}
use Rattle.common.specs.Logic.{sym, refl, subst, true, Bool, false, List, [], ⊎_elim, ℕ}
use Prim.Native.String.{String}
use Rattle.common.specs.Ascii.{ascii}
use Rattle.common.specs.Lists.{all, same_bytes}
use Rattle.common.proofs.Lists.{and_left, and_right, decide, same-eq}
use Rattle.usage.specs.Claims.{is_option, has}
use Rattle.usage.specs.Usage.{is_text, begins_with_dash, option_of, word_of, start, complete, after_all}
use Rattle.usage.specs.declared.Task.{Task}
use Rattle.usage.specs.declared.Task.TheVariants.{Convert}

or-false : (b : Bool) → (b || false) ≡ b
or-false true = refl
or-false false = refl

-- what is asked for by convert, with these options so far, and more words
unfoldable pub asked : Bool → Bool → Bool → List (List ℕ) → Task
asked s t o ws = complete (after_all (start (Convert s t o)) ws)

-- ---- words that are options

module _ (rest : List (List ℕ)) where
  -- after these options
  abbrev Over : Bool → Bool → Bool → List (List ℕ) → Type 0
  Over s t o os = asked s t o (os ++ rest) ≡ asked (s || has "--source-columns" os) (t || has "--target-columns" os) (o || has "--fail-if-lost" os) rest

  over-source : (s t o : Bool) (os : List (List ℕ)) → Over true t o os → Over s t o (ascii "--source-columns" ∷ os)
  unfolding asked has after_all word_of option_of is_text begins_with_dash ascii same_bytes
  over-source true t o os h = h
  over-source false t o os h = h

  over-target : (s t o : Bool) (os : List (List ℕ)) → Over s true o os → Over s t o (ascii "--target-columns" ∷ os)
  unfolding asked has after_all word_of option_of is_text begins_with_dash ascii same_bytes
  over-target s true o os h = h
  over-target s false o os h = h

  over-lost : (s t o : Bool) (os : List (List ℕ)) → Over s t true os → Over s t o (ascii "--fail-if-lost" ∷ os)
  unfolding asked has after_all word_of option_of is_text begins_with_dash ascii same_bytes
  over-lost s t true os h = h
  over-lost s t false os h = h

  -- by the text of the first of them
  by-text : (s t o : Bool) (w : List ℕ) (os : List (List ℕ)) (x : String) → is_text x w ≡ true → Over s t o (ascii x ∷ os) → Over s t o (w ∷ os)
  unfolding is_text
  by-text s t o w os x e h = subst (λ (v : List ℕ). Over s t o (v ∷ os)) (sym (same-eq w (ascii x) e)) h

  pub over : (s t o : Bool) (os : List (List ℕ)) → all is_option os ≡ true → Over s t o os
  unfolding has all is_option
  over s t o [] a = sym (rw (or-false s, or-false t, or-false o))
  over s t o (w ∷ os) a =
      let k = and_right (is_option w) (all is_option os) a in
      ⊎_elim
      (λ e. by-text s t o w os "--source-columns" e (over-source s t o os (over true t o os k)))
      (λ (e : is_text "--source-columns" w ≡ false).
      ⊎_elim
      (λ f. by-text s t o w os "--target-columns" f (over-target s t o os (over s true o os k)))
      (λ (f : is_text "--target-columns" w ≡ false).
      let g : is_text "--fail-if-lost" w ≡ true = rw (e, f) at (and_left (is_option w) (all is_option os) a) in
      by-text s t o w os "--fail-if-lost" g (over-lost s t o os (over s t true os k)))
      (decide (is_text "--target-columns" w)))
      (decide (is_text "--source-columns" w))
