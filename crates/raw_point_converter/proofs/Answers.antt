-- What a call answers and leaves, by the lines that it checks.
use Rattle.std.specs.Prelude.{◌≡◌}
use Rattle.common.specs.Logic.{◌∙◌, sym, true, false, List, ℕ, length}
use Rattle.common.specs.Lists.{all}
use Rattle.common.specs.Refusal.{answer, answer_of, left_by}
use Rattle.common.specs.Refusal.{Answer}
use Rattle.common.specs.Refusal.{Accepted, Refused}
use Rattle.common.proofs.Refusals.{answer-of-check, left-accepted, left-refused}
use Rattle.layout.specs.Layout.{Layout, is_sound}
use Rattle.strided.specs.Strided.{converted}
use Rattle.raw_point_converter.specs.Convert.{point_lines, convert_point}
use Rattle.raw_point_converter.specs.Pairs.{pairs, has_cast, ends_within}

-- the answer r and the target u after a call
abbrev pub Says : Layout → Layout → List ℕ → List ℕ → Answer → List ℕ → Type 0
Says l m s t r u = (r ≡ answer_of (convert_point l m s t)) × (u ≡ left_by t (convert_point l m s t))

module _ (l m : Layout) (s t : List ℕ) where
  refuses : {n : ℕ} → answer (point_lines l m (length s) (length t)) ≡ Refused n → Says l m s t (Refused n) t
  unfolding convert_point
  refuses h = (sym h ∙ answer-of-check _ _, sym (left-refused _ _ t h))

  pub source-unsound : is_sound l ≡ false → Says l m s t (Refused 1) t
  unfolding point_lines answer
  source-unsound a = refuses (rw a)

  module _ (a : is_sound l ≡ true) where
    pub target-unsound : is_sound m ≡ false → Says l m s t (Refused 1) t
    unfolding point_lines answer
    target-unsound b = refuses (rw (a, b))

    module _ (b : is_sound m ≡ true) where
      pub no-cast : all has_cast (pairs l m) ≡ false → Says l m s t (Refused 14) t
      unfolding point_lines answer
      no-cast c = refuses (rw (a, b, c))

      module _ (c : all has_cast (pairs l m) ≡ true) where
        pub too_short : all (ends_within (length s) (length t)) (pairs l m) ≡ false → Says l m s t (Refused 20) t
        unfolding point_lines answer
        too_short d = refuses (rw (a, b, c, d))

        pub carried-out : all (ends_within (length s) (length t)) (pairs l m) ≡ true → {u : List ℕ} → u ≡ converted (pairs l m) s 1 t → Says l m s t Accepted u
        unfolding point_lines answer convert_point
        carried-out d e =
            let h : answer (point_lines l m (length s) (length t)) ≡ Accepted = rw (a, b, c, d) in
            (sym h ∙ answer-of-check _ _, e ∙ sym (left-accepted _ _ t h))
