-- A block's conversion: none of its points first, which gives the answer and changes no byte, and all of them into the cleared target.
use Rattle.std.specs.Prelude.{◌≡◌}
use Rattle.common.specs.Logic.{◌∙◌, sym, ap, refl, true, false, List, map, ℕ, arith, le-ltb, eq-eqb, length, length-replicate}
use Rattle.common.specs.Refusal.{Outcome, got, refused, answer, accepts, outcome, check, answer_of, left_by}
use Rattle.common.specs.Refusal.{Answer}
use Rattle.common.specs.Refusal.{Accepted, Refused}
use Rattle.common.proofs.Lists.{clash}
use Rattle.writes.specs.Writes.{written}
use Rattle.writes.proofs.Whole.{length-written}
use Rattle.buffer_conversion.specs.Conversion.{write_of, buffer_lines, conversion_lines, convert_into_range}
use Rattle.buffer_conversion.specs.Lost.{converted_answer}
use Rattle.buffer_conversion.proofs.Checks.{answer-is}
use Rattle.plans.specs.Plan.{Plan}
use Rattle.point_buffer.specs.Places.{length_of}
use Rattle.point_buffer.specs.declared.PointRange.{PointRange}
use Rattle.point_buffer.specs.declared.Storage.{Storage}
use Rattle.point_blocks.specs.Blocks.{zeros, whole, block_of}

-- none of n points
abbrev pub none : Storage → ℕ → PointRange
none s n = record { storage = s; count = n; start = 0; end = 0 }

-- what a call leaves, by its answer
left-refused : (t : List ℕ) (o : Outcome (List ℕ)) → accepts (answer_of o) ≡ false → left_by t o ≡ t
unfolding answer_of left_by
left-refused t (got x) h = clash refl h
left-refused t (refused n) h = refl

left-accepted : (t z : List ℕ) (o : Outcome (List ℕ)) → accepts (answer_of o) ≡ true → left_by z o ≡ left_by t o
unfolding answer_of left_by
left-accepted t z (got x) h = refl
left-accepted t z (refused n) h = clash h refl

-- neither range is backward or passes its count, and they are equally long
same_answer : (p : Plan) (a b : Storage) (n x y : ℕ) → answer (conversion_lines p x (none a n) y (none b n)) ≡ answer (conversion_lines p x (whole a n) y (whole b n))
unfolding conversion_lines buffer_lines answer
same_answer p a b n x y =
    simp (le-ltb n 0 (omega arith), le-ltb n n (omega arith), eq-eqb (length_of (whole a n)) (length_of (whole b n)) refl)

module _ (p : Plan) (a b : Storage) (n : ℕ) (src t : List ℕ) where
  -- the zeros are as many as the target's bytes
  pub none-answer : answer_of (convert_into_range p src (none a n) t (none b n)) ≡ answer_of (block_of p a b n src (length t))
  unfolding block_of
  none-answer =
      sym (answer-is p src (none a n) t (none b n)) ∙ same_answer p a b n (length src) (length t)
      ∙ ap (λ (y : ℕ). answer (conversion_lines p (length src) (whole a n) y (whole b n))) (sym (length-replicate {A = ℕ} (length t) 0))
      ∙ answer-is p src (whole a n) (zeros (length t)) (whole b n)

  pub none-refused : accepts (answer_of (convert_into_range p src (none a n) t (none b n))) ≡ false
      → left_by t (convert_into_range p src (none a n) t (none b n)) ≡ left_by t (block_of p a b n src (length t))
  none-refused h =
      left-refused t (convert_into_range p src (none a n) t (none b n)) h ∙ sym (left-refused t (block_of p a b n src (length t)) (ap accepts (sym none-answer) ∙ h))

  length-of : (x : Answer) (made : List ℕ) → length made ≡ length t → length (left_by t (outcome x made)) ≡ length t
  unfolding outcome left_by
  length-of Accepted made e = e
  length-of (Refused m) made e = refl

  pub length-left : length (left_by t (convert_into_range p src (none a n) t (none b n))) ≡ length t
  unfolding convert_into_range check
  length-left =
      let ws = map (write_of p src (none a n) (none b n)) p.mappings in
      length-of (answer (conversion_lines p (length src) (none a n) (length t) (none b n))) (written ws 0 t) (length-written ws 0 t)

  -- what the conversion gives of a target z of zeros
  module _ {z : List ℕ} (e : z ≡ zeros (length t)) where
    pub cleared-answer : {Y : Type 0} (y : Y) → converted_answer (convert_into_range p src (whole a n) z (whole b n)) y ≡ converted_answer (block_of p a b n src (length t)) y
    unfolding block_of
    cleared-answer y = ap (λ (l : List ℕ). converted_answer (convert_into_range p src (whole a n) l (whole b n)) y) e

    pub cleared-bytes : accepts (answer_of (convert_into_range p src (none a n) t (none b n))) ≡ true
        → left_by z (convert_into_range p src (whole a n) z (whole b n)) ≡ left_by t (block_of p a b n src (length t))
    unfolding block_of
    cleared-bytes h =
        ap (λ (l : List ℕ). left_by l (convert_into_range p src (whole a n) l (whole b n))) e
        ∙ left-accepted t (zeros (length t)) (block_of p a b n src (length t)) (ap accepts (sym none-answer) ∙ h)
