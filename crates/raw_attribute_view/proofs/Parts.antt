-- What a part that was found, or refused, says of the answer, of the part and of what is written there.
use Rattle.std.specs.Prelude.{◌≡◌, ◌++◌, ◌≤◌, ◌<◌, ◌+◌, ◌-◌, ◌*◌}
use Rattle.common.specs.Logic.{◌∙◌, sym, ap, refl, List, [], append_assoc, ℕ, zero-add, arith, ltb-false, min, ⊎_elim, length, take, drop, length-take, take-append-drop}
use lib.Seq.{take_all, drop-append-le, drop-drop, sets, sets-eq}
use denote.Ref.{Bor}
use Rattle.common.proofs.Refusals.{passes-cons, passes-accepted, check-got, check-refused, got-then, answer-of-check, left-accepted, left-refused}
use Rattle.common.proofs.Stores.{part_length}
use Rattle.common.specs.Refusal.{Line, Outcome, got, refused, answer, answer_of, left_by, and_then, Accepted, Refused}
use Rattle.common.proofs.Lists.{order}
use Rattle.raw_attribute_view.specs.View.{read_lines, start_in, part_bytes, part_place, IsPart, write_part, part_in}
use Rattle.raw_attribute_view.specs.declared.Part.{Part}

module _ (n offset stride size i : ℕ) where
  -- a part that was found: its start is the definition's, no line holds, and it lies within the bytes
  pub found : {p : Part} → part_in n offset stride size i ≡ got p
      → (start_in n offset stride size i ≡ got p.start) × (p.size ≡ size) × (answer (read_lines n offset stride size i) ≡ Accepted) × (p.start + size ≤ n)
  unfolding start_in read_lines
  found {p} e =
      let a = got-then _ (start_in n offset stride size i) e in
      let q : p ≡ record { start = a.0; size = size } = cc in
      let g = check-got (read_lines n offset stride size i) _ _ a.1 in
      let l : i * stride + offset + size ≤ n = ltb-false _ _ (passes-cons 18 _ [] g.0).0 in
      rw q (a.1, refl, passes-accepted _ g.0, rw (← g.1) l)

  -- of a part that was refused a line holds
  pub passed : {m : ℕ} → part_in n offset stride size i ≡ refused m → answer (read_lines n offset stride size i) ≡ Refused m
  unfolding start_in and_then
  passed e = check-refused _ _ (in_start (start_in n offset stride size i) e)
    where
      -- what follows the start is never refused
      in_start : {m : ℕ} (o : Outcome ℕ) → and_then {Y = Part} o (λ start. got (record { start = start; size = size })) ≡ refused m → o ≡ refused m
      in_start (got start) g = absurd (let z : ◌≡◌ {A = ℕ} 0 1 = cc in omega arith)
      in_start (refused j) g = cc

-- the part that was found, lent on
pub found_part : (offset stride size i : ℕ) (whole part : Bor (List ℕ)) {p : Part} → part_in (length whole.now) offset stride size i ≡ got p
    → part.now ≡ take (p.start + p.size - p.start) (drop p.start whole.now) → part.ref_ptr ≡ (whole.ref_ptr.0, p.start + whole.ref_ptr.1)
    → IsPart whole part size (start_in (length whole.now) offset stride size i)
unfolding part_bytes part_place
found_part offset stride size i whole part {p} e b q =
    let f = found (length whole.now) offset stride size i e in
    let k : p.start + p.size - p.start ≡ size = omega (arith, f.1) in
    let g = sym f.0 in
    record { bytes = b ∙ rw k (ap (part_bytes whole.now size) g); place = q ∙ ap (part_place whole.ref_ptr) g }

-- ---- writing

-- bytes written from a place on: those before and those after stay
pub put-over : (s new : List ℕ) (a : ℕ) → a + length new ≤ length s → sets s a new ≡ take a s ++ (new ++ drop (a + length new) s)
put-over s new a h = sets-eq new s a h ∙ append_assoc (take a s) new (drop (a + length new) s)

-- all bytes of a value, written from the start on
at-start : (p v : List ℕ) → length v ≤ length p → v ++ drop (length v) p ≡ sets p 0 v
at-start p v h = ap (λ (k : ℕ). v ++ drop k p) (sym (zero-add (length v))) ∙ sym (put-over p v 0 (omega arith))

-- as many bytes of a value as the part has
pub filled : (p v : List ℕ) (n : ℕ) → n ≡ min (length p) (length v) → take n v ++ drop n p ≡ sets p 0 (take (length p) v)
filled p v n e =
    let fitting : take n v ≡ take (length p) v = ⊎_elim
    (λ (h : length p ≤ length v). let k : n ≡ length p = omega arith in ap (λ (j : ℕ). take j v) k)
    (λ (h : length v < length p). take_all n v (omega arith) ∙ sym (take_all (length p) v (omega arith))) (order (length p) (length v)) in
    let long : length (take (length p) v) ≡ n = omega (arith, length-take (length p) v) in
    rw (fitting, ← long) (at-start p (take (length p) v) (omega arith))

-- a part that was written from its start on, back in its place: the bytes are written from there
in_place : (a k : ℕ) (s new : List ℕ) → a + k ≤ length s → length new ≤ k
    → take a s ++ (sets (take (a + k - a) (drop a s)) 0 new ++ drop (a + k - a) (drop a s)) ≡ sets s a new
in_place a k s new h l =
    let part : List ℕ = take (a + k - a) (drop a s) in
    let rest : List ℕ = drop (a + k - a) (drop a s) in
    let fits : length new ≤ length part = omega (arith, part_length a k s h) in
    let after : drop (0 + length new) part ++ rest ≡ drop (a + length new) s =
    rw (zero-add (length new)) (sym (drop-append-le (length new) part rest fits) ∙ ap (drop (length new)) (take-append-drop (a + k - a) (drop a s)) ∙ drop-drop (length new) a s) in
    ap (λ (x : List ℕ). take a s ++ (x ++ rest)) (put-over part new 0 (omega arith))
    ∙ ap (λ (x : List ℕ). take a s ++ x) (append_assoc new (drop (0 + length new) part) rest ∙ ap (λ (x : List ℕ). new ++ x) after)
    ∙ sym (put-over s new a (omega arith))

module _ (offset stride size i : ℕ) (s v : List ℕ) where
  abbrev lines : List Line
  lines = read_lines (length s) offset stride size i

  -- the bytes where no line holds
  abbrev after : List ℕ
  after = sets s (i * stride + offset) (take size v)

  -- the part that was found was written
  pub found-written : {p : Part} {w : List ℕ} → part_in (length s) offset stride size i ≡ got p
      → w ≡ sets (take (p.start + p.size - p.start) (drop p.start s)) 0 (take (length (take (p.start + p.size - p.start) (drop p.start s))) v)
      → (Accepted ≡ answer_of (write_part s offset stride size i v)) × (take p.start s ++ (w ++ drop (p.start + p.size - p.start) (drop p.start s)) ≡ left_by s (write_part s offset stride size i v))
  unfolding start_in write_part
  found-written {p} {w} e h =
      let f = found (length s) offset stride size i e in
      let start = p.start in
      let part : List ℕ = take (start + size - start) (drop start s) in
      let short : length (take size v) ≤ size = omega (arith, length-take size v) in
      let h : w ≡ sets part 0 (take (length part) v) = rw f.1 at h in
      rw f.1 (
        sym f.2 ∙ answer-of-check lines after,
        ap (λ (x : List ℕ). take start s ++ (x ++ drop (start + size - start) (drop start s))) (h ∙ ap (λ (k : ℕ). sets part 0 (take k v)) (part_length start size s f.3))
            ∙ in_place start size s (take size v) f.3 short ∙ ap (λ (k : ℕ). sets s k (take size v)) (sym (check-got lines (i * stride + offset) start f.0).1)
            ∙ sym (left-accepted lines after s f.2),
      )

  -- of a refused part nothing was
  pub none_written : {m : ℕ} → part_in (length s) offset stride size i ≡ refused m
      → (Refused m ≡ answer_of (write_part s offset stride size i v)) × (s ≡ left_by s (write_part s offset stride size i v))
  unfolding write_part
  none_written e =
      let g = passed (length s) offset stride size i e in
      (sym g ∙ answer-of-check lines after, sym (left-refused lines after s g))
