-- What the makers answer: the lines 8 to 11 by the tests that the code makes, and the record that is handed back.
use Rattle.std.specs.Prelude.{◌≡◌, ◌&&◌, ◌∷◌, ◌≤◌, ◌<◌, ◌+◌}
use Rattle.common.specs.Logic.{◌∙◌, sym, true, Bool, false, not, List, [], flat_map, ⊎_elim, ℕ, max, arith, lt-ltb, le-ltb, le-leb, lt-leb, ltb-false, leb, ltb, length, length-append}
use Rattle.common.specs.Lists.{all, pairwise, against, greatest}
use Rattle.common.specs.Refusal.{Line, Outcome, got, refused, answer, answered, outcome, check, or_else}
use Rattle.common.specs.Refusal.{Answer}
use Rattle.common.specs.Refusal.{Accepted, Refused}
use Rattle.common.proofs.Lists.{all-at_most, order, pairwise-join, greatest-snoc}
use Rattle.common.proofs.Refusals.{passes-cons, accepted-passes, answer-append}
use Rattle.datatype.specs.Arithmetic.{align_to}
use Rattle.datatype.specs.Datatype.{align_of}
use Rattle.datatype.proofs.Alignment.{align-ge}
use Rattle.layout.specs.Layout.{Definition, definition_lines, attribute_lines, end_of, shares_byte, disjoint, other_name, Layout, is_sound}
use Rattle.layout.specs.Makers.{layout_lines, layout_alignment, placed, extended, add_lines, given, given_lines}
use Rattle.layout.specs.Records.{listed, layout_answer}
use Rattle.layout.specs.Steps.{meet, other_named, clear_of, Examination, PlacedBy, new_answer}
use Rattle.layout.specs.declared.point_layout.Examined.{Examined}
use Rattle.layout.specs.declared.point_layout.FieldAlignment.{FieldAlignment}
use Rattle.layout.specs.declared.point_layout.PointLayout.{PointLayout}
use Rattle.layout.specs.declared.point_layout.Placement.{Placement}
use Rattle.layout.specs.declared.point_layout.PointAttributeMember.{PointAttributeMember}
use Rattle.layout.proofs.Listed.{length-listed}
use Rattle.layout.proofs.Soundness.{Sound, sound-has}

-- where every end is within the size, 11 asks for the size alone
size-line : (e z : ℕ) → e ≤ z → not (leb e 65535 && leb z 65535) ≡ ltb 65535 z
size-line e z h =
    ⊎_elim (λ p. rw (le-leb e 65535 (omega arith), le-leb z 65535 p, le-ltb 65535 z p)) (λ p. big e z p (leb e 65535)) (order z 65535)
  where
    big : (e z : ℕ) → 65535 < z → (b : Bool) → not (b && leb z 65535) ≡ ltb 65535 z
    big e z p true = rw (lt-leb z 65535 p, lt-ltb 65535 z p)
    big e z p false = rw (lt-ltb 65535 z p)

pub new-lines : (l : Layout) (d : Answer) {n s : Bool} → n ≡ pairwise other_name l.attributes → s ≡ pairwise disjoint l.attributes → greatest end_of l.attributes ≤ l.size
    → new_answer d n s l.alignment l.size ≡ or_else d (answer (layout_lines l))
unfolding new_answer layout_lines
new-lines l d n s h = rw (n, s, all-at_most end_of 65535 l.attributes, size-line (greatest end_of l.attributes) l.size h)

pub new-small : (d : Answer) (n s : Bool) (a z : ℕ) → new_answer d n s a z ≡ Accepted → z ≤ 65535
unfolding new_answer or_else
new-small Accepted n s a z h =
    let p = passes-cons _ _ _ (accepted-passes _ h) in
    let q = passes-cons _ _ _ p.1 in
    let r = passes-cons _ _ _ q.1 in
    ltb-false _ _ (passes-cons _ _ _ r.1).0
new-small (Refused k) n s a z h = absurd (let z : ◌≡◌ {A = ℕ} 0 1 = cc in omega arith)

-- ---- from_members_and_alignment

module _ (ms : List PointAttributeMember) (count a : ℕ) where
  pub given-long : 32 < count → answer (given_lines (listed ms count) a) ≡ Refused 3
  unfolding given_lines answer
  given-long h = rw (length-listed ms count, lt-ltb 32 count h)

  pub given_is : {e : Examined} {z : ℕ} {r : Answer} → count ≤ 32 → Examination (listed ms count) e → z ≡ align_to e.end a → r ≡ new_answer (answered e.definitions) e.names e.disjoint a z → r ≡ answer (given_lines (listed ms count) a)
  unfolding given_lines answer given
  given_is h x p q =
      let xs = listed ms count in
      q ∙ rw (p, x.end, x.definitions) (new-lines (given xs a) (answer (flat_map attribute_lines xs)) x.names x.disjoint (align-ge (greatest end_of xs) a))
      ∙ sym (answer-append (flat_map attribute_lines xs) (layout_lines (given xs a))) ∙ rw (length-listed ms count, le-ltb 32 count h)

-- ---- add_attribute

module _ (l : Layout) (d : Definition) (f : FieldAlignment) where
  pub add-unsound : is_sound l ≡ false → answer (add_lines l d f) ≡ Refused 1
  unfolding add_lines answer
  add-unsound h = rw h

  pub added-length : length (extended l d f).attributes ≡ length l.attributes + 1
  unfolding extended
  added-length = length-append l.attributes (placed l.attributes d f ∷ [])

  pub add-full : is_sound l ≡ true → length l.attributes ≡ 32 → answer (add_lines l d f) ≡ Refused 3
  unfolding add_lines answer
  add-full s h = let w = lt-ltb 32 (length (extended l d f).attributes) (omega (arith, added-length)) in rw (s, w)

  module _ {p : Placement} (b : PlacedBy l d.datatype f p) where
    pub start_is : p.start ≡ (placed l.attributes d f).offset
    unfolding placed
    start_is = b.start

    end_is : p.end ≡ end_of (placed l.attributes d f)
    unfolding end_of placed
    end_is = b.end ∙ rw b.start

    pub alignment-is : p.alignment ≡ (extended l d f).alignment
    unfolding extended
    alignment-is = b.alignment

    pub size_is : p.size ≡ (extended l d f).size
    unfolding extended
    size_is = b.size ∙ rw (b.alignment, end_is)

    -- the new end is within the new size
    pub end-within : p.end ≤ p.size
    end-within = omega (arith, b.size, align-ge (max l.size p.end) p.alignment)

  -- with one attribute more the ends are within the new size
  pub extended-ends : Sound l → greatest end_of (extended l d f).attributes ≤ (extended l d f).size
  unfolding extended
  extended-ends s =
      let a = placed l.attributes d f in
      let w = align-ge (max l.size (end_of a)) (layout_alignment f l.alignment (align_of d.datatype)) in
      rw (greatest-snoc end_of l.attributes a) (omega (arith, s.ends, w))

  -- the new list is judged as a whole; of the old one it is known
  module _ {p : Placement} (b : PlacedBy l d.datatype f p) (s : Sound l) where
    pub names-joined : {n : Bool} → n ≡ all (other_named d) l.attributes → n ≡ pairwise other_name (extended l d f).attributes
    unfolding extended placed against other_name other_named
    names-joined h = pairwise-join other_name _ _ s.names h

    pub disjoint-joined : {t : Bool} → t ≡ all (clear_of p.start p.end) l.attributes → t ≡ pairwise disjoint (extended l d f).attributes
    unfolding extended against disjoint shares_byte clear_of meet
    disjoint-joined h = pairwise-join disjoint _ _ s.disjoint (rw (start_is b, end_is b) at h)

  pub add_is : {p : Placement} {n u : Bool} {t r : Answer} → PlacedBy l d.datatype f p → is_sound l ≡ true → length l.attributes < 32 → n ≡ all (other_named d) l.attributes → u ≡ all (clear_of p.start p.end) l.attributes → t ≡ answer (definition_lines d) → r ≡ new_answer t n u p.alignment p.size → r ≡ answer (add_lines l d f)
  unfolding add_lines answer
  add_is b so h n u t r =
      let s = sound-has l so in
      let w = le-ltb 32 (length (extended l d f).attributes) (omega (arith, added-length)) in
      r ∙ rw (alignment-is b, size_is b, t) (new-lines (extended l d f) (answer (definition_lines d)) (names-joined b s n) (disjoint-joined b s u) (extended-ends s))
      ∙ sym (answer-append (definition_lines d) (layout_lines (extended l d f))) ∙ rw (so, w)

-- ---- the record

pub answer-refused : (ms : List PointAttributeMember) (ls : List Line) (l : Layout) {n : ℕ} → answer ls ≡ Refused n → ◌≡◌ {A = Outcome PointLayout} (refused n) (layout_answer ms (check ls l))
unfolding check outcome layout_answer
answer-refused ms ls l h = rw h

pub answer-accepted : (ms : List PointAttributeMember) (ls : List Line) (l : Layout) {c : ℕ} → answer ls ≡ Accepted → c ≡ length l.attributes
    → ◌≡◌ {A = Outcome PointLayout} (got (record { attributes = ms; count = c; size = l.size; alignment = l.alignment })) (layout_answer ms (check ls l))
unfolding check outcome layout_answer
answer-accepted ms ls l h e = rw (h, e)
