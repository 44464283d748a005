-- A placed sheet is never refused for sharing: from the empty layout on, each attribute is placed at or after all ends before it.
use Rattle.std.specs.Prelude.{◌≡◌, ◌∷◌, ◌≤◌}
use Rattle.common.specs.Logic.{◌∙◌, ap, refl, subst, true, Bool, false, not, List, [], ⊎_elim, ℕ, min, max, arith, not-false, le-ltb}
use Rattle.common.specs.Lists.{all, pairwise, against, greatest}
use Rattle.common.specs.Refusal.{Line, line, refused, got, answer}
use Rattle.common.specs.Refusal.{Answer}
use Rattle.common.specs.Refusal.{Refused}
use Rattle.common.proofs.Lists.{greatest-snoc, pairwise-snoc}
use Rattle.common.proofs.Refusals.{refused-cons, check-refused, refused-then}
use Rattle.layout.specs.Calls.{Call, called}
use Rattle.datatype.specs.Datatype.{align_of, datatype_lines}
use Rattle.layout.specs.Layout.{Attribute, definition_lines, end_of, shares_byte, disjoint, Layout, is_sound}
use Rattle.layout.specs.Makers.{layout_lines, empty_layout, end_after, last_end, field_alignment, placed, extended, add_lines, add_attribute}
use Rattle.datatype.proofs.Alignment.{align-ge}
use Rattle.layout.proofs.Calls.{add-got}
use Rattle.layout.proofs.Listed.{last_snoc}
use Rattle.layout.proofs.Soundness.{sound-has}
use Rattle.layout_sheets.specs.Sheet.{in_turn, add_all}

-- no end lies past the last-listed attribute's
abbrev Ordered : Layout → Type 0
Ordered l = greatest end_of l.attributes ≤ last_end l.attributes

start-ordered : Ordered empty_layout
unfolding empty_layout greatest last_end end_after
start-ordered = omega arith

-- an attribute that lies at or after all ends shares no byte
behind : (xs : List Attribute) (a : Attribute) → greatest end_of xs ≤ a.offset → all (against disjoint a) xs ≡ true
unfolding all against disjoint shares_byte greatest
behind [] a h = refl
behind (x ∷ xs) a h =
    let t = le-ltb (max x.offset a.offset) (min (end_of x) (end_of a)) (omega arith) in
    rw (t, behind xs a (omega arith))

none : answer [] ≡ Refused 9 → ⊥
unfolding answer
none e = let z : ◌≡◌ {A = ℕ} 0 1 = cc in omega arith

pass : (m : ℕ) (b : Bool) (ls : List Line) {a : Answer} → answer (line m b ∷ ls) ≡ a → b ≡ false → answer ls ≡ a
unfolding answer
pass m b ls h e = rw e at h

module _ (l : Layout) (c : Call) (o : Ordered l) where
  new : Attribute
  new = placed l.attributes c.definition c.alignment

  new-behind : greatest end_of l.attributes ≤ new.offset
  unfolding new placed
  new-behind = omega (arith, align-ge (last_end l.attributes) (field_alignment c.alignment (align_of c.definition.datatype)))

  more-ordered : Ordered (extended l c.definition c.alignment)
  unfolding extended new last_end end_of
  more-ordered =
      rw (greatest-snoc end_of l.attributes new, last_snoc l.attributes new 0) (omega (arith, new-behind))

  more-disjoint : is_sound l ≡ true → pairwise disjoint (extended l c.definition c.alignment).attributes ≡ true
  unfolding extended new
  more-disjoint s =
      pairwise-snoc disjoint l.attributes new ∙ rw ((sound-has l s).disjoint, behind l.attributes new new-behind)

  never-nine : answer (add_lines l c.definition c.alignment) ≡ Refused 9 → ⊥
  unfolding add_lines definition_lines datatype_lines layout_lines
  never-nine h =
      let one = refused-cons _ _ _ h (λ e. omega arith) in
      let three = refused-cons _ _ _ one.1 (λ e. omega arith) in
      let four = refused-cons _ _ _ three.1 (λ e. omega arith) in
      let five = refused-cons _ _ _ four.1 (λ e. omega arith) in
      let six = refused-cons _ _ _ five.1 (λ e. omega arith) in
      let eight = refused-cons _ _ _ six.1 (λ e. omega arith) in
      let d = more-disjoint (not-false _ one.0) in
      let nine = pass _ _ _ eight.1 (ap not d) in
      let ten = refused-cons _ _ _ nine (λ e. omega arith) in
      let eleven = refused-cons _ _ _ ten.1 (λ e. omega arith) in
      none eleven.1

  called-ordered : (k : Layout) → called l c ≡ got k → Ordered k
  called-ordered k h = subst Ordered (add-got l c.definition c.alignment k h).1 more-ordered

  called-shares : called l c ≡ refused 9 → ⊥
  unfolding add_attribute
  called-shares h = never-nine (check-refused _ _ h)

pub placed-shares : (l : Layout) (cs : List Call) → Ordered l → in_turn called l cs ≡ refused 9 → ⊥
unfolding in_turn
placed-shares l [] o h = let z : ◌≡◌ {A = ℕ} 0 1 = cc in omega arith
placed-shares l (c ∷ cs) o h =
    ⊎_elim (λ e. called-shares l c o e) (λ g. placed-shares g.0 cs (called-ordered l c o g.0 g.1) g.2) (refused-then _ (called l c) h)

pub placed-never : (cs : List Call) → add_all empty_layout cs ≡ refused 9 → ⊥
unfolding add_all
placed-never cs h = placed-shares empty_layout cs start-ordered h
