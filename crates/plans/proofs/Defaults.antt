-- The mappings by name: what is chosen for one target attribute, and one target attribute more, which is a turn of the loop.
use Rattle.std.specs.Prelude.{◌≡◌, ◌∷◌, ◌++◌, ◌≤◌, ◌<◌, ◌+◌}
use Rattle.common.specs.Logic.{◌∙◌, sym, ap, refl, true, List, [], append-nil, flat_map, filter_map, None, Some, Option, ℕ, min, arith, not-false, leb-true, length, get_or, set, length-append, replicate}
use Rattle.std.specs.List.{cons_option}
use Rattle.std.proofs.lemmas.Grind.{flat_map-append}
use Rattle.std.proofs.lemmas.List.Elements.{filter_map-append}
use native.Mathlib.Numerals.{add-one}
use Rattle.common.specs.Lists.{all, first}
use Rattle.common.specs.Refusal.{answer, line_answer, or_else, Outcome, got, refused, outcome, check}
use Rattle.common.specs.Refusal.{Accepted, Refused}
use Rattle.common.proofs.Lists.{and_left, flat_map-snoc, length-first}
use Rattle.common.proofs.Refusals.{passes-cons, passes-accepted, answer-append, check-got, check-refused}
use Rattle.layout.specs.Layout.{Attribute, absent, printable, good_name, definition_lines, attribute_lines, good_attribute, Layout}
use Rattle.layout.specs.Lookup.{is_found}
use Rattle.layout.specs.Records.{definition_of, attribute_of, missing, listed, layout_of}
use Rattle.layout.specs.declared.point_layout.PointAttributeMember.{PointAttributeMember}
use Rattle.layout.specs.declared.point_layout.PointLayout.{PointLayout}
use Rattle.layout.proofs.Listed.{listed-none, listed_more, listed-split, listed_at}
use Rattle.plans.specs.Makers.{source_of, lacks_pair, pair_lines, target_lines, mapping_to, mapping_of, places}
use Rattle.plans.specs.Records.{no_mapping, filled}
use Rattle.plans.specs.Steps.{lines_by, source_answer}
use Rattle.plans.specs.declared.plan.Mapping.{Mapping}
use Rattle.plans.specs.declared.plan.MissingSource.{MissingSource}
use Rattle.plans.specs.declared.plan.MissingSource.TheVariants.{Refuse, PassOver}
use Rattle.plans.proofs.Slots.{filled_none, filled_more}

-- ---- one target attribute

-- a good name is within its array
pub name-is : (t : PointAttributeMember) → good_attribute (attribute_of t) ≡ true → first 0 t.attribute_definition.name (min t.attribute_definition.name_len 31) ≡ (attribute_of t).definition.name
unfolding good_attribute attribute_lines definition_lines good_name attribute_of definition_of
name-is t g =
    let d = t.attribute_definition in
    let h = leb-true (length (first 0 d.name d.name_len)) 31 (and_left _ (all printable (first 0 d.name d.name_len)) (not-false _ (passes-cons _ _ _ g).0)) in
    let z : min d.name_len 31 ≡ d.name_len = omega (arith, h, length-first 0 d.name d.name_len) in
    rw z

module _ (how : MissingSource) (l : Layout) (a : Attribute) where
  -- what is answered, by the lines
  pub source-refused : {n : ℕ} → answer (lines_by how l a) ≡ Refused n → ◌≡◌ {A = Outcome (Option ℕ)} (refused n) (source_answer how l a)
  unfolding source_answer check outcome
  source-refused h = rw h

  pub source-got : {o : Option ℕ} → answer (lines_by how l a) ≡ Accepted → source_of l a ≡ o → ◌≡◌ {A = Outcome (Option ℕ)} (got o) (source_answer how l a)
  unfolding source_answer check outcome
  source-got h e = rw (h, e)

-- the lines, by what was found
pub lines-some : (how : MissingSource) (l : Layout) (a : Attribute) (i : ℕ) → source_of l a ≡ Some i → answer (lines_by how l a) ≡ line_answer 14 (lacks_pair l a (Some i))
unfolding lines_by target_lines pair_lines answer is_found
lines-some Refuse l a i e = rw e
lines-some PassOver l a i e = rw e

pub none-refused : (l : Layout) (a : Attribute) → source_of l a ≡ None → answer (lines_by Refuse l a) ≡ Refused 12
unfolding lines_by target_lines answer is_found
none-refused l a e = rw e

pub none-passed : (l : Layout) (a : Attribute) → source_of l a ≡ None → answer (lines_by PassOver l a) ≡ Accepted
unfolding lines_by pair_lines answer lacks_pair
none-passed l a e = rw e

-- ---- one place more

module _ (f : ℕ → Option Mapping) (j : ℕ) where
  pub joins-one : {x : Mapping} → f j ≡ Some x → filter_map f (places (j + 1)) ≡ filter_map f (places j) ++ (x ∷ [])
  unfolding places
  joins-one e =
      rw add-one (filter_map-append f (places j) (j ∷ []) ∙ ap (λ (o : Option Mapping). filter_map f (places j) ++ cons_option o []) e)

  pub joins-none : f j ≡ None → filter_map f (places (j + 1)) ≡ filter_map f (places j)
  unfolding places
  joins-none e =
      rw add-one (filter_map-append f (places j) (j ∷ []) ∙ ap (λ (o : Option Mapping). filter_map f (places j) ++ cons_option o []) e ∙ append-nil (filter_map f (places j)))

-- ---- the loop

-- after the first k targets: none is refused, and these are the mappings and their count
pub record Made (how : MissingSource) (l : Layout) (m : PointLayout) (k : ℕ) (ms : List Mapping) (c : ℕ) : Type 0 where
  pub answer : answer (flat_map (lines_by how l) (listed m.attributes k)) ≡ Accepted
  pub mappings : ms ≡ filled (filter_map (mapping_of l (layout_of m)) (places k))
  pub count : c ≡ length (filter_map (mapping_of l (layout_of m)) (places k))
  pub few : c ≤ k

pub made_none : (how : MissingSource) (l : Layout) (m : PointLayout) → Made how l m 0 (replicate 32 no_mapping) 0
unfolding places answer flat_map
made_none how l m = record { answer = rw listed-none; mappings = sym filled_none; count = refl; few = omega arith }

module _ (how : MissingSource) (l : Layout) (m : PointLayout) (j : ℕ) {ms : List Mapping} {c : ℕ} (v : Made how l m j ms c) (w : j < m.count) (few : m.count ≤ 32) where
  abbrev here : Attribute
  here = attribute_of (get_or m.attributes j missing)

  -- the first target that is refused gives the number
  pub made-refused : {n : ℕ} → source_answer how l here ≡ refused n → answer (flat_map (lines_by how l) (listed m.attributes m.count)) ≡ Refused n
  unfolding source_answer flat_map or_else
  made-refused h =
      let r = listed-split m.attributes j m.count w in
      rw (r.1, flat_map-append (lines_by how l) (listed m.attributes j) (here ∷ r.0))
      (answer-append (flat_map (lines_by how l) (listed m.attributes j)) (flat_map (lines_by how l) (here ∷ r.0))
      ∙ rw v.answer (answer-append (lines_by how l here) (flat_map (lines_by how l) r.0) ∙ rw (check-refused _ _ h)))

  module _ {o : Option ℕ} (h : source_answer how l here ≡ got o) where
    answer-more : answer (flat_map (lines_by how l) (listed m.attributes (j + 1))) ≡ Accepted
    unfolding source_answer or_else
    answer-more =
        rw (listed_more m.attributes j, flat_map-snoc (lines_by how l) (listed m.attributes j) here)
        (answer-append (flat_map (lines_by how l) (listed m.attributes j)) (lines_by how l here) ∙ rw (v.answer, passes-accepted _ (check-got _ _ _ h).0))

    mapping-is : mapping_of l (layout_of m) j ≡ mapping_to j o
    unfolding mapping_of layout_of source_answer
    mapping-is = rw (listed_at m.attributes j m.count absent w, (check-got _ _ _ h).1)

  pub made_one : {i : ℕ} → source_answer how l here ≡ got (Some i) → Made how l m (j + 1) (set ms c (record { source = i; target = j })) (c + 1)
  unfolding mapping_to
  made_one {i} h =
      let x : Mapping = record { source = i; target = j } in
      let ys = filter_map (mapping_of l (layout_of m)) (places j) in
      let k : filter_map (mapping_of l (layout_of m)) (places (j + 1)) ≡ ys ++ (x ∷ []) = joins-one (mapping_of l (layout_of m)) j (mapping-is h) in
      let n : length ys < 32 = omega (arith, v.count, v.few) in
      record {
        answer = answer-more h;
        mappings = rw (k, v.mappings, v.count) (filled_more ys x n);
        count = rw (k, length-append ys (x ∷ []), v.count);
        few = omega (arith, v.few);
      }

  pub made_same : source_answer how l here ≡ got None → Made how l m (j + 1) ms c
  unfolding mapping_to
  made_same h =
      let k = joins-none (mapping_of l (layout_of m)) j (mapping-is h) in
      record { answer = answer-more h; mappings = rw k v.mappings; count = rw k v.count; few = omega (arith, v.few) }
