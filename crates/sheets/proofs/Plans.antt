-- The plans of a mapping sheet: what the makers hand back of a plan whose slots past the count are empty, and the loop over the lines.
use Rattle.std.specs.Prelude.{◌≡◌, ◌∷◌, ◌≤◌, ◌<◌, ◌+◌, ◌-◌}
use Rattle.common.specs.Logic.{◌∙◌, sym, ap, refl, subst, true, Bool, false, List, [], None, Some, Option, ℕ, arith, eq-eqb, ne_eqb, length, get_or, set, take, length-append, replicate, length-set}
use lib.Seq.{set-append_left}
use Rattle.common.specs.Lists.{place_from}
use Rattle.common.specs.Refusal.{Line, Outcome, got, refused, answer, outcome, check, answer_of, and_then}
use Rattle.common.specs.Refusal.{Answer, Accepted, Refused}
use Rattle.common.proofs.Lists.{place_found}
use Rattle.common.proofs.Refusals.{check-got, then-got, then-refused, got-then}
use Rattle.format.specs.Bits.{zero_fill}
use Rattle.format.specs.Format.{start_by}
use Rattle.layout.specs.Layout.{Layout, is_sound}
use Rattle.layout.specs.Records.{layout_of}
use Rattle.layout.specs.declared.point_layout.PointLayout.{PointLayout}
use Rattle.layout_sheets.specs.Place.{Place}
use Rattle.layout_sheets.specs.Reader.{left, reads}
use Rattle.layout_sheets.specs.Sheet.{in_turn}
use Rattle.layout_sheets.proofs.Readers.{start, rest-cut, rest-goes-on, rest-ends, start-cut, start-read}
use Rattle.layout_sheets.proofs.Turns.{turn-keeps, turn-here, turn-ends}
use Rattle.plans.specs.Makers.{has_target, placed_at, with_mapping, default_plan, layouts_lines, for_layouts, for_layouts_with_default, custom_plan, set_custom_mapping}
use Rattle.plans.specs.Plan.{Plan}
use Rattle.plans.specs.Records.{no_mapping, mapped, plan_of, filled, plan_answer, default_slots, for_layouts_answer, with_default_answer, slot_in, slot_of, custom_answer}
use Rattle.plans.specs.declared.plan.Mapping.{Mapping}
use Rattle.plans.specs.declared.plan.Plan.{Plan as PlanRecord}
use Rattle.plans.proofs.Accepted.{makers-claim}
use Rattle.plans.proofs.Mappings.{plan-has, few-mappings}
use Rattle.plans.proofs.Records.{mapped-filled}
use Rattle.plans.proofs.Slots.{length-mapped, filled_more}
use Rattle.sheets.specs.Mapping.{MappingContents, mapping_contents, by_name, set_line, set_all, plan_from, plan_by, mapping_sheet, lines_to, first_plan}
use Rattle.sheets.specs.Records.{plan_between, mapping_answer, Emptied}
use Rattle.sheets.proofs.Between.{Between, line-between, name-between}
use Rattle.sheets.proofs.Lines.{whole-lines}

-- ---- a mapping stored in its slot

filled_at : (xs : List Mapping) (x : Mapping) (o : Option ℕ) → ((i : ℕ) → o ≡ Some i → i < length xs) → length (placed_at xs x o) ≤ 32 → set (filled xs) (slot_in (length xs) o) x ≡ filled (placed_at xs x o)
unfolding slot_in placed_at filled
filled_at xs x None h few = filled_more xs x (omega (arith, length-append xs (x ∷ [])))
filled_at xs x (Some i) h few = set-append_left xs (replicate (32 - length xs) no_mapping) i x (h i refl) ∙ rw (length-set xs i x)

filled-custom : (xs : List Mapping) (x : Mapping) → length (with_mapping xs x) ≤ 32 → set (filled xs) (slot_of (filled xs) (length xs) x.target) x ≡ filled (with_mapping xs x)
unfolding slot_of with_mapping
filled-custom xs x few =
    rw (mapped-filled xs) (filled_at xs x (place_from 0 (has_target x.target) xs) (λ i e. (place_found (has_target x.target) xs i no_mapping e).0) few)

-- ---- what the makers hand back

module _ (l m : PointLayout) where
  pub plan-between : (p : Plan) → Between (layout_of l) (layout_of m) p → plan_of (plan_between l m p.mappings) ≡ p
  unfolding plan_of plan_between
  plan-between p b = rw (mapped-filled p.mappings, ← b.0, ← b.1)

  custom-outcome : (p : Plan) (x : Mapping) (o : Outcome Plan) → set_custom_mapping p x.source x.target ≡ o
      → plan_answer l m (set (filled p.mappings) (slot_of (filled p.mappings) (length p.mappings) x.target) x) o ≡ mapping_answer l m o
  unfolding plan_answer mapping_answer plan_between set_custom_mapping custom_plan and_then
  custom-outcome p x (refused n) h = refl
  custom-outcome p x (got k) h =
      let e : with_mapping p.mappings x ≡ k.mappings = ap (λ (q : Plan). q.mappings) (check-got _ _ _ h).1 in
      let few : length k.mappings ≤ 32 = few-mappings k (plan-has k (makers-claim.custom p k x.source x.target h)) in
      rw (filled-custom p.mappings x (rw e few), e)

  custom-record : (p : Plan) (x : Mapping) → Between (layout_of l) (layout_of m) p → custom_answer (plan_between l m p.mappings) x.source x.target ≡ mapping_answer l m (set_line p x)
  unfolding custom_answer set_line plan_between
  custom-record p x b = rw (plan-between p b) (custom-outcome p x (set_custom_mapping p x.source x.target) refl)

  -- ---- by name

  default-outcome : (ls : List Line) (o : Outcome Plan) → check ls (default_plan (layout_of l) (layout_of m)) ≡ o → plan_answer l m (default_slots l m) o ≡ mapping_answer l m o
  unfolding plan_answer mapping_answer plan_between default_slots and_then
  default-outcome ls (refused n) h = refl
  default-outcome ls (got k) h = rw (check-got ls _ k h).1

  pub every-name : {b : ℕ} → b ≡ 0 → for_layouts_answer l m ≡ mapping_answer l m (by_name b (layout_of l) (layout_of m))
  unfolding for_layouts_answer for_layouts by_name
  every-name {b} e = rw (eq-eqb b 0 e) (default-outcome _ (for_layouts (layout_of l) (layout_of m)) refl)

  pub found-names : {b : ℕ} → (b ≡ 0 → ⊥) → with_default_answer l m ≡ mapping_answer l m (by_name b (layout_of l) (layout_of m))
  unfolding with_default_answer for_layouts_with_default by_name
  found-names {b} e = rw (ne_eqb b 0 e) (default-outcome _ (for_layouts_with_default (layout_of l) (layout_of m)) refl)

  -- ---- what was handed back

  module _ (o : Outcome Plan) where
    pub plan-refused : {n : ℕ} → refused n ≡ mapping_answer l m o → o ≡ refused n
    unfolding mapping_answer and_then
    plan-refused {n} h = go o h
      where
        go : (o : Outcome Plan) → refused n ≡ and_then o (λ p. got (plan_between l m p.mappings)) → o ≡ refused n
        go (got p) k = absurd (let z : ◌≡◌ {A = ℕ} 0 1 = cc in omega arith)
        go (refused j) k = cc

    pub plan-accepted : {q : PlanRecord} → got q ≡ mapping_answer l m o → (p : Plan) × (o ≡ got p) × (q ≡ plan_between l m p.mappings)
    unfolding mapping_answer
    plan-accepted h = let x = got-then _ o (sym h) in (x.0, x.1, cc)

between-emptied : (l m : PointLayout) (xs : List Mapping) → Emptied (plan_between l m xs)
unfolding plan_between
between-emptied l m xs = ap filled (sym (mapped-filled xs))

-- ---- the loop over the lines

module _ (plan : PlanRecord) where
  -- what the lines give of the plan
  abbrev pub set_lines : List Mapping → Outcome PlanRecord
  set_lines xs = mapping_answer plan.source plan.target (set_all (plan_of plan) xs)

  pub set-start : Emptied plan → got plan ≡ set_lines []
  unfolding set_all in_turn mapping_answer plan_between plan_of and_then
  set-start h =
      ap (λ (ms : List Mapping). got (record { source = plan.source; target = plan.target; mappings = ms; count = plan.count })) h
      ∙ ap (λ (k : ℕ). got (record { source = plan.source; target = plan.target; mappings = filled (mapped plan.mappings plan.count); count = k })) (sym (length-mapped plan.mappings plan.count))

  set-between : (xs : List Mapping) (p : Plan) → set_all (plan_of plan) xs ≡ got p → Between (layout_of plan.source) (layout_of plan.target) p
  unfolding set_all plan_of
  set-between xs p h =
      turn-keeps set_line (Between (layout_of plan.source) (layout_of plan.target)) (line-between (layout_of plan.source) (layout_of plan.target)) (plan_of plan) xs p (refl, refl) h

  module _ (xs : List Mapping) (i : ℕ) (l : i < length xs) {q : PlanRecord} (h : got q ≡ set_lines (take i xs)) where
    abbrev line : Mapping
    line = get_or xs i no_mapping

    set_is : (p : Plan) → set_all (plan_of plan) (take i xs) ≡ got p → q ≡ plan_between plan.source plan.target p.mappings → custom_answer q line.source line.target ≡ mapping_answer plan.source plan.target (set_line p line)
    set_is p g e = ap (λ (k : PlanRecord). custom_answer k line.source line.target) e ∙ custom-record plan.source plan.target p line (set-between (take i xs) p g)

    pub set-turn : custom_answer q line.source line.target ≡ set_lines (take (i + 1) xs)
    unfolding set_all
    set-turn =
        let v = plan-accepted plan.source plan.target (set_all (plan_of plan) (take i xs)) h in
        set_is v.0 v.1 v.2 ∙ ap (mapping_answer plan.source plan.target) (sym (turn-here set_line (plan_of plan) xs i no_mapping l v.1))

    pub set-stop : {n : ℕ} → refused n ≡ custom_answer q line.source line.target → refused n ≡ set_lines xs
    unfolding set_all mapping_answer and_then
    set-stop {n} e =
        let v = plan-accepted plan.source plan.target (set_all (plan_of plan) (take i xs)) h in
        let c = plan-refused plan.source plan.target (set_line v.0 line) (e ∙ set_is v.0 v.1 v.2) in
        ap (mapping_answer plan.source plan.target) (sym (turn-ends set_line (plan_of plan) xs i no_mapping l v.1 c))

-- ---- the plan of a sheet's contents

module _ (l m : PointLayout) (c : MappingContents) where
  abbrev named : Outcome PlanRecord
  named = mapping_answer l m (by_name c.kind (layout_of l) (layout_of m))

  pub from-refused : {n : ℕ} → refused n ≡ named → refused n ≡ mapping_answer l m (plan_from (layout_of l) (layout_of m) c)
  unfolding plan_from mapping_answer and_then
  from-refused e = ap (mapping_answer l m) (sym (then-refused (λ p. set_all p c.lines) (plan-refused l m (by_name c.kind (layout_of l) (layout_of m)) e)))

  module _ {plan : PlanRecord} (e : got plan ≡ named) where
    made : (p : Plan) × (by_name c.kind (layout_of l) (layout_of m) ≡ got p) × (plan ≡ plan_between l m p.mappings)
    made = plan-accepted l m (by_name c.kind (layout_of l) (layout_of m)) e

    pub from-emptied : Emptied plan
    from-emptied = subst Emptied (sym made.2) (between-emptied l m made.0.mappings)

    pub from-accepted : set_lines plan c.lines ≡ mapping_answer l m (plan_from (layout_of l) (layout_of m) c)
    unfolding plan_from plan_between
    from-accepted =
        ap (λ (k : PlanRecord). set_lines k c.lines) made.2
        ∙ ap (λ (p : Plan). mapping_answer l m (set_all p c.lines)) (plan-between l m made.0 (name-between (layout_of l) (layout_of m) c.kind made.0 made.1))
        ∙ ap (mapping_answer l m) (sym (then-got _ made.1))

-- ---- the soundness of the layouts, however much of the sheet is read

module _ (l m : Layout) where
  pub source-unsound : is_sound l ≡ false → Refused 1 ≡ answer (layouts_lines l m)
  unfolding layouts_lines answer
  source-unsound h = rw h

  pub target-unsound : is_sound l ≡ true → is_sound m ≡ false → Refused 1 ≡ answer (layouts_lines l m)
  unfolding layouts_lines answer
  target-unsound a h = rw (a, h)

  pub both-are-sound : is_sound l ≡ true → is_sound m ≡ true → Accepted ≡ answer (layouts_lines l m)
  unfolding layouts_lines answer
  both-are-sound a h = rw (a, h)

  module _ (contents : List ℕ → Outcome MappingContents) (s : List ℕ) where
    unsound-plan : {n : ℕ} → Refused n ≡ answer (layouts_lines l m) → refused n ≡ plan_by contents l m s
    unfolding check outcome and_then
    unsound-plan h = rw (← h)

    sound-plan : Accepted ≡ answer (layouts_lines l m) → plan_by contents l m s ≡ and_then (contents s) (plan_from l m)
    unfolding check outcome and_then
    sound-plan h = rw (← h)

-- ---- the whole sheet

module _ (l m : PointLayout) (s : List ℕ) where
  -- what the sheet gives
  abbrev whole : Outcome PlanRecord
  whole = mapping_answer l m (mapping_sheet (layout_of l) (layout_of m) s)

  pub whole-unsound : {n : ℕ} → Refused n ≡ answer (layouts_lines (layout_of l) (layout_of m)) → refused n ≡ whole
  unfolding mapping_sheet mapping_answer and_then
  whole-unsound h = ap (mapping_answer l m) (unsound-plan (layout_of l) (layout_of m) mapping_contents s h)

  module _ (a : Accepted ≡ answer (layouts_lines (layout_of l) (layout_of m))) where
    whole-refused : {n : ℕ} → mapping_contents s ≡ refused n → refused n ≡ whole
    unfolding mapping_sheet mapping_answer and_then
    whole-refused h = ap (mapping_answer l m) (sym (sound-plan (layout_of l) (layout_of m) mapping_contents s a ∙ then-refused _ h))

    pub whole-stops : {n : ℕ} → refused n ≡ reads (lines_to 32) (start s) → refused n ≡ whole
    whole-stops h = whole-refused (sym (whole-lines s) ∙ rest-cut (lines_to 32) s h)

    module _ {x : MappingContents} {q : Place} (h : got (left x q) ≡ reads (lines_to 32) (start s)) {b : Bool} (z : b ≡ zero_fill q.sheet q.at) where
      pub whole-goes-on : b ≡ false → refused 7 ≡ whole
      whole-goes-on e = whole-refused (sym (whole-lines s) ∙ rest-goes-on (lines_to 32) s h z e)

      pub whole-made : b ≡ true → mapping_answer l m (plan_from (layout_of l) (layout_of m) x) ≡ whole
      unfolding mapping_sheet
      whole-made e =
          ap (mapping_answer l m) (sym (sound-plan (layout_of l) (layout_of m) mapping_contents s a ∙ then-got (plan_from (layout_of l) (layout_of m)) (sym (whole-lines s) ∙ rest-ends (lines_to 32) s h z e)))

-- ---- its first j lines

answer-mapping : (l m : PointLayout) (o : Outcome Plan) → answer_of (mapping_answer l m o) ≡ answer_of o
unfolding mapping_answer and_then answer_of
answer-mapping l m (got p) = refl
answer-mapping l m (refused n) = refl

module _ (l m : PointLayout) (j : ℕ) (s : List ℕ) where
  -- the answer to them
  abbrev part_answer : Answer
  part_answer = answer_of (first_plan (layout_of l) (layout_of m) j s)

  pub first-unsound : {n : ℕ} → Refused n ≡ answer (layouts_lines (layout_of l) (layout_of m)) → Refused n ≡ part_answer
  unfolding first_plan answer_of
  first-unsound h = ap answer_of (unsound-plan (layout_of l) (layout_of m) (λ t. start_by (lines_to j) t 0) s h)

  module _ (a : Accepted ≡ answer (layouts_lines (layout_of l) (layout_of m))) where
    pub first-stops : {n : ℕ} → refused n ≡ reads (lines_to j) (start s) → Refused n ≡ part_answer
    unfolding first_plan answer_of
    first-stops h = ap answer_of (sym (sound-plan (layout_of l) (layout_of m) (λ t. start_by (lines_to j) t 0) s a ∙ then-refused _ (start-cut (lines_to j) s h)))

    module _ {x : MappingContents} {q : Place} (h : got (left x q) ≡ reads (lines_to j) (start s)) where
      first-made : answer_of (plan_from (layout_of l) (layout_of m) x) ≡ part_answer
      unfolding first_plan
      first-made =
          ap answer_of (sym (sound-plan (layout_of l) (layout_of m) (λ t. start_by (lines_to j) t 0) s a ∙ then-got (plan_from (layout_of l) (layout_of m)) (start-read (lines_to j) s h)))

      pub first-refused : {n : ℕ} → refused n ≡ mapping_answer l m (plan_from (layout_of l) (layout_of m) x) → Refused n ≡ part_answer
      unfolding answer_of
      first-refused e = ap answer_of e ∙ answer-mapping l m (plan_from (layout_of l) (layout_of m) x) ∙ first-made

      pub first-accepted : {p : PlanRecord} → got p ≡ mapping_answer l m (plan_from (layout_of l) (layout_of m) x) → Accepted ≡ part_answer
      unfolding answer_of
      first-accepted e = ap answer_of e ∙ answer-mapping l m (plan_from (layout_of l) (layout_of m) x) ∙ first-made
