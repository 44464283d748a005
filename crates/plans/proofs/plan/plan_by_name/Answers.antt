-- `plans::plan::plan_by_name` meets its contract. The invariant: what it says of the targets passed.
use Rattle.std.specs.Prelude.{◌≡◌, ◌<◌, Ok}
use Rattle.common.specs.Logic.{◌∙◌, sym, ap, refl, subst, rules, true, List, filter_map, None, Some, Option, ℕ, arith, length, get_or}
use Rattle.common.specs.Refusal.{Outcome, got, refused, answer, outcome_of}
use Rattle.common.specs.Refusal.{Refused}
use Rattle.common.proofs.Lists.{place_found}
use Rattle.common.proofs.Refusals.{check-got}
use Rattle.layout.specs.Layout.{Attribute, absent, is_sound}
use Rattle.layout.specs.Lookup.{named}
use Rattle.layout.specs.Records.{attribute_of, missing, layout_of}
use Rattle.layout.specs.declared.point_layout.PointLayout.{PointLayout}
use Rattle.layout.proofs.Listed.{length-listed}
use Rattle.layout.proofs.Soundness.{count-few, good-at}
use Rattle.plans.specs.Makers.{mapping_of, places, default_plan, source_of}
use Rattle.plans.specs.Records.{filled, default_slots}
use Rattle.plans.specs.Steps.{lines_for, source_answer, by_name_answer}
use Rattle.plans.specs.declared.plan.Mapping.{Mapping}
use Rattle.plans.specs.declared.plan.MissingSource.{MissingSource}
use Rattle.plans.specs.declared.plan.Plan.{Plan as PlanRecord}
use Rattle.plans.proofs.Answers.{answer-refused, answer-accepted, source-unsound, target-unsound, both-sound}
use Rattle.plans.proofs.Defaults.{Made, made_none, made-refused, made_one, made_same}
use Rattle.plans.proofs.plan.plan_by_name.Goals.{in-Some, in_default, then-not-sound-via-then-not-sound, then-not-sound-via-else-not-sound+then-not-sound-2}
use Rattle.plans.proofs.plan.plan_by_name.Goals as goal

-- a place that was found is one of the source's
place-below : (how : MissingSource) (l : PointLayout) (a : Attribute) {i : ℕ} → is_sound (layout_of l) ≡ true → source_answer how (layout_of l) a ≡ got (Some i) → i < 32
unfolding source_answer source_of layout_of
place-below how l a {i} s h =
    let f = place_found (named a.definition.name) _ i absent (check-got _ _ _ h).1 in
    omega (arith, f.0, count-few l s, length-listed l.attributes l.count)

no-place : (o : Option ℕ) → ((i : ℕ) → o ≡ Some i → ⊥) → o ≡ None
no-place None h = refl
no-place (Some i) h = absurd (h i refl)

module _ (how : MissingSource) (l m : PointLayout) where
  stopped : {n : ℕ} → answer (lines_for how (layout_of l) (layout_of m)) ≡ Refused n → ◌≡◌ {A = Outcome PlanRecord} (refused n) (by_name_answer how l m)
  unfolding by_name_answer
  stopped h = answer-refused l m (default_slots l m) (lines_for how (layout_of l) (layout_of m)) (default_plan (layout_of l) (layout_of m)) h

  slots-are : default_slots l m ≡ filled (filter_map (mapping_of (layout_of l) (layout_of m)) (places m.count))
  unfolding default_slots default_plan layout_of
  slots-are = ap (λ (n : ℕ). filled (filter_map (mapping_of (layout_of l) (layout_of m)) (places n))) (length-listed m.attributes m.count)

  count-is : length (default_plan (layout_of l) (layout_of m)).mappings ≡ length (filter_map (mapping_of (layout_of l) (layout_of m)) (places m.count))
  unfolding default_plan layout_of
  count-is = ap (λ (n : ℕ). length (filter_map (mapping_of (layout_of l) (layout_of m)) (places n))) (length-listed m.attributes m.count)

  module _ (s : is_sound (layout_of l) ≡ true) (t : is_sound (layout_of m) ≡ true) where
    refused-there : {j : ℕ} {ms : List Mapping} {c n : ℕ} → Made how (layout_of l) m j ms c → j < m.count → source_answer how (layout_of l) (attribute_of (get_or m.attributes j missing)) ≡ refused n → ◌≡◌ {A = Outcome PlanRecord} (refused n) (by_name_answer how l m)
    unfolding layout_of
    refused-there {j} v w h = stopped (both-sound how (layout_of l) (layout_of m) s t ∙ made-refused how (layout_of l) m j v w (count-few m t) h)

    accepted : {j : ℕ} {ms : List Mapping} {c : ℕ} → Made how (layout_of l) m j ms c → j ≡ m.count → ◌≡◌ {A = Outcome PlanRecord} (got (record { source = l; target = m; mappings = ms; count = c })) (by_name_answer how l m)
    unfolding by_name_answer layout_of
    accepted {j} {ms} {c} v e =
        let w = subst (λ (n : ℕ). Made how (layout_of l) m n ms c) e v in
        rw (w.mappings ∙ sym slots-are)
        (answer-accepted l m (default_slots l m) (lines_for how (layout_of l) (layout_of m)) (default_plan (layout_of l) (layout_of m)) (both-sound how (layout_of l) (layout_of m) s t ∙ w.answer) (w.count ∙ sym count-is))

pub returns-then-not-sound : goal.returns-then-not-sound
returns-then-not-sound c =
    elim c.then-not-sound.branch [
      | then-not-sound-via-then-not-sound w ↦ stopped c.args.missing c.args.source c.args.target (source-unsound _ _ _ (sym c.sound.ensures ∙ w.if-not-sound.true))
      | then-not-sound-via-else-not-sound+then-not-sound-2 w ↦ stopped c.args.missing c.args.source c.args.target (target-unsound _ _ _ (sym c.sound.ensures ∙ w.if-not-sound.false) (sym w.sound-else-not-sound.ensures ∙ w.if-not-sound-2.true))
    ]

pub loop-j-init : goal.loop-j-init
loop-j-init c = made_none _ _ _

pub bounds-target-at : goal.bounds-target-at
bounds-target-at c = omega (arith, count-few c.args.target (sym c.sound-else-not-sound.ensures ∙ c.if-not-sound-2.false))

pub source_for-requires : goal.source_for-requires
source_for-requires c =
    (sym c.sound.ensures ∙ c.if-not-sound.false, good-at c.args.target _ (sym c.sound-else-not-sound.ensures ∙ c.if-not-sound-2.false) (omega arith))

pub returns-in_err-found : goal.returns-in_err-found
returns-in_err-found c =
    rw (← refused-there c.args.missing c.args.source c.args.target (sym c.sound.ensures ∙ c.if-not-sound.false) (sym c.sound-else-not-sound.ensures ∙ c.if-not-sound-2.false) c.loop-j.invariant (omega arith)
    (sym c.source_for.ensures ∙ ap outcome_of c.in_err-found.was)) (search rules)

pub overflow_cast-mappings : goal.overflow_cast-mappings
overflow_cast-mappings c =
    omega (arith, place-below c.args.missing c.args.source _ (sym c.sound.ensures ∙ c.if-not-sound.false) (sym c.source_for.ensures ∙ ap outcome_of (c.in_ok-found.was ∙ ap Ok c.in-Some.is)))

pub bounds-mappings-count : goal.bounds-mappings-count
bounds-mappings-count c = omega (arith, c.loop-j.invariant.few, count-few c.args.target (sym c.sound-else-not-sound.ensures ∙ c.if-not-sound-2.false))

pub loop-j-preserved : goal.loop-j-preserved
loop-j-preserved c =
    let v = c.loop-j.invariant in
    let few = count-few c.args.target (sym c.sound-else-not-sound.ensures ∙ c.if-not-sound-2.false) in
    elim c.match-found.branch [
      | in-Some w ↦ rw (w.mappings-is, w.count-is) (made_one c.args.missing _ c.args.target c.loop-j.j v (omega arith) few (sym c.source_for.ensures ∙ ap outcome_of (c.in_ok-found.was ∙ ap Ok w.in-Some.is)))
      | in_default w ↦ rw (w.mappings-is, w.count-is) (made_same c.args.missing _ c.args.target c.loop-j.j v (omega arith) few (sym c.source_for.ensures ∙ ap outcome_of (c.in_ok-found.was ∙ ap Ok (no-place c.in_ok-found.found w.in_default.not-Some))))
    ]

pub returns : goal.returns
returns c =
    accepted c.args.missing c.args.source c.args.target (sym c.sound.ensures ∙ c.if-not-sound.false) (sym c.sound-else-not-sound.ensures ∙ c.if-not-sound-2.false) c.loop-j.invariant (omega arith)
