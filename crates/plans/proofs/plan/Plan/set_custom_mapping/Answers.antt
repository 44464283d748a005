-- `plans::plan::Plan::set_custom_mapping` meets its contract. The array has a slot for the mapping, since the plan with it is sound.
use Rattle.std.specs.Prelude.{◌≡◌, ◌<◌, ◌≤◌}
use Rattle.common.specs.Logic.{◌∙◌, sym, ap, rules, true, Some, Option, ℕ, arith, not-false, length, take, set}
use Rattle.common.specs.Lists.{place_from}
use Rattle.common.specs.Refusal.{Outcome, got, refused, answer, answered, Answer}
use Rattle.common.specs.Refusal.{Accepted, Refused}
use Rattle.common.proofs.Lists.{place_found}
use Rattle.common.proofs.Refusals.{passes-cons, accepted-passes}
use Rattle.layout.specs.Records.{layout_of}
use Rattle.plans.specs.Makers.{has_target, with_mapping, mapping_lines, custom_plan, custom_lines, set_custom_mapping}
use Rattle.plans.specs.Plan.{is_sound_plan}
use Rattle.plans.specs.Records.{no_mapping, mapped, plan_of, slot_of, custom_answer}
use Rattle.plans.specs.declared.plan.Mapping.{Mapping}
use Rattle.plans.specs.declared.plan.Plan.{Plan as PlanRecord}
use Rattle.plans.proofs.Answers.{answer-refused, answer-accepted, custom-unsound, custom-lines}
use Rattle.plans.proofs.Custom.{custom-sound, joined-slot, joined-count, replaced-slot, replaced-count}
use Rattle.plans.proofs.Facts.{plan-counts}
use Rattle.plans.proofs.Mappings.{plan-has, few-mappings}
use Rattle.plans.proofs.Slots.{length-mapped, mapped-take}
use Rattle.plans.proofs.plan.Plan.set_custom_mapping.Goals as goal

abbrev new : ℕ → ℕ → Mapping
new i j = record { source = i; target = j }

-- the search of the target
module _ (p : PlanRecord) (j : ℕ) where
  search-is : {o q : Option ℕ} → p.count ≤ length p.mappings → o ≡ place_from 0 (has_target j) (take p.count p.mappings) → o ≡ q → place_from 0 (has_target j) (mapped p.mappings p.count) ≡ q
  search-is h e q = rw (mapped-take p.mappings p.count h) (sym e ∙ q)

  below : {k : ℕ} → place_from 0 (has_target j) (mapped p.mappings p.count) ≡ Some k → k < p.count
  below {k} e = omega (arith, (place_found (has_target j) (mapped p.mappings p.count) k no_mapping e).0, length-mapped p.mappings p.count)

module _ (p : PlanRecord) (i j : ℕ) where
  stopped : {n : ℕ} → answer (custom_lines (plan_of p) (new i j)) ≡ Refused n → ◌≡◌ {A = Outcome PlanRecord} (refused n) (custom_answer p i j)
  unfolding custom_answer set_custom_mapping
  stopped h = answer-refused p.source p.target _ (custom_lines (plan_of p) (new i j)) (custom_plan (plan_of p) (new i j)) h

  module _ (s : is_sound_plan (plan_of p) ≡ true) {a : Answer} (e : a ≡ answer (mapping_lines (layout_of p.source) (layout_of p.target) (new i j))) where
    told : a ≡ answer (custom_lines (plan_of p) (new i j))
    unfolding plan_of
    told = e ∙ sym (custom-lines (plan_of p) (new i j) s)

    -- the plan with the mapping has no more mappings than the array has slots
    few : a ≡ Accepted → length (with_mapping (mapped p.mappings p.count) (new i j)) ≤ 32
    unfolding plan_of mapping_lines custom_plan
    few h =
        let t = passes-cons _ _ _ (accepted-passes _ (sym e ∙ h)) in
        let u = passes-cons _ _ _ t.1 in
        few-mappings (custom_plan (plan_of p) (new i j)) (custom-sound (plan_of p) (new i j) (plan-has (plan_of p) s) (not-false _ t.0) (not-false _ u.0))

    accepted : {k c : ℕ} → a ≡ Accepted → slot_of p.mappings p.count j ≡ k → length (with_mapping (mapped p.mappings p.count) (new i j)) ≡ c
        → ◌≡◌ {A = Outcome PlanRecord} (got (record { source = p.source; target = p.target; mappings = set p.mappings k (new i j); count = c })) (custom_answer p i j)
    unfolding custom_answer set_custom_mapping custom_plan plan_of
    accepted h k c =
        rw (← k) (answer-accepted p.source p.target (set p.mappings (slot_of p.mappings p.count j) (new i j)) (custom_lines (plan_of p) (new i j)) (custom_plan (plan_of p) (new i j)) (sym told ∙ h) (sym c))

pub returns-then-not-sound : goal.returns-then-not-sound
returns-then-not-sound c = stopped c.args.self c.args.source_place c.args.target_place (custom-unsound _ _ (sym c.sound.ensures ∙ c.if-not-sound.true))

pub check_mapping-requires : goal.check_mapping-requires
check_mapping-requires c = let w = plan-counts c.args.self (sym c.sound.ensures ∙ c.if-not-sound.false) in (w.1, w.2)

pub returns-in_err-check_mapping : goal.returns-in_err-check_mapping
returns-in_err-check_mapping c =
    rw (← stopped c.args.self c.args.source_place c.args.target_place (sym (told c.args.self c.args.source_place c.args.target_place (sym c.sound.ensures ∙ c.if-not-sound.false) c.check_mapping.ensures) ∙ ap answered c.in_err-check_mapping.was)) (search rules)

pub shared_ref_as_front-place_of_target : goal.shared_ref_as_front-place_of_target
shared_ref_as_front-place_of_target c = (plan-counts c.args.self (sym c.sound.ensures ∙ c.if-not-sound.false)).0

pub offset_bounds-plan-i : goal.offset_bounds-plan-i
offset_bounds-plan-i c =
    let few = (plan-counts c.args.self (sym c.sound.ensures ∙ c.if-not-sound.false)).0 in
    omega (arith, few, below c.args.self c.args.target_place (search-is c.args.self c.args.target_place (omega (arith, few)) c.place_of_target.ensures c.in-Some.is))

pub bounds-plan-i : goal.bounds-plan-i
bounds-plan-i c =
    let few = (plan-counts c.args.self (sym c.sound.ensures ∙ c.if-not-sound.false)).0 in
    omega (arith, few, below c.args.self c.args.target_place (search-is c.args.self c.args.target_place (omega (arith, few)) c.place_of_target.ensures c.in-Some.is))

pub bounds-plan-count : goal.bounds-plan-count
bounds-plan-count c =
    let s = sym c.sound.ensures ∙ c.if-not-sound.false in
    let n = search-is c.args.self c.args.target_place (omega (arith, (plan-counts c.args.self s).0)) c.place_of_target.ensures c.in-None.is in
    omega (
      arith,
      joined-count c.args.self.mappings c.args.self.count (new c.args.source_place c.args.target_place) n,
      few c.args.self c.args.source_place c.args.target_place s c.check_mapping.ensures (ap answered c.in_ok-check_mapping.was),
    )

pub returns-in-Some : goal.returns-in-Some
returns-in-Some c =
    let s = sym c.sound.ensures ∙ c.if-not-sound.false in
    let x = new c.args.source_place c.args.target_place in
    let f = search-is c.args.self c.args.target_place (omega (arith, (plan-counts c.args.self s).0)) c.place_of_target.ensures c.in-Some.is in
    accepted c.args.self c.args.source_place c.args.target_place s c.check_mapping.ensures (ap answered c.in_ok-check_mapping.was) (replaced-slot c.args.self.mappings c.args.self.count x f) (replaced-count c.args.self.mappings c.args.self.count x f)

pub returns-in-None : goal.returns-in-None
returns-in-None c =
    let s = sym c.sound.ensures ∙ c.if-not-sound.false in
    let x = new c.args.source_place c.args.target_place in
    let n = search-is c.args.self c.args.target_place (omega (arith, (plan-counts c.args.self s).0)) c.place_of_target.ensures c.in-None.is in
    accepted c.args.self c.args.source_place c.args.target_place s c.check_mapping.ensures (ap answered c.in_ok-check_mapping.was) (joined-slot c.args.self.mappings c.args.self.count x n) (joined-count c.args.self.mappings c.args.self.count x n)
