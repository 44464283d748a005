-- What the makers hand back, by the answer to their lines.
use Rattle.std.specs.Prelude.{◌≡◌}
use Rattle.common.specs.Logic.{true, false, List, flat_map, ℕ, length}
use Rattle.common.specs.Refusal.{Line, Outcome, got, refused, answer, outcome, check}
use Rattle.common.specs.Refusal.{Accepted, Refused}
use Rattle.layout.specs.Layout.{Layout, is_sound}
use Rattle.layout.specs.declared.point_layout.PointLayout.{PointLayout}
use Rattle.plans.specs.Makers.{layouts_lines, mapping_lines, custom_lines}
use Rattle.plans.specs.Plan.{Plan, is_sound_plan}
use Rattle.plans.specs.Records.{plan_answer}
use Rattle.plans.specs.Steps.{lines_by, lines_for}
use Rattle.plans.specs.declared.plan.Mapping.{Mapping}
use Rattle.plans.specs.declared.plan.MissingSource.{MissingSource}
use Rattle.plans.specs.declared.plan.Plan.{Plan as PlanRecord}

pub answer-refused : (l m : PointLayout) (ms : List Mapping) (ls : List Line) (k : Plan) {n : ℕ} → answer ls ≡ Refused n → ◌≡◌ {A = Outcome PlanRecord} (refused n) (plan_answer l m ms (check ls k))
unfolding check outcome plan_answer
answer-refused l m ms ls k h = rw h

pub answer-accepted : (l m : PointLayout) (ms : List Mapping) (ls : List Line) (k : Plan) {c : ℕ} → answer ls ≡ Accepted → c ≡ length k.mappings
    → ◌≡◌ {A = Outcome PlanRecord} (got (record { source = l; target = m; mappings = ms; count = c })) (plan_answer l m ms (check ls k))
unfolding check outcome plan_answer
answer-accepted l m ms ls k h e = rw (h, e)

-- ---- the lines of the makers by name

module _ (missing : MissingSource) (l m : Layout) where
  pub source-unsound : is_sound l ≡ false → answer (lines_for missing l m) ≡ Refused 1
  unfolding lines_for layouts_lines answer
  source-unsound h = rw h

  pub target-unsound : is_sound l ≡ true → is_sound m ≡ false → answer (lines_for missing l m) ≡ Refused 1
  unfolding lines_for layouts_lines answer
  target-unsound s h = rw (s, h)

  pub both-sound : is_sound l ≡ true → is_sound m ≡ true → answer (lines_for missing l m) ≡ answer (flat_map (lines_by missing l) m.attributes)
  unfolding lines_for layouts_lines answer
  both-sound s t = rw (s, t)

-- ---- the lines of `set_custom_mapping`

pub custom-unsound : (p : Plan) (x : Mapping) → is_sound_plan p ≡ false → answer (custom_lines p x) ≡ Refused 1
unfolding custom_lines answer
custom-unsound p x h = rw h

pub custom-lines : (p : Plan) (x : Mapping) → is_sound_plan p ≡ true → answer (custom_lines p x) ≡ answer (mapping_lines p.source p.target x)
unfolding custom_lines answer
custom-lines p x h = rw h
