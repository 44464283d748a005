-- `plans::plan::Plan::sound` meets its contract: more than 32 mappings cannot have distinct targets.
use Rattle.std.specs.Prelude.{◌≡◌, ◌<◌}
use Rattle.common.specs.Logic.{◌∙◌, sym, ap, true, Bool, false, arith}
use Rattle.common.proofs.Lists.{clash}
use Rattle.layout.specs.Layout.{is_sound}
use Rattle.layout.specs.Records.{layout_of}
use Rattle.layout.proofs.Soundness.{count-few}
use Rattle.plans.specs.Plan.{is_sound_plan}
use Rattle.plans.specs.Records.{mapped, plan_of}
use Rattle.plans.specs.Steps.{all_fit}
use Rattle.plans.specs.declared.plan.Plan.{Plan as PlanRecord}
use Rattle.plans.proofs.Mappings.{fit-sound, not-sound-plan, few-mappings}
use Rattle.plans.proofs.Slots.{length-mapped, mapped-take}
use Rattle.plans.proofs.plan.Plan.sound.Goals.{then-not-sound-via-then-not-sound, then-not-sound-via-else-not-sound+then-not-sound-2, then-not-sound-via-else-not-sound+else-not-sound-2+then-self-gt32}
use Rattle.plans.proofs.plan.Plan.sound.Goals as goal

module _ (p : PlanRecord) where
  no_source : is_sound (layout_of p.source) ≡ false → false ≡ is_sound_plan (plan_of p)
  unfolding plan_of
  no_source h = sym (not-sound-plan (plan_of p) (λ s. clash s.source h))

  no_target : is_sound (layout_of p.target) ≡ false → false ≡ is_sound_plan (plan_of p)
  unfolding plan_of
  no_target h = sym (not-sound-plan (plan_of p) (λ s. clash s.target h))

  too_many : 32 < p.count → false ≡ is_sound_plan (plan_of p)
  unfolding plan_of
  too_many h = sym (not-sound-plan (plan_of p) (λ s. omega (arith, few-mappings (plan_of p) s, length-mapped p.mappings p.count)))

  whole : {r : Bool} → is_sound (layout_of p.source) ≡ true → is_sound (layout_of p.target) ≡ true → r ≡ all_fit (layout_of p.source) (layout_of p.target) (mapped p.mappings p.count) → r ≡ is_sound_plan (plan_of p)
  unfolding plan_of
  whole s t e = e ∙ fit-sound (plan_of p) s t

pub returns-then-not-sound : goal.returns-then-not-sound
returns-then-not-sound c =
    elim c.then-not-sound.branch [
      | then-not-sound-via-then-not-sound w ↦ no_source c.args.self (sym c.sound.ensures ∙ w.if-not-sound.true)
      | then-not-sound-via-else-not-sound+then-not-sound-2 w ↦ no_target c.args.self (sym w.sound-else-not-sound.ensures ∙ w.if-not-sound-2.true)
      | then-not-sound-via-else-not-sound+else-not-sound-2+then-self-gt32 w ↦ too_many c.args.self w.if-self-gt32.true
    ]

pub all_fit-requires : goal.all_fit-requires
all_fit-requires c = (count-few c.args.self.source (sym c.sound.ensures ∙ c.if-not-sound.false), count-few c.args.self.target (sym c.sound-else-not-sound.ensures ∙ c.if-not-sound-2.false))

pub returns : goal.returns
returns c = whole c.args.self (sym c.sound.ensures ∙ c.if-not-sound.false) (sym c.sound-else-not-sound.ensures ∙ c.if-not-sound-2.false) (c.all_fit.ensures ∙ ap (all_fit (layout_of c.args.self.source) (layout_of c.args.self.target)) (sym (mapped-take c.args.self.mappings c.args.self.count (omega arith))))
