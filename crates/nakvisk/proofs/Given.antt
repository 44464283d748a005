-- What is handed on in another form and means the same: places past 8 bits.
use Rattle.std.specs.Prelude.{◌≡◌, ◌&&◌, ◌⊎◌, ◌≤◌}
use Rattle.common.specs.Logic.{◌∙◌, sym, ap₂, refl, true, Bool, false, ⊎_elim, inl, inr, ℕ, min, arith, le-ltb, ltb, length}
use Rattle.common.specs.Refusal.{refused, answer, check, outcome}
use Rattle.common.proofs.Lists.{decide, order}
use Rattle.layout.proofs.Soundness.{sound-has}
use Rattle.plans.specs.Makers.{mapping_lines, custom_lines, set_custom_mapping}
use Rattle.plans.specs.Plan.{Plan, is_listed, is_sound_plan}
use Rattle.plans.specs.Records.{plan_of, plan_answer, custom_answer}
use Rattle.plans.specs.declared.plan.Plan.{Plan as PlanRecord}
use Rattle.plans.proofs.Mappings.{plan-has}

-- ---- places

-- a place past every list
not_listed : (p : Plan) (i j : ℕ) → is_sound_plan p ≡ true → (32 ≤ i) ⊎ (32 ≤ j) → is_listed p.source p.target (record { source = i; target = j }) ≡ false
unfolding is_listed
not_listed p i j s (inl h) = rw (le-ltb i (length p.source.attributes) (omega (arith, (sound-has p.source (plan-has p s).source).few)))
not_listed p i j s (inr h) =
    rw (le-ltb j (length p.target.attributes) (omega (arith, (sound-has p.target (plan-has p s).target).few)))
    (neither (ltb i (length p.source.attributes)))
  where
    neither : (b : Bool) → (b && false) ≡ false
    neither true = refl
    neither false = refl

custom-unlisted : (p : Plan) (i j : ℕ) → is_sound_plan p ≡ true → (32 ≤ i) ⊎ (32 ≤ j) → set_custom_mapping p i j ≡ refused 13
unfolding set_custom_mapping custom_lines mapping_lines check outcome answer
custom-unlisted p i j s h = rw (s, not_listed p i j s h)

custom-unsound : (p : Plan) (i j : ℕ) → is_sound_plan p ≡ false → set_custom_mapping p i j ≡ refused 1
unfolding set_custom_mapping custom_lines check outcome answer
custom-unsound p i j s = rw s

custom-refused : (p : PlanRecord) (i j : ℕ) {n : ℕ} → set_custom_mapping (plan_of p) i j ≡ refused n → custom_answer p i j ≡ refused n
unfolding custom_answer plan_answer
custom-refused p i j h = rw h

past-lists : (p : PlanRecord) (i j k m : ℕ) → (32 ≤ i) ⊎ (32 ≤ j) → (32 ≤ k) ⊎ (32 ≤ m) → custom_answer p i j ≡ custom_answer p k m
past-lists p i j k m a b =
    ⊎_elim
    (λ s. custom-refused p i j (custom-unlisted (plan_of p) i j s a) ∙ sym (custom-refused p k m (custom-unlisted (plan_of p) k m s b)))
    (λ s. custom-refused p i j (custom-unsound (plan_of p) i j s) ∙ sym (custom-refused p k m (custom-unsound (plan_of p) k m s)))
    (decide (is_sound_plan (plan_of p)))

pub same-places : (p : PlanRecord) (i j : ℕ) → custom_answer p (min i 255) (min j 255) ≡ custom_answer p i j
same-places p i j =
    ⊎_elim
    (λ a.
    ⊎_elim
    (λ b. let e : min i 255 ≡ i = omega arith in let f : min j 255 ≡ j = omega arith in ap₂ (custom_answer p) e f)
    (λ b. past-lists p (min i 255) (min j 255) i j (inr (omega arith)) (inr (omega arith)))
    (order j 255))
    (λ a. past-lists p (min i 255) (min j 255) i j (inl (omega arith)) (inl (omega arith)))
    (order i 255)
