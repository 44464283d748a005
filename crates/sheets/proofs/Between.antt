-- What holds of each plan that a mapping sheet gives: it is between the two layouts, and it is sound.
use Rattle.std.specs.Prelude.{◌≡◌}
use Rattle.common.specs.Logic.{◌∙◌, sym, ap, refl, true, List, ⊎_elim, ℕ, eqb}
use Rattle.common.specs.Refusal.{Line, Outcome, got, answer, outcome, check, and_then}
use Rattle.common.specs.Refusal.{Answer}
use Rattle.common.specs.Refusal.{Accepted, Refused}
use Rattle.common.proofs.Lists.{decide}
use Rattle.common.proofs.Refusals.{check-got, got-then}
use Rattle.layout.specs.Layout.{Layout, is_sound}
use Rattle.layout_sheets.proofs.Turns.{turn-keeps}
use Rattle.plans.specs.Makers.{default_plan, layouts_lines, for_layouts, for_layouts_with_default, custom_plan, set_custom_mapping}
use Rattle.plans.specs.Plan.{Plan, is_sound_plan}
use Rattle.plans.specs.declared.plan.Mapping.{Mapping}
use Rattle.plans.proofs.Accepted.{makers-claim}
use Rattle.sheets.specs.Mapping.{MappingContents, mapping_contents, by_name, set_line, set_all, plan_from, plan_by, mapping_sheet}

-- what holds by name and is kept by each line holds of the sheet's plan
sheet-keeps : (l m : Layout) (P : Plan → Type 0) → ((b : ℕ) (p : Plan) → by_name b l m ≡ got p → P p) → ((p : Plan) (x : Mapping) (q : Plan) → P p → set_line p x ≡ got q → P q)
    → (s : List ℕ) (p : Plan) → mapping_sheet l m s ≡ got p → P p
unfolding mapping_sheet plan_from set_all
sheet-keeps l m P f k s p h =
    let c = got-then _ (and_then (check (layouts_lines l m) s) mapping_contents) h in
    let d = got-then _ (by_name c.0.kind l m) c.2 in
    turn-keeps set_line P k d.0 c.0.lines p (f c.0.kind d.0 d.1) d.2

-- ---- between the two layouts

abbrev pub Between : Layout → Layout → Plan → Type 0
Between l m p = (p.source ≡ l) × (p.target ≡ m)

module _ (l m : Layout) where
  pub line-between : (p : Plan) (x : Mapping) (q : Plan) → Between l m p → set_line p x ≡ got q → Between l m q
  unfolding set_line set_custom_mapping custom_plan
  line-between p x q b h =
      let e = (check-got _ _ _ h).1 in
      (ap (λ (r : Plan). r.source) (sym e) ∙ b.0, ap (λ (r : Plan). r.target) (sym e) ∙ b.1)

  default-between : (ls : List Line) (p : Plan) → check ls (default_plan l m) ≡ got p → Between l m p
  unfolding default_plan
  default-between ls p h =
      let e = (check-got ls _ p h).1 in
      (ap (λ (r : Plan). r.source) (sym e), ap (λ (r : Plan). r.target) (sym e))

  pub name-between : (b : ℕ) (p : Plan) → by_name b l m ≡ got p → Between l m p
  unfolding by_name for_layouts for_layouts_with_default
  name-between b p h = ⊎_elim (λ e. default-between _ p (rw e at h)) (λ e. default-between _ p (rw e at h)) (decide (eqb b 0))

  pub sheet-between : (s : List ℕ) (p : Plan) → mapping_sheet l m s ≡ got p → Between l m p
  sheet-between = sheet-keeps l m (Between l m) name-between line-between

  -- ---- sound

  pub name-sound : (b : ℕ) (p : Plan) → by_name b l m ≡ got p → is_sound_plan p ≡ true
  unfolding by_name
  name-sound b p h = ⊎_elim (λ e. makers-claim.all l m p (rw e at h)) (λ e. makers-claim.with-default l m p (rw e at h)) (decide (eqb b 0))

  pub line-sound : (p : Plan) (x : Mapping) (q : Plan) → is_sound_plan p ≡ true → set_line p x ≡ got q → is_sound_plan q ≡ true
  unfolding set_line
  line-sound p x q s h = makers-claim.custom p q x.source x.target h

  pub sheet-sound : (s : List ℕ) (p : Plan) → mapping_sheet l m s ≡ got p → is_sound_plan p ≡ true
  sheet-sound = sheet-keeps l m (λ (p : Plan). is_sound_plan p ≡ true) name-sound line-sound

-- ---- however much of the sheet is read

-- two readings that give the same of this sheet give the same plan
pub same-plan : (f g : List ℕ → Outcome MappingContents) (l m : Layout) (s : List ℕ) → f s ≡ g s → plan_by f l m s ≡ plan_by g l m s
unfolding check outcome and_then
same-plan f g l m s h = go (answer (layouts_lines l m))
  where
    go : (a : Answer) → and_then (and_then (outcome a s) f) (plan_from l m) ≡ and_then (and_then (outcome a s) g) (plan_from l m)
    go Accepted = rw h
    go (Refused n) = refl

-- of two sound layouts
pub both-sound : (contents : List ℕ → Outcome MappingContents) (l m : Layout) (s : List ℕ) → is_sound l ≡ true → is_sound m ≡ true → plan_by contents l m s ≡ and_then (contents s) (plan_from l m)
unfolding layouts_lines check answer outcome and_then
both-sound contents l m s a b = rw (a, b)
