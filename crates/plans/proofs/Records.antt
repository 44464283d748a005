-- The records that the makers hand back stand for the plans that the definitions give.
use Rattle.std.specs.Prelude.{◌≡◌, ◌∷◌, ◌++◌, ◌≤◌, ◌<◌, ◌+◌, ◌-◌}
use Rattle.common.specs.Logic.{◌∙◌, sym, ap, refl, List, [], None, Some, Option, ℕ, arith, length, set, length-append, replicate, length-set}
use lib.Seq.{take_at, take-set-lt}
use Rattle.common.specs.Lists.{place_from}
use Rattle.common.specs.Refusal.{got}
use Rattle.common.proofs.Lists.{first-take, first-set}
use Rattle.common.proofs.Refusals.{check-got}
use Rattle.layout.specs.Makers.{empty_layout}
use Rattle.layout.specs.Records.{layout_of}
use Rattle.layout.specs.declared.point_layout.PointLayout.{PointLayout}
use Rattle.layout.proofs.Records.{record-claim as layout-claim}
use Rattle.plans.specs.Claims.{RecordClaim, Stands}
use Rattle.plans.specs.Makers.{has_target, placed_at, with_mapping, default_plan, for_layouts, for_layouts_with_default, custom_plan, set_custom_mapping}
use Rattle.plans.specs.Plan.{Plan}
use Rattle.plans.specs.Records.{no_mapping, mapped, plan_of, filled, empty_plan, plan_answer, default_slots, for_layouts_answer, with_default_answer, slot_in, slot_of, custom_answer}
use Rattle.plans.specs.declared.plan.Mapping.{Mapping}
use Rattle.plans.specs.declared.plan.Plan.{Plan as PlanRecord}
use Rattle.plans.proofs.Accepted.{makers-claim}
use Rattle.plans.proofs.Mappings.{plan-has, few-mappings}
use Rattle.plans.proofs.Slots.{mapped-none, length-mapped, slot-found}

empty : plan_of empty_plan ≡ record { source = empty_layout; target = empty_layout; mappings = [] }
unfolding plan_of empty_plan
empty = rw (layout-claim.empty, mapped-none (replicate 32 no_mapping))

-- ---- by name

pub mapped-filled : (xs : List Mapping) → mapped (filled xs) (length xs) ≡ xs
unfolding mapped filled
mapped-filled xs =
    let ys = replicate (32 - length xs) no_mapping in
    first-take no_mapping (xs ++ ys) (length xs) (omega (arith, length-append xs ys)) ∙ take_at xs ys (length xs) refl

-- the default plan is between the two layouts, and its mappings are in the array
stands : (l m : PointLayout) (p : Plan) → default_plan (layout_of l) (layout_of m) ≡ p → Stands (plan_answer l m (default_slots l m) (got p)) p
unfolding plan_of plan_answer default_slots default_plan
stands l m p e = (_, refl, rw (← e, mapped-filled (default_plan (layout_of l) (layout_of m)).mappings))

by_all : (l m : PointLayout) (p : Plan) → for_layouts (layout_of l) (layout_of m) ≡ got p → Stands (for_layouts_answer l m) p
unfolding for_layouts_answer for_layouts
by_all l m p h = rw h (stands l m p (check-got _ _ _ h).1)

by_default : (l m : PointLayout) (p : Plan) → for_layouts_with_default (layout_of l) (layout_of m) ≡ got p → Stands (with_default_answer l m) p
unfolding with_default_answer for_layouts_with_default
by_default l m p h = rw h (stands l m p (check-got _ _ _ h).1)

-- ---- a custom mapping

module _ (ms : List Mapping) (k : ℕ) (x : Mapping) where
  placed-slot : (o : Option ℕ) → ((i : ℕ) → o ≡ Some i → i < k) → length (placed_at (mapped ms k) x o) ≤ length ms → mapped (set ms (slot_in k o) x) (length (placed_at (mapped ms k) x o)) ≡ placed_at (mapped ms k) x o
  unfolding mapped slot_in placed_at
  placed-slot None h few =
      let n : length (mapped ms k ++ (x ∷ [])) ≡ k + 1 = length-append (mapped ms k) (x ∷ []) ∙ rw (length-mapped ms k) in
      rw n (first-set no_mapping ms k x (omega arith))
  placed-slot (Some i) h few =
      let n : length (set (mapped ms k) i x) ≡ k = length-set (mapped ms k) i x ∙ length-mapped ms k in
      let l : k ≤ length ms = omega arith in
      rw n (first-take no_mapping (set ms i x) k (omega (arith, length-set ms i x)) ∙ take-set-lt k ms i x (h i refl) ∙ ap (λ (ys : List Mapping). set ys i x) (sym (first-take no_mapping ms k l)))

  mapped-custom : length (with_mapping (mapped ms k) x) ≤ length ms → mapped (set ms (slot_of ms k x.target) x) (length (with_mapping (mapped ms k) x)) ≡ with_mapping (mapped ms k) x
  unfolding with_mapping slot_of
  mapped-custom few = placed-slot (place_from 0 (has_target x.target) (mapped ms k)) (λ i. slot-found ms k x.target i) few

module _ (p : PlanRecord) (i j : ℕ) (q : Plan) where
  made : set_custom_mapping (plan_of p) i j ≡ got q → custom_plan (plan_of p) (record { source = i; target = j }) ≡ q
  unfolding set_custom_mapping
  made h = (check-got _ _ _ h).1

  stands-custom : custom_plan (plan_of p) (record { source = i; target = j }) ≡ q → length q.mappings ≤ length p.mappings
      → plan_of (record { source = p.source; target = p.target; mappings = set p.mappings (slot_of p.mappings p.count j) (record { source = i; target = j }); count = length q.mappings }) ≡ q
  unfolding custom_plan plan_of
  stands-custom e few = rw (← e, mapped-custom p.mappings p.count (record { source = i; target = j }) (rw (← e) at few))

  by-custom : length p.mappings ≡ 32 → set_custom_mapping (plan_of p) i j ≡ got q → Stands (custom_answer p i j) q
  unfolding custom_answer plan_answer
  by-custom slots h =
      rw h (_, refl, stands-custom (made h) (omega (arith, few-mappings q (plan-has q (makers-claim.custom (plan_of p) q i j h)))))

pub record-claim : RecordClaim
record-claim = record { empty = empty; all = by_all; with-default = by_default; custom = by-custom }
