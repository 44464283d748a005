-- The place in three sheets, step by step: the mapping sheet, the sheets in turn, the frame.
use Rattle.std.specs.Prelude.{◌≡◌, ◌++◌, ◌≤◌, ◌<◌, Option, None, Some}
use Rattle.common.specs.Logic.{◌∙◌, sym, ap, List, [], append-nil, ℕ, arith, length, take, length-append}
use lib.Seq.{take_all}
use Rattle.common.specs.Refusal.{Outcome, got, refused}
use Rattle.layout.specs.Records.{layout_of}
use Rattle.layout.specs.declared.point_layout.PointLayout.{PointLayout}
use Rattle.layout_sheets.specs.Records.{sheet_answer}
use Rattle.layout_sheets.specs.Sheet.{layout_sheet}
use Rattle.layout_sheets.proofs.Layouts.{layout-record, sheet-accepted, sheet-refused}
use Rattle.plans.specs.declared.plan.Plan.{Plan as PlanRecord}
use Rattle.refusal_place.specs.Place.{attribute_place, line_place, place_or, mapping_place, sheets_place, refusal_place}
use Rattle.refusal_place.specs.declared.RefusalPlace.{RefusalPlace}
use Rattle.refusal_place.specs.declared.RefusalPlace.TheVariants.{Input}
use Rattle.refusal_place.specs.declared.SheetKind.TheVariants.{Source, Target}
use Rattle.sheets.specs.Frame.{Sheets, frame}
use Rattle.sheets.specs.Mapping.{mapping_sheet}
use Rattle.sheets.specs.Records.{mapping_answer}
use Rattle.sheets.proofs.Frames.{too_long}
use Rattle.sheets.proofs.Plans.{plan-accepted, plan-refused}

-- ---- in turn

module _ {X : Type 0} (place : ℕ → RefusalPlace) (later : X → Option RefusalPlace) where
  pub or-got : {o : Outcome X} {x : X} → o ≡ got x → place_or o place later ≡ later x
  unfolding place_or
  or-got e = rw e

  pub or-refused : {o : Outcome X} {n : ℕ} → o ≡ refused n → place_or o place later ≡ Some (place n)
  unfolding place_or
  or-refused e = rw e

module _ (l m : PointLayout) (s : List ℕ) where
  pub mapping-accepted : {p : PlanRecord} → got p ≡ mapping_answer l m (mapping_sheet (layout_of l) (layout_of m) s) → None ≡ mapping_place (layout_of l) (layout_of m) s
  unfolding mapping_place
  mapping-accepted e = sym (or-got _ _ (plan-accepted l m (mapping_sheet (layout_of l) (layout_of m) s) e).1)

  pub mapping-refused : {n : ℕ} → refused n ≡ mapping_answer l m (mapping_sheet (layout_of l) (layout_of m) s) → Some (line_place (layout_of l) (layout_of m) s n) ≡ mapping_place (layout_of l) (layout_of m) s
  unfolding mapping_place
  mapping-refused e = sym (or-refused _ _ (plan-refused l m (mapping_sheet (layout_of l) (layout_of m) s) e))

module _ (f : Sheets) where
  pub source-refused : {n : ℕ} → refused n ≡ sheet_answer (layout_sheet f.source) → Some (attribute_place Source f.source n) ≡ sheets_place f
  unfolding sheets_place
  source-refused e = sym (or-refused _ _ (sheet-refused (layout_sheet f.source) e))

  module _ {a : PointLayout} (h : got a ≡ sheet_answer (layout_sheet f.source)) where
    pub target-refused : {n : ℕ} → refused n ≡ sheet_answer (layout_sheet f.target) → Some (attribute_place Target f.target n) ≡ sheets_place f
    unfolding sheets_place
    target-refused e = sym (or-got _ _ (sheet-accepted (layout_sheet f.source) h).1 ∙ or-refused _ _ (sheet-refused (layout_sheet f.target) e))

    pub mapping-read : {b : PointLayout} → got b ≡ sheet_answer (layout_sheet f.target) → mapping_place (layout_of a) (layout_of b) f.mapping ≡ sheets_place f
    unfolding sheets_place
    mapping-read {b} g =
        let v = sheet-accepted (layout_sheet f.source) h in
        let w = sheet-accepted (layout_sheet f.target) g in
        let d : layout_of a ≡ v.0 = ap layout_of v.2 ∙ layout-record v.0 in
        let e : layout_of b ≡ w.0 = ap layout_of w.2 ∙ layout-record w.0 in
        rw (d, e) (sym (or-got _ _ v.1 ∙ or-got _ _ w.1))

-- ---- the frame

module _ (s : List ℕ) where
  pub not-framed : {n : ℕ} → refused n ≡ frame s → Some Input ≡ refusal_place s
  unfolding refusal_place
  not-framed h = sym (or-refused _ _ (sym h))

  pub framed-place : {f : Sheets} → got f ≡ frame s → sheets_place f ≡ refusal_place s
  unfolding refusal_place
  framed-place h = sym (or-got _ _ (sym h))

-- what follows the bytes that were read, where it follows only a full buffer, changes nothing
module _ (s : List ℕ) (h : 4096 < length s) (n : ℕ) (rest : List ℕ) (only : n < length s → rest ≡ []) where
  pub whole-place : n < length s → refusal_place (take n s) ≡ refusal_place (take n s ++ rest)
  whole-place l = rw (only l) (ap refusal_place (sym (append-nil (take n s))))

  pub filled-place : length s ≤ n → refusal_place s ≡ refusal_place (take n s ++ rest)
  filled-place l =
      sym (not-framed s (too_long s h)) ∙ rw (take_all n s l) (not-framed (s ++ rest) (too_long (s ++ rest) (omega (arith, length-append s rest))))
