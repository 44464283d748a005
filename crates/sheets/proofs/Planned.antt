-- The proofs of `specs.Claims` on mapping sheets, on three sheets, and on the records that are handed back.
use Rattle.std.specs.Prelude.{◌≡◌, ◌⊎◌}
use Rattle.common.specs.Logic.{◌∙◌, sym, ap, refl, true, List, inl, inr, ℕ}
use Rattle.common.specs.Refusal.{got, refused, and_then}
use Rattle.common.proofs.Refusals.{then-refused, got-then}
use Rattle.layout.specs.Layout.{Layout, is_sound}
use Rattle.layout.specs.Records.{layout_of}
use Rattle.layout.specs.declared.point_layout.PointLayout.{PointLayout}
use Rattle.layout_sheets.specs.Records.{layout_record}
use Rattle.layout_sheets.specs.Sheet.{layout_sheet}
use Rattle.layout_sheets.proofs.Layouts.{layout-record}
use Rattle.plans.specs.Claims.{Stands}
use Rattle.plans.specs.Plan.{Plan}
use Rattle.sheets.specs.Claims.{MappingDefectClaim, MappingSheetClaim, FromSheets, ThreeSheetsClaim, FrameDefectClaim, RecordClaim}
use Rattle.sheets.specs.Frame.{Sheets, frame, plan_of_sheets, three_sheets}
use Rattle.sheets.specs.Mapping.{mapping_contents, mapping_sheet}
use Rattle.sheets.specs.Records.{plan_between, mapping_answer, sheets_answer}
use Rattle.sheets.proofs.Between.{both-sound, sheet-between, sheet-sound}
use Rattle.sheets.proofs.Numbers.{among-frame, among-mapping, three-numbers}
use Rattle.sheets.proofs.Frames.{goes_on}
use Rattle.sheets.proofs.Plans.{plan-between}

-- ---- mapping sheets

mapping-defect : (l m : Layout) (s : List ℕ) (n : ℕ) → is_sound l ≡ true → is_sound m ≡ true → mapping_contents s ≡ refused n → mapping_sheet l m s ≡ refused n
unfolding mapping_sheet
mapping-defect l m s n a b h = both-sound mapping_contents l m s a b ∙ then-refused _ h

pub mapping-defect-claim : MappingDefectClaim
mapping-defect-claim =
    record {
      refuses = mapping-defect;
      numbers = among-mapping (λ n. (n ≡ 2) ⊎ ((n ≡ 3) ⊎ (n ≡ 7))) (inl refl) (inr (inr refl)) (inr (inl refl));
    }

pub mapping-sheet-claim : MappingSheetClaim
mapping-sheet-claim = record { sound = sheet-sound; between = sheet-between }

-- ---- three sheets

framed-plan : (f : Sheets) (p : Plan) → plan_of_sheets f ≡ got p
    → (layout_sheet f.source ≡ got p.source) × (layout_sheet f.target ≡ got p.target) × (mapping_sheet p.source p.target f.mapping ≡ got p)
unfolding plan_of_sheets
framed-plan f p h =
    let a = got-then _ (layout_sheet f.source) h in
    let b = got-then _ (layout_sheet f.target) a.2 in
    let c = sheet-between a.0 b.0 f.mapping p b.2 in
    (a.1 ∙ ap got (sym c.0), b.1 ∙ ap got (sym c.1), ap (λ (l : Layout). mapping_sheet l p.target f.mapping) c.0 ∙ ap (λ (m : Layout). mapping_sheet a.0 m f.mapping) c.1 ∙ b.2)

from-sheets : (s : List ℕ) (p : Plan) → three_sheets s ≡ got p → FromSheets s p
unfolding three_sheets
from-sheets s p h =
    let g = got-then plan_of_sheets (frame s) h in
    let f = framed-plan g.0 p g.2 in
    record { sheets = g.0; framed = g.1; source = f.0; target = f.1; mapping = f.2 }

pub three-sheets-claim : ThreeSheetsClaim
three-sheets-claim =
    record {
      sound = λ s p h. let f = from-sheets s p h in sheet-sound p.source p.target f.sheets.mapping p f.mapping;
      from-sheets = from-sheets;
      numbers = three-numbers;
    }

frame-defect : (s : List ℕ) (n : ℕ) → frame s ≡ refused n → three_sheets s ≡ refused n
unfolding three_sheets
frame-defect s n h = then-refused plan_of_sheets h

pub frame-defect-claim : FrameDefectClaim
frame-defect-claim = record { refuses = frame-defect; numbers = among-frame (λ n. (n ≡ 2) ⊎ (n ≡ 7)) (inl refl) (inr refl); long = goes_on }

-- ---- the records

mapping-stands : (l m : PointLayout) (s : List ℕ) (p : Plan) → mapping_sheet (layout_of l) (layout_of m) s ≡ got p → Stands (mapping_answer l m (got p)) p
unfolding mapping_answer and_then
mapping-stands l m s p h =
    (plan_between l m p.mappings, refl, plan-between l m p (sheet-between (layout_of l) (layout_of m) s p h))

three-stands : (p : Plan) → Stands (sheets_answer (got p)) p
unfolding sheets_answer and_then
three-stands p =
    (plan_between (layout_record p.source) (layout_record p.target) p.mappings, refl, plan-between (layout_record p.source) (layout_record p.target) p (sym (layout-record p.source), sym (layout-record p.target)))

pub record-claim : RecordClaim
record-claim = record { mapping = mapping-stands; three = three-stands }
