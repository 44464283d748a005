-- What was read of the sheets, refused or accepted, and what the call then hands back.
use Rattle.std.specs.Prelude.{◌≡◌}
use Rattle.common.specs.Logic.{sym, ap, refl, true, List, ℕ, arith, length}
use Rattle.common.specs.Refusal.{Outcome, got, refused, answer_of, left_by, and_then}
use Rattle.common.proofs.Refusals.{then-got, then-refused, got-then}
use Rattle.layout.specs.Layout.{Layout}
use Rattle.layout.specs.declared.point_layout.PointLayout.{PointLayout}
use Rattle.buffer_conversion.specs.Conversion.{convert_into_range}
use Rattle.buffer_conversion.specs.Lost.{lost_over, converted_answer}
use Rattle.plans.specs.Plan.{Plan, is_sound_plan}
use Rattle.plans.specs.Records.{plan_of}
use Rattle.plans.specs.declared.plan.Plan.{Plan as PlanRecord}
use Rattle.point_buffer.specs.declared.PointRange.{PointRange}
use Rattle.sheets.specs.Frame.{Sheets, plan_of_sheets}
use Rattle.layout_sheets.specs.Records.{layout_record, sheet_answer}
use Rattle.sheets.specs.Records.{sheets_answer}
use Rattle.layout_sheets.specs.Sheet.{layout_sheet}
use Rattle.sheets.proofs.Planned.{mapping-sheet-claim}
use Rattle.listing.specs.Text.{listing}
use Rattle.listing.proofs.Answered.{plan-refused, plan-got}
use Rattle.nakvisk.specs.Calls.{conversion, lost_by_plan, lost_by_sheets, length_left, number_in, point_size, listed}

-- ---- an outcome handed back

module _ {X : Type 0} {o : Outcome X} where
  pub number-returned : {n : ℕ} → o ≡ refused n → n ≡ number_in (answer_of o)
  unfolding number_in answer_of
  number-returned h = rw h

  pub zero-returned : {x : X} → o ≡ got x → 0 ≡ number_in (answer_of o)
  unfolding number_in answer_of
  zero-returned h = rw h

  pub before-left : (b : X) {n : ℕ} → o ≡ refused n → b ≡ left_by b o
  unfolding left_by
  before-left b h = rw h

  pub value-left : (b : X) {x : X} → o ≡ got x → x ≡ left_by b o
  unfolding left_by
  value-left b h = rw h

-- what is carried out
module _ {X Y : Type 0} (o : Outcome X) (z : Y) where
  pub not-done : {n : ℕ} → refused n ≡ converted_answer o z → o ≡ refused n
  unfolding converted_answer
  not-done h = go o h
    where
      go : (p : Outcome X) {n : ℕ} → refused n ≡ converted_answer p z → p ≡ refused n
      go (got x) e = absurd (let q : ◌≡◌ {A = ℕ} 0 1 = cc in omega arith)
      go (refused m) e = cc

  pub done-by : {y : Y} → got y ≡ converted_answer o z → (x : X) × (o ≡ got x) × (y ≡ z)
  unfolding converted_answer
  done-by h = go o h
    where
      go : (p : Outcome X) {y : Y} → got y ≡ converted_answer p z → (x : X) × (p ≡ got x) × (y ≡ z)
      go (got x) e = (x, refl, (cc))
      go (refused m) e = absurd (let q : ◌≡◌ {A = ℕ} 0 1 = cc in omega arith)

module _ (p : Plan) (src : List ℕ) (from : PointRange) (t : List ℕ) (to : PointRange) where
  pub lost-refused : {n : ℕ} → convert_into_range p src from t to ≡ refused n → lost_by_plan p src from t to ≡ refused n
  unfolding lost_by_plan
  lost-refused h = then-refused _ h

  pub lost-got : {x : List ℕ} → convert_into_range p src from t to ≡ got x → lost_by_plan p src from t to ≡ got (lost_over p from src)
  unfolding lost_by_plan
  lost-got h = then-got _ h

-- ---- the plan of three sheets

pub plan-sound : (f : Sheets) (p : Plan) → plan_of_sheets f ≡ got p → is_sound_plan p ≡ true
unfolding plan_of_sheets
plan-sound f p h =
    let a = got-then _ (layout_sheet f.source) h in
    let b = got-then _ (layout_sheet f.target) a.2 in
    mapping-sheet-claim.sound a.0 b.0 f.mapping p b.2

module _ (f : Sheets) where
  -- refused sheets refuse what is made of their plan
  module _ {n : ℕ} (h : refused n ≡ sheets_answer (plan_of_sheets f)) where
    module _ (src : List ℕ) (from : PointRange) (t : List ℕ) (to : PointRange) where
      pub conversion-refused : conversion f src from t to ≡ refused n
      unfolding conversion
      conversion-refused = then-refused _ (plan-refused (plan_of_sheets f) h)

      pub no-lost : lost_by_sheets f src from t to ≡ refused n
      unfolding lost_by_sheets
      no-lost = then-refused _ (plan-refused (plan_of_sheets f) h)

    pub listing-refused : listed f ≡ refused n
    unfolding listed
    listing-refused = then-refused _ (plan-refused (plan_of_sheets f) h)

  module _ {p : PlanRecord} (h : got p ≡ sheets_answer (plan_of_sheets f)) where
    module _ (src : List ℕ) (from : PointRange) (t : List ℕ) (to : PointRange) where
      pub conversion-by : convert_into_range (plan_of p) src from t to ≡ conversion f src from t to
      unfolding conversion
      conversion-by = sym (then-got _ (plan-got (plan_of_sheets f) h))

      pub lost-by : lost_by_plan (plan_of p) src from t to ≡ lost_by_sheets f src from t to
      unfolding lost_by_sheets
      lost-by = sym (then-got _ (plan-got (plan_of_sheets f) h))

    pub listing-by : listing (plan_of p) ≡ listed f
    unfolding listed
    listing-by = sym (then-got _ (plan-got (plan_of_sheets f) h))

-- the length
module _ {o : Outcome (List ℕ)} where
  pub length-kept : (w : ℕ) {n : ℕ} → o ≡ refused n → w ≡ length_left w o
  unfolding length_left
  length-kept w h = before-left w (then-refused _ h)

  pub length-told : (w : ℕ) {l : List ℕ} → o ≡ got l → length l ≡ length_left w o
  unfolding length_left
  length-told w h = value-left w (then-got _ h)

-- ---- the point size of a layout sheet

module _ (s : List ℕ) where
  pub size-refused : {n : ℕ} → refused n ≡ sheet_answer (layout_sheet s) → point_size s ≡ refused n
  unfolding point_size sheet_answer and_then
  size-refused {n} h = go (layout_sheet s) h
    where
      go : (o : Outcome Layout) → refused n ≡ sheet_answer o → and_then o (λ l. got l.size) ≡ refused n
      go (got k) e = absurd (let z : ◌≡◌ {A = ℕ} 0 1 = cc in omega arith)
      go (refused m) e = let q : n ≡ m = cc in ap refused (sym q)

  pub size-got : {l : PointLayout} → got l ≡ sheet_answer (layout_sheet s) → point_size s ≡ got l.size
  unfolding point_size sheet_answer and_then layout_record
  size-got {l} h = go (layout_sheet s) h
    where
      go : (o : Outcome Layout) → got l ≡ sheet_answer o → and_then o (λ k. got k.size) ≡ got l.size
      go (got k) e = let q : l ≡ layout_record k = cc in ap got (sym (ap (λ (x : PointLayout). x.size) q))
      go (refused m) e = absurd (let z : ◌≡◌ {A = ℕ} 0 1 = cc in omega arith)
