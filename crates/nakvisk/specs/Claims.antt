-- What a reader has to believe of the exported functions, whole; the proofs are in proofs/.
use Rattle.std.specs.Prelude.{◌≡◌, ◌∷◌, ◌⊎◌, ◌≤◌}
use Rattle.common.specs.Logic.{true, Bool, List, [], Option, ℕ}
use Rattle.common.specs.Lists.{is_one_of}
use Rattle.common.specs.Refusal.{Outcome, got, refused}
use Rattle.datatype.specs.declared.datatype.Properties.{Properties}
use Rattle.layout.specs.Layout.{Definition, Layout}
use Rattle.layout.specs.Makers.{add_attribute}
use Rattle.layout.specs.Records.{definition_of, layout_of, layout_answer, add_answer}
use Rattle.layout.specs.declared.point_layout.FieldAlignment.{FieldAlignment}
use Rattle.layout.specs.declared.point_layout.PointAttributeDefinition.{PointAttributeDefinition}
use Rattle.layout.specs.declared.point_layout.PointAttributeMember.{PointAttributeMember}
use Rattle.layout.specs.declared.point_layout.PointLayout.{PointLayout}
use Rattle.plans.specs.Plan.{Plan}
use Rattle.plans.specs.Records.{plan_answer}
use Rattle.plans.specs.declared.plan.Mapping.{Mapping}
use Rattle.buffer_conversion.specs.Conversion.{buffer_checks, convert_into_range}
use Rattle.buffer_conversion.specs.Lost.{lost_over}
use Rattle.point_buffer.specs.declared.PointRange.{PointRange}
use Rattle.raw_point_converter.specs.Convert.{convert_point}
use Rattle.sheets.specs.Frame.{Sheets, plan_of_sheets}
use Rattle.sheets.specs.Records.{mapping_answer, sheets_answer}
use Rattle.layout_sheets.specs.Records.{sheet_answer}
use Rattle.layout_sheets.specs.Sheet.{layout_sheet}
use Rattle.raw_attribute_view.specs.View.{point_part, write_point}
use Rattle.raw_attribute_view.specs.declared.ViewShape.{ViewShape}
use Rattle.raw_attribute_view.specs.declared.Part.{Part}
use Rattle.nakvisk.specs.Calls.{conversion, lost_by_plan, lost_by_sheets, point_size, listed, returned, datatype_handed, layout_handed, plan_handed, counted_handed, found_handed, compared_handed, view_handed, part_handed}

-- the numbers of the refusals. Of sheets never 1, since their layouts and plans are sound
pub record NumbersClaim : Type 0 where
  -- those of sheets, and then the buffer checks
  pub convert :
      (f : Sheets) (src : List ℕ) (from : PointRange) (t : List ℕ) (to : PointRange) (n : ℕ) → conversion f src from t to ≡ refused n
      → ((2 ≤ n) × (n ≤ 14)) ⊎ (is_one_of (buffer_checks from.storage to.storage) n ≡ true)
  pub size : (s : List ℕ) (n : ℕ) → point_size s ≡ refused n → (2 ≤ n) × (n ≤ 11)
  pub list : (f : Sheets) (n : ℕ) → listed f ≡ refused n → (2 ≤ n) × (n ≤ 14)
  pub layout : (s : List ℕ) (n : ℕ) → layout_sheet s ≡ refused n → (2 ≤ n) × (n ≤ 11)
  pub add : (l : Layout) (d : Definition) (f : FieldAlignment) (n : ℕ) → add_attribute l d f ≡ refused n → is_one_of (1 ∷ 3 ∷ 4 ∷ 5 ∷ 6 ∷ 8 ∷ 9 ∷ 10 ∷ 11 ∷ []) n ≡ true
  pub point : (l m : Layout) (s t : List ℕ) (n : ℕ) → convert_point l m s t ≡ refused n → is_one_of (1 ∷ 14 ∷ 20 ∷ []) n ≡ true
  pub read : (l : Layout) (place count bytes i n : ℕ) → point_part l place count bytes i ≡ refused n → is_one_of (1 ∷ 13 ∷ 15 ∷ 18 ∷ []) n ≡ true
  pub write : (l : Layout) (place count : ℕ) (s : List ℕ) (i : ℕ) (value : List ℕ) (n : ℕ) → write_point l place count s i value ≡ refused n → is_one_of (1 ∷ 13 ∷ 15 ∷ 18 ∷ []) n ≡ true

-- 0 is returned only where the call gives its value
pub record ZeroClaim : Type 1 where
  -- whichever call, where 0 is none of its numbers; `Checks` of the crate demands has the numbers of each
  pub any : {X : Type 0} (o : Outcome X) → ((n : ℕ) → o ≡ refused n → n ≡ 0 → ⊥) → returned o ≡ 0 → (x : X) × (o ≡ got x)
  pub convert : (f : Sheets) (src : List ℕ) (from : PointRange) (t : List ℕ) (to : PointRange) → returned (conversion f src from t to) ≡ 0 → (u : List ℕ) × (conversion f src from t to ≡ got u)
  pub size : (s : List ℕ) → returned (point_size s) ≡ 0 → (n : ℕ) × (point_size s ≡ got n)
  pub list : (f : Sheets) → returned (listed f) ≡ 0 → (l : List ℕ) × (listed f ≡ got l)
  pub layout : (s : List ℕ) → (layout_handed (sheet_answer (layout_sheet s))).refusal ≡ 0 → (l : Layout) × (layout_sheet s ≡ got l)
  pub add :
      (l : PointLayout) (d : PointAttributeDefinition) (f : FieldAlignment) → (layout_handed (add_answer l d f)).refusal ≡ 0 → (k : Layout) × (add_attribute (layout_of l) (definition_of d) f ≡ got k)
  pub point : (l m : Layout) (s t : List ℕ) → returned (convert_point l m s t) ≡ 0 → (u : List ℕ) × (convert_point l m s t ≡ got u)
  pub read : (l : Layout) (place count bytes i : ℕ) → (part_handed (point_part l place count bytes i)).refusal ≡ 0 → (p : Part) × (point_part l place count bytes i ≡ got p)

-- the number of components lost, which the two conversions leave in a lent number (document 02, point 8)
pub record LostNumberClaim : Type 0 where
  -- where 0 is returned it is the plan's count over the source range; no target is in it
  pub plan :
      (p : Plan) (src : List ℕ) (from : PointRange) (t : List ℕ) (to : PointRange) → returned (convert_into_range p src from t to) ≡ 0
      → lost_by_plan p src from t to ≡ got (lost_over p from src)
  -- the plan being the one that the sheets give
  pub sheets :
      (f : Sheets) (src : List ℕ) (from : PointRange) (t : List ℕ) (to : PointRange) → returned (conversion f src from t to) ≡ 0
      → (p : Plan) × (plan_of_sheets f ≡ got p) × (lost_by_sheets f src from t to ≡ got (lost_over p from src))
  -- a conversion that is refused gives no number, so that the lent one stays
  pub refused-plan :
      (p : Plan) (src : List ℕ) (from : PointRange) (t : List ℕ) (to : PointRange) (n : ℕ) → convert_into_range p src from t to ≡ refused n
      → lost_by_plan p src from t to ≡ refused n
  pub refused-sheets :
      (f : Sheets) (src : List ℕ) (from : PointRange) (t : List ℕ) (to : PointRange) (n : ℕ) → conversion f src from t to ≡ refused n
      → lost_by_sheets f src from t to ≡ refused n

-- in what is handed back by value, refusal is the number that is returned of what the definition gives
pub record HandedClaim : Type 0 where
  pub datatype : (o : Outcome Properties) → (datatype_handed o).refusal ≡ returned o
  pub layout : (ms : List PointAttributeMember) (o : Outcome Layout) → (layout_handed (layout_answer ms o)).refusal ≡ returned o
  pub sheet : (o : Outcome Layout) → (layout_handed (sheet_answer o)).refusal ≡ returned o
  pub plan : (l m : PointLayout) (ms : List Mapping) (o : Outcome Plan) → (plan_handed (plan_answer l m ms o)).refusal ≡ returned o
  pub counted : (o : Outcome (List ℕ)) (p : Plan) (from : PointRange) (src : List ℕ) → (counted_handed o p from src).refusal ≡ returned o
  pub mapping : (l m : PointLayout) (o : Outcome Plan) → (plan_handed (mapping_answer l m o)).refusal ≡ returned o
  pub sheets : (o : Outcome Plan) → (plan_handed (sheets_answer o)).refusal ≡ returned o
  -- of a place or of an offset
  pub found : (o : Outcome (Option ℕ)) → (found_handed o).refusal ≡ returned o
  pub comparison : (o : Outcome Bool) → (compared_handed o).refusal ≡ returned o
  pub view : (o : Outcome ViewShape) → (view_handed o).refusal ≡ returned o
  pub part : (o : Outcome Part) → (part_handed o).refusal ≡ returned o
