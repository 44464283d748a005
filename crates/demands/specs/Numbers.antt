-- Demand 1, "the first that applies of twenty numbered refusals", which those of document 02 join: what the first is, which numbers each call
-- gives, and what a refusal leaves.
use Rattle.std.specs.Prelude.{◌≡◌, ◌∷◌, ◌++◌, ◌⊎◌, ◌↔◌, ◌≤◌}
use Rattle.common.specs.Logic.{true, not, List, [], map, flat_map, ℕ, length}
use Rattle.common.specs.Lists.{is_one_of}
use Rattle.common.specs.Refusal.{Line, line, Outcome, got, refused, passes, left_by}
use Rattle.datatype.specs.Datatype.{datatype_lines, datatype_of}
use Rattle.datatype.specs.declared.datatype.Datatype.{Datatype}
use Rattle.layout.specs.Layout.{Definition, Attribute, good_name, definition_lines, Layout, is_sound}
use Rattle.layout.specs.Lookup.{get_attribute_by_name, index_of, offset_of, compare_without_offsets}
use Rattle.layout.specs.Makers.{add_lines, add_attribute, given_lines, from_members}
use Rattle.layout.specs.declared.point_layout.FieldAlignment.{FieldAlignment}
use Rattle.buffer_conversion.specs.Conversion.{conversion_lines, buffer_checks, convert_into_range}
use Rattle.plans.specs.Makers.{pair_lines, target_lines, layouts_lines, for_layouts, for_layouts_with_default, custom_lines, set_custom_mapping}
use Rattle.plans.specs.Plan.{Plan, is_sound_plan}
use Rattle.point_buffer.specs.declared.PointRange.{PointRange}
use Rattle.point_buffer.specs.declared.Storage.{Storage}
use Rattle.raw_point_converter.specs.Convert.{point_lines, convert_point}
use Rattle.raw_attribute_view.specs.View.{read_lines, start_in, write_part, view_lines, fields_of, point_part, write_point}
use Rattle.sheets.specs.Frame.{Sheets, plan_of_sheets, three_sheets}
use Rattle.sheets.specs.Mapping.{mapping_sheet}
use Rattle.layout_sheets.specs.Sheet.{layout_sheet}
use Rattle.point_blocks.specs.Blocks.{block_of}
use Rattle.listing.specs.Text.{text_left, listing}
use Rattle.nakvisk.specs.Calls.{conversion, lost_by_plan, lost_by_sheets, listed}

-- ---- the first that applies

-- n is the number of the first line that holds: none before it does
pub record FirstHolding (ls : List Line) (n : ℕ) : Type 0 where
  pub before : List Line
  pub after : List Line
  pub split : ls ≡ before ++ (line n true ∷ after)
  pub none_before : passes before ≡ true

-- a call that checks these lines, whose numbers are these
pub record Checks {X : Type 0} (ls : List Line) (ms : List ℕ) (o : Outcome X) : Type 0 where
  -- a refusal is the first line that holds
  pub first : (n : ℕ) → (o ≡ refused n) ↔ FirstHolding ls n
  -- where none holds, the call gives its value
  pub finished : passes ls ≡ true → (x : X) × (o ≡ got x)
  pub numbers : (n : ℕ) → o ≡ refused n → is_one_of ms n ≡ true

-- ---- the calls and their numbers

pub record LayoutCalls : Type 0 where
  pub add : (l : Layout) (d : Definition) (f : FieldAlignment) → Checks (add_lines l d f) (1 ∷ 3 ∷ 4 ∷ 5 ∷ 6 ∷ 8 ∷ 9 ∷ 10 ∷ 11 ∷ []) (add_attribute l d f)
  pub given : (xs : List Attribute) (alignment : ℕ) → Checks (given_lines xs alignment) (3 ∷ 4 ∷ 5 ∷ 6 ∷ 8 ∷ 9 ∷ 10 ∷ 11 ∷ []) (from_members xs alignment)
  pub datatype : (d : Datatype) → Checks (datatype_lines d) (5 ∷ 6 ∷ []) (datatype_of d)
  pub by_name : (l : Layout) (name : List ℕ) → Checks (line 1 (not (is_sound l)) ∷ line 4 (not (good_name name)) ∷ []) (1 ∷ 4 ∷ []) (get_attribute_by_name l name)
  pub index : (l : Layout) (d : Definition) → Checks (line 1 (not (is_sound l)) ∷ definition_lines d) (1 ∷ 4 ∷ 5 ∷ 6 ∷ []) (index_of l d)
  pub offset : (l : Layout) (d : Definition) → Checks (line 1 (not (is_sound l)) ∷ definition_lines d) (1 ∷ 4 ∷ 5 ∷ 6 ∷ []) (offset_of l d)
  pub compare : (l m : Layout) → Checks (layouts_lines l m) (1 ∷ []) (compare_without_offsets l m)

pub record PlanCalls : Type 0 where
  -- 12 and 14 for each target in turn
  pub all : (l m : Layout) → Checks (layouts_lines l m ++ flat_map (target_lines l) m.attributes) (1 ∷ 12 ∷ 14 ∷ []) (for_layouts l m)
  pub with-default : (l m : Layout) → Checks (layouts_lines l m ++ flat_map (pair_lines l) m.attributes) (1 ∷ 14 ∷ []) (for_layouts_with_default l m)
  pub custom : (p : Plan) (i j : ℕ) → Checks (custom_lines p (record { source = i; target = j })) (1 ∷ 13 ∷ 14 ∷ []) (set_custom_mapping p i j)

pub record PointCalls : Type 0 where
  pub convert :
      (p : Plan) (src : List ℕ) (from : PointRange) (t : List ℕ) (to : PointRange)
      → Checks (conversion_lines p (length src) from (length t) to) (1 ∷ buffer_checks from.storage to.storage) (convert_into_range p src from t to)
  -- in this order: 21 "between 16 and 17"; 22 "takes the place of 15 or 16 on that side, source first"
  pub convert-order : (p : Plan) (a : ℕ) (from : PointRange) (b : ℕ) (to : PointRange) → map (λ (l : Line). l.number) (conversion_lines p a from b to) ≡ 1 ∷ buffer_checks from.storage to.storage
  pub single : (l m : Layout) (s t : List ℕ) → Checks (point_lines l m (length s) (length t)) (1 ∷ 14 ∷ 20 ∷ []) (convert_point l m s t)
  pub view : (l : Layout) (place count n : ℕ) → Checks (view_lines l place count n) (1 ∷ 13 ∷ 15 ∷ []) (fields_of l place count n)
  pub read : (n offset stride size i : ℕ) → Checks (read_lines n offset stride size i) (18 ∷ []) (start_in n offset stride size i)
  pub write : (s : List ℕ) (offset stride size i : ℕ) (value : List ℕ) → Checks (read_lines (length s) offset stride size i) (18 ∷ []) (write_part s offset stride size i value)
  -- 1, 13 and 15 as making the view, then 18
  pub read-point : (l : Layout) (place count bytes i n : ℕ) → point_part l place count bytes i ≡ refused n → is_one_of (1 ∷ 13 ∷ 15 ∷ 18 ∷ []) n ≡ true
  pub write-point : (l : Layout) (place count : ℕ) (s : List ℕ) (i : ℕ) (value : List ℕ) (n : ℕ) → write_point l place count s i value ≡ refused n → is_one_of (1 ∷ 13 ∷ 15 ∷ 18 ∷ []) n ≡ true
  pub list : (p : Plan) → Checks (line 1 (not (is_sound_plan p)) ∷ []) (1 ∷ []) (listing p)

-- Sheets are read front to back to the first defect (demand 2). Never 1 of sheets alone: the layouts that they give are sound, and so are
-- the plans between them.
pub record SheetCalls : Type 0 where
  pub layout : (s : List ℕ) (n : ℕ) → layout_sheet s ≡ refused n → (2 ≤ n) × (n ≤ 11)
  pub mapping : (l m : Layout) (s : List ℕ) (n : ℕ) → mapping_sheet l m s ≡ refused n → is_one_of (1 ∷ 2 ∷ 3 ∷ 7 ∷ 12 ∷ 13 ∷ 14 ∷ []) n ≡ true
  pub three : (f : Sheets) (n : ℕ) → plan_of_sheets f ≡ refused n → (2 ≤ n) × (n ≤ 14)
  pub framed : (s : List ℕ) (n : ℕ) → three_sheets s ≡ refused n → (2 ≤ n) × (n ≤ 14)
  -- sheets and then buffers
  pub convert :
      (f : Sheets) (src : List ℕ) (from : PointRange) (t : List ℕ) (to : PointRange) (n : ℕ) → conversion f src from t to ≡ refused n
      → ((2 ≤ n) × (n ≤ 14)) ⊎ (is_one_of (buffer_checks from.storage to.storage) n ≡ true)

-- ---- lent bytes

-- what a refused call leaves of bytes that it was lent, as its contract says by `left_by`
pub record LentBytes : Type 0 where
  pub convert :
      (p : Plan) (src : List ℕ) (from : PointRange) (t : List ℕ) (to : PointRange) (n : ℕ) → convert_into_range p src from t to ≡ refused n
      → left_by t (convert_into_range p src from t to) ≡ t
  pub sheets :
      (f : Sheets) (src : List ℕ) (from : PointRange) (t : List ℕ) (to : PointRange) (n : ℕ) → conversion f src from t to ≡ refused n
      → left_by t (conversion f src from t to) ≡ t
  -- and of the number lost that they are lent
  pub lost :
      (w : ℕ) (p : Plan) (src : List ℕ) (from : PointRange) (t : List ℕ) (to : PointRange) (n : ℕ) → convert_into_range p src from t to ≡ refused n
      → left_by w (lost_by_plan p src from t to) ≡ w
  pub lost-by-sheets :
      (w : ℕ) (f : Sheets) (src : List ℕ) (from : PointRange) (t : List ℕ) (to : PointRange) (n : ℕ) → conversion f src from t to ≡ refused n
      → left_by w (lost_by_sheets f src from t to) ≡ w
  pub block :
      (p : Plan) (a b : Storage) (count : ℕ) (src t : List ℕ) (n : ℕ) → block_of p a b count src (length t) ≡ refused n
      → left_by t (block_of p a b count src (length t)) ≡ t
  pub single : (l m : Layout) (s t : List ℕ) (n : ℕ) → convert_point l m s t ≡ refused n → left_by t (convert_point l m s t) ≡ t
  pub write :
      (s : List ℕ) (offset stride size i : ℕ) (value : List ℕ) (n : ℕ) → write_part s offset stride size i value ≡ refused n
      → left_by s (write_part s offset stride size i value) ≡ s
  pub write-point :
      (l : Layout) (place count : ℕ) (s : List ℕ) (i : ℕ) (value : List ℕ) (n : ℕ) → write_point l place count s i value ≡ refused n
      → left_by s (write_point l place count s i value) ≡ s
  pub text : (t : List ℕ) (p : Plan) (n : ℕ) → listing p ≡ refused n → text_left t (listing p) ≡ t
  pub text-of-sheets : (t : List ℕ) (f : Sheets) (n : ℕ) → listed f ≡ refused n → text_left t (listed f) ≡ t
