-- The proofs of `specs.Claims`.
use Rattle.std.specs.Prelude.{◌≡◌, ◌∷◌, ◌⊎◌}
use Rattle.common.specs.Logic.{◌∙◌, sym, ap, refl, subst, true, Bool, false, not, List, [], ⊎_elim, inl, inr, None, Some, Option, ℕ, arith, length}
use Rattle.common.specs.Lists.{all, is_one_of}
use Rattle.common.specs.Refusal.{Line, Outcome, got, refused, and_then, check, answer_of}
use Rattle.common.proofs.Refusals.{numbered, answer-number, check-refused, got-then, refused-then, then-got, then-refused}
use Rattle.datatype.specs.Datatype.{datatype_lines}
use Rattle.datatype.specs.declared.datatype.Properties.{Properties}
use Rattle.layout.specs.Layout.{Definition, definition_lines, Layout}
use Rattle.layout.specs.Makers.{layout_lines, add_lines, add_attribute}
use Rattle.layout.specs.Records.{definition_of, layout_of, layout_answer, stored, add_answer}
use Rattle.layout.specs.declared.point_layout.FieldAlignment.{FieldAlignment}
use Rattle.layout.specs.declared.point_layout.PointAttributeDefinition.{PointAttributeDefinition}
use Rattle.layout.specs.declared.point_layout.PointAttributeMember.{PointAttributeMember}
use Rattle.layout.specs.declared.point_layout.PointLayout.{PointLayout}
use Rattle.buffer_conversion.specs.Conversion.{conversion_lines, buffer_checks, convert_into_range}
use Rattle.buffer_conversion.specs.Lost.{lost_over, converted_answer}
use Rattle.plans.specs.Plan.{Plan, is_sound_plan}
use Rattle.point_buffer.specs.declared.PointRange.{PointRange}
use Rattle.point_buffer.specs.declared.Storage.{Storage}
use Rattle.point_buffer.specs.declared.Storage.TheVariants.{Interleaved, Columns}
use Rattle.buffer_conversion.proofs.Checks.{numbers-listed, with-one}
use Rattle.plans.specs.Records.{plan_answer}
use Rattle.plans.specs.declared.plan.Mapping.{Mapping}
use Rattle.raw_attribute_view.specs.View.{read_lines, start_in, write_part, view_lines, fields_of, point_part, write_point}
use Rattle.raw_attribute_view.specs.declared.ViewShape.{ViewShape}
use Rattle.raw_attribute_view.specs.declared.Part.{Part}
use Rattle.raw_point_converter.specs.Convert.{point_lines, convert_point}
use Rattle.sheets.specs.Frame.{Sheets, plan_of_sheets}
use Rattle.sheets.specs.Records.{mapping_answer, sheets_answer}
use Rattle.layout_sheets.specs.Records.{sheet_answer}
use Rattle.layout_sheets.specs.Sheet.{layout_sheet}
use Rattle.format.proofs.Refusals.{Among, among-got, among-after, after_line}
use Rattle.layout_sheets.proofs.Numbers.{LayoutNumber, layout-numbers}
use Rattle.sheets.proofs.Numbers.{SheetsNumber, sheets-numbers}
use Rattle.listing.specs.Text.{plan_lines}
use Rattle.listing.proofs.Listings.{sound}
use Rattle.nakvisk.specs.Calls.{conversion, lost_by_sheets, point_size, listed, number_in, datatype_handed, layout_handed, plan_handed, counted_handed, found_handed, compared_handed, view_handed, part_handed}
use Rattle.nakvisk.specs.Claims.{NumbersClaim, ZeroClaim, LostNumberClaim, HandedClaim}
use Rattle.nakvisk.proofs.Calls.{plan-sound, lost-refused, lost-got}

-- ---- the numbers

abbrev OneOf : List ℕ → ℕ → Type 0
OneOf ms n = is_one_of ms n ≡ true

abbrev adding : List ℕ
adding = 1 ∷ 3 ∷ 4 ∷ 5 ∷ 6 ∷ 8 ∷ 9 ∷ 10 ∷ 11 ∷ []

abbrev single : List ℕ
single = 1 ∷ 14 ∷ 20 ∷ []

abbrev reading : List ℕ
reading = 1 ∷ 13 ∷ 15 ∷ 18 ∷ []

-- lines whose numbers are in a list
in_list : {X : Type 0} (ms : List ℕ) (ls : List Line) (x : X) → all (numbered (is_one_of ms)) ls ≡ true → Among (OneOf ms) (check ls x)
in_list ms ls x h n e = answer-number (is_one_of ms) ls h (check-refused ls x e)

-- the buffer checks of two ranges
abbrev checks : PointRange → PointRange → List ℕ
checks from to = buffer_checks from.storage to.storage

-- a sound plan is refused by the buffer checks only
buffer-numbers : (p : Plan) (src : List ℕ) (from : PointRange) (t : List ℕ) (to : PointRange) → is_sound_plan p ≡ true → Among (OneOf (checks from to)) (convert_into_range p src from t to)
unfolding convert_into_range conversion_lines
buffer-numbers p src from t to s = after_line (OneOf (checks from to)) 1 _ _ _ (ap not s) (in_list (checks from to) _ _ (numbers-listed _ _ from _ _ to))

abbrev ConvertNumber : PointRange → PointRange → ℕ → Type 0
ConvertNumber from to n = SheetsNumber n ⊎ OneOf (checks from to) n

convert-numbers : (f : Sheets) (src : List ℕ) (from : PointRange) (t : List ℕ) (to : PointRange) → Among (ConvertNumber from to) (conversion f src from t to)
unfolding conversion
convert-numbers f src from t to = among-after (ConvertNumber from to) (plan_of_sheets f) _ (λ n e. inl (sheets-numbers f n e)) (λ p g n e. inr (buffer-numbers p src from t to (plan-sound f p g) n e))

-- no buffer check has the number 0
never-zero : (s t : Storage) → is_one_of (buffer_checks s t) 0 ≡ false
unfolding buffer_checks is_one_of
never-zero Interleaved Interleaved = refl
never-zero Interleaved Columns = refl
never-zero Columns Interleaved = refl
never-zero Columns Columns = refl

one-never-zero : (s t : Storage) → is_one_of (1 ∷ buffer_checks s t) 0 ≡ false
unfolding is_one_of
one-never-zero s t = never-zero s t

size-numbers : (s : List ℕ) → Among LayoutNumber (point_size s)
unfolding point_size
size-numbers s = among-after LayoutNumber (layout_sheet s) _ (layout-numbers s) (λ l e. among-got LayoutNumber l.size)

list-numbers : (f : Sheets) → Among SheetsNumber (listed f)
unfolding listed
list-numbers f = among-after SheetsNumber (plan_of_sheets f) _ (sheets-numbers f) (λ p e. subst (Among SheetsNumber) (sym (sound p (plan-sound f p e))) (among-got SheetsNumber (plan_lines p)))

add-numbers : (l : Layout) (d : Definition) (f : FieldAlignment) → Among (OneOf adding) (add_attribute l d f)
unfolding add_attribute add_lines definition_lines datatype_lines layout_lines all numbered is_one_of
add-numbers l d f = in_list adding (add_lines l d f) _ refl

point-numbers : (l m : Layout) (s t : List ℕ) → Among (OneOf single) (convert_point l m s t)
unfolding convert_point point_lines all numbered is_one_of
point-numbers l m s t = in_list single (point_lines l m (length s) (length t)) _ refl

read-numbers : (l : Layout) (place count bytes i : ℕ) → Among (OneOf reading) (point_part l place count bytes i)
unfolding point_part fields_of view_lines start_in read_lines all numbered is_one_of
read-numbers l place count bytes i =
    among-after (OneOf reading) (fields_of l place count bytes) _ (in_list reading (view_lines l place count bytes) _ refl) (λ v e.
    among-after (OneOf reading) (start_in bytes v.offset v.stride v.size i) _ (in_list reading (read_lines bytes v.offset v.stride v.size i) _ refl) (λ start f. among-got (OneOf reading) _))

write-numbers : (l : Layout) (place count : ℕ) (s : List ℕ) (i : ℕ) (value : List ℕ) → Among (OneOf reading) (write_point l place count s i value)
unfolding write_point write_part fields_of view_lines read_lines all numbered is_one_of
write-numbers l place count s i value =
    among-after (OneOf reading) (fields_of l place count (length s)) _ (in_list reading (view_lines l place count (length s)) _ refl) (λ v e. in_list reading (read_lines (length s) v.offset v.stride v.size i) _ refl)

pub numbers-claim : NumbersClaim
numbers-claim = record { convert = convert-numbers; size = size-numbers; list = list-numbers; layout = layout-numbers; add = add-numbers; point = point-numbers; read = read-numbers; write = write-numbers }

-- ---- 0

module _ {X : Type 0} (o : Outcome X) where
  given_back : ((n : ℕ) → o ≡ refused n → n ≡ 0 → ⊥) → number_in (answer_of o) ≡ 0 → (x : X) × (o ≡ got x)
  unfolding number_in answer_of
  given_back k h = go o refl h
    where
      go : (p : Outcome X) → o ≡ p → number_in (answer_of p) ≡ 0 → (x : X) × (o ≡ got x)
      go (got x) e z = (x, e)
      go (refused n) e z = absurd (k n e z)

-- the number 0 is not in a list of others
not-zero : (p : ℕ → Bool) {n : ℕ} → p 0 ≡ false → p n ≡ true → n ≡ 0 → ⊥
not-zero p {n} a b e = let q : true ≡ false = sym b ∙ ap p e ∙ a in let z : ◌≡◌ {A = ℕ} 0 1 = cc in omega arith

-- ---- what is handed back by value

pub handed-claim : HandedClaim
unfolding converted_answer number_in answer_of layout_answer sheet_answer plan_answer mapping_answer sheets_answer and_then
handed-claim = record { datatype = datatype; layout = layout; sheet = sheet; plan = plan; counted = counted; mapping = mapping; sheets = sheets; found = found; comparison = comparison; view = view; part = part }
  where
    datatype : (o : Outcome Properties) → (datatype_handed o).refusal ≡ number_in (answer_of o)
    datatype (got p) = refl
    datatype (refused n) = refl

    layout : (ms : List PointAttributeMember) (o : Outcome Layout) → (layout_handed (layout_answer ms o)).refusal ≡ number_in (answer_of o)
    layout ms (got l) = refl
    layout ms (refused n) = refl

    sheet : (o : Outcome Layout) → (layout_handed (sheet_answer o)).refusal ≡ number_in (answer_of o)
    sheet (got l) = refl
    sheet (refused n) = refl

    plan : (l m : PointLayout) (ms : List Mapping) (o : Outcome Plan) → (plan_handed (plan_answer l m ms o)).refusal ≡ number_in (answer_of o)
    plan l m ms (got p) = refl
    plan l m ms (refused n) = refl

    counted : (o : Outcome (List ℕ)) (p : Plan) (from : PointRange) (src : List ℕ) → (counted_handed o p from src).refusal ≡ number_in (answer_of o)
    counted (got x) p from src = refl
    counted (refused n) p from src = refl

    mapping : (l m : PointLayout) (o : Outcome Plan) → (plan_handed (mapping_answer l m o)).refusal ≡ number_in (answer_of o)
    mapping l m (got p) = refl
    mapping l m (refused n) = refl

    sheets : (o : Outcome Plan) → (plan_handed (sheets_answer o)).refusal ≡ number_in (answer_of o)
    sheets (got p) = refl
    sheets (refused n) = refl

    found : (o : Outcome (Option ℕ)) → (found_handed o).refusal ≡ number_in (answer_of o)
    found (got None) = refl
    found (got (Some i)) = refl
    found (refused n) = refl

    comparison : (o : Outcome Bool) → (compared_handed o).refusal ≡ number_in (answer_of o)
    comparison (got same) = refl
    comparison (refused n) = refl

    view : (o : Outcome ViewShape) → (view_handed o).refusal ≡ number_in (answer_of o)
    view (got v) = refl
    view (refused n) = refl

    part : (o : Outcome Part) → (part_handed o).refusal ≡ number_in (answer_of o)
    part (got p) = refl
    part (refused n) = refl

add-number : (l : PointLayout) (d : PointAttributeDefinition) (f : FieldAlignment) → (layout_handed (add_answer l d f)).refusal ≡ number_in (answer_of (add_attribute (layout_of l) (definition_of d) f))
unfolding add_answer
add-number l d f = handed-claim.layout (stored l d f) (add_attribute (layout_of l) (definition_of d) f)

pub zero-claim : ZeroClaim
unfolding is_one_of
zero-claim =
    record {
      any = λ o. given_back o;
      convert = λ f src from t to. given_back (conversion f src from t to) (λ n e z. ⊎_elim (λ k. omega (arith, k.0)) (λ k. not-zero (is_one_of (checks from to)) (never-zero from.storage to.storage) k z) (convert-numbers f src from t to n e));
      size = λ s. given_back (point_size s) (λ n e z. omega (arith, (size-numbers s n e).0));
      list = λ f. given_back (listed f) (λ n e z. omega (arith, (list-numbers f n e).0));
      layout = λ s h. given_back (layout_sheet s) (λ n e z. omega (arith, (layout-numbers s n e).0)) (sym (handed-claim.sheet (layout_sheet s)) ∙ h);
      add = λ l d f h. given_back (add_attribute (layout_of l) (definition_of d) f) (λ n e z. not-zero (is_one_of adding) refl (add-numbers (layout_of l) (definition_of d) f n e) z) (sym (add-number l d f) ∙ h);
      point = λ l m s t. given_back (convert_point l m s t) (λ n e z. not-zero (is_one_of single) refl (point-numbers l m s t n e) z);
      read = λ l place count bytes i h. given_back (point_part l place count bytes i) (λ n e z. not-zero (is_one_of reading) refl (read-numbers l place count bytes i n e) z) (sym (handed-claim.part (point_part l place count bytes i)) ∙ h);
    }

-- ---- the number lost

module _ (src : List ℕ) (from : PointRange) (t : List ℕ) (to : PointRange) where
  carried-out : (p : Plan) → number_in (answer_of (convert_into_range p src from t to)) ≡ 0 → (u : List ℕ) × (convert_into_range p src from t to ≡ got u)
  unfolding convert_into_range
  carried-out p = given_back (convert_into_range p src from t to) (λ n e z. not-zero (is_one_of (1 ∷ checks from to)) (one-never-zero from.storage to.storage) (in_list (1 ∷ checks from to) _ _ (with-one p _ from _ to) n e) z)

  sheets-lost : (f : Sheets) → number_in (answer_of (conversion f src from t to)) ≡ 0
      → (p : Plan) × (plan_of_sheets f ≡ got p) × (lost_by_sheets f src from t to ≡ got (lost_over p from src))
  unfolding conversion lost_by_sheets
  sheets-lost f h =
      let u = zero-claim.convert f src from t to h in
      let p = got-then _ (plan_of_sheets f) u.1 in
      (p.0, p.1, then-got _ p.1 ∙ lost-got p.0 src from t to p.2)

  sheets-lost-refused : (f : Sheets) (n : ℕ) → conversion f src from t to ≡ refused n → lost_by_sheets f src from t to ≡ refused n
  unfolding conversion lost_by_sheets
  sheets-lost-refused f n h =
      ⊎_elim (λ e. then-refused _ e) (λ g. then-got _ g.1 ∙ lost-refused g.0 src from t to g.2) (refused-then _ (plan_of_sheets f) h)

pub lost-number-claim : LostNumberClaim
lost-number-claim =
    record {
      plan = λ p src from t to h. lost-got p src from t to (carried-out src from t to p h).1;
      sheets = λ f src from t to h. sheets-lost src from t to f h;
      refused-plan = λ p src from t to n h. lost-refused p src from t to h;
      refused-sheets = λ f src from t to n h. sheets-lost-refused src from t to f n h;
    }
