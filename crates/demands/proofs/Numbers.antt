-- The proofs of `specs.Numbers`.
use Rattle.std.specs.Prelude.{◌≡◌, ◌∷◌, ◌++◌}
use Rattle.common.specs.Logic.{◌∙◌, ap, refl, true, Bool, false, not, List, [], flat_map, ⊎_elim, ℕ, arith, eqb-true, eqb, ltb, length}
use Rattle.common.specs.Lists.{all, is_one_of}
use Rattle.common.specs.Refusal.{Line, line, Outcome, refused, answer, outcome, check, left_by, and_then, not_holding, passes}
use Rattle.common.specs.Refusal.{Refused}
use Rattle.common.proofs.Lists.{and_left, and_right, all_append, all-flat_map, decide}
use Rattle.common.proofs.Refusals.{numbered, passes-cons, answer-number, check-refused, refused-then, passes-accepted}
use Rattle.datatype.specs.Datatype.{datatype_lines, datatype_of}
use Rattle.layout.specs.Layout.{Attribute, good_name, definition_lines, attribute_lines, Layout, is_sound}
use Rattle.layout.specs.Lookup.{get_attribute_by_name, index_of, offset_of, compare_without_offsets}
use Rattle.layout.specs.Makers.{layout_lines, add_lines, add_attribute, given, given_lines, from_members}
use Rattle.buffer_conversion.specs.Conversion.{conversion_lines, convert_into_range}
use Rattle.buffer_conversion.proofs.Checks.{numbers-are, with-one}
use Rattle.plans.specs.Makers.{pair_lines, target_lines, layouts_lines, for_layouts, for_layouts_with_default, mapping_lines, custom_lines, set_custom_mapping}
use Rattle.raw_point_converter.specs.Convert.{point_lines, convert_point}
use Rattle.raw_attribute_view.specs.View.{read_lines, start_in, write_part, view_lines, fields_of, write_point}
use Rattle.plans.specs.Plan.{Plan, is_sound_plan}
use Rattle.plans.specs.declared.plan.Mapping.{Mapping}
use Rattle.sheets.specs.Mapping.{mapping_contents, by_name, set_line, set_all, plan_from, mapping_sheet}
use Rattle.layout_sheets.specs.Sheet.{in_turn}
use Rattle.layout_sheets.proofs.Numbers.{layout-numbers as layout-sheet-numbers}
use Rattle.sheets.proofs.Numbers.{sheets-numbers as three-sheets-numbers}
use Rattle.sheets.proofs.Planned.{mapping-defect-claim, three-sheets-claim}
use Rattle.point_blocks.specs.Blocks.{block_of}
use Rattle.listing.specs.Text.{text_left, listing}
use Rattle.nakvisk.specs.Calls.{conversion, lost_by_plan, lost_by_sheets}
use Rattle.nakvisk.proofs.Claimed.{numbers-claim, lost-number-claim}
use Rattle.demands.specs.Numbers.{FirstHolding, Checks, LayoutCalls, PlanCalls, PointCalls, SheetCalls, LentBytes}

-- ---- the first that applies

first-refuses : (before after : List Line) (n : ℕ) → passes before ≡ true → answer (before ++ (line n true ∷ after)) ≡ Refused n
unfolding answer
first-refuses [] after n h = refl
first-refuses (l ∷ before) after n h =
    let p = passes-cons l.number l.holds before h in
    rw p.0 (first-refuses before after n p.1)

later : (l : Line) (ls : List Line) (n : ℕ) → l.holds ≡ false → FirstHolding ls n → FirstHolding (l ∷ ls) n
unfolding passes all not_holding
later l ls n h f = record { before = l ∷ f.before; after = f.after; split = ap (◌∷◌ l) f.split; none_before = rw h f.none_before }

first-only : (ls : List Line) (n : ℕ) → answer ls ≡ Refused n → FirstHolding ls n
unfolding answer passes all
first-only [] n h = absurd (let z : ◌≡◌ {A = ℕ} 0 1 = cc in omega arith)
first-only (l ∷ ls) n h =
    ⊎_elim
    (λ t. let q : Refused l.number ≡ Refused n = rw t at h in record { before = []; after = ls; split = ap (λ (k : Line). k ∷ ls) (held l n t (cc)); none_before = refl })
    (λ t. later l ls n t (first-only ls n (rw t at h))) (decide l.holds)
  where
    held : (k : Line) (m : ℕ) → k.holds ≡ true → k.number ≡ m → k ≡ line m true
    held k m a b = rw (← a, ← b)

-- a refused check, and a line that is the first
checked : {X : Type 0} (ls : List Line) (x : X) {n : ℕ} → answer ls ≡ Refused n → check ls x ≡ refused n
unfolding check outcome
checked ls x h = rw h

-- ---- the calls

lines : {X : Type 0} (ms : List ℕ) (ls : List Line) (x : X) → all (numbered (is_one_of ms)) ls ≡ true → Checks ls ms (check ls x)
unfolding check outcome
lines ms ls x h =
    record {
      first = λ n. ((λ e. first-only ls n (check-refused ls x e)), (λ f. checked ls x (ap answer f.split ∙ first-refuses f.before f.after n f.none_before)));
      finished = λ p. (x, rw (passes-accepted ls p));
      numbers = λ n e. answer-number (is_one_of ms) ls h (check-refused ls x e);
    }

-- the lines of each element in turn, between others
each : {A : Type 0} (p : Line → Bool) (ls ms : List Line) (f : A → List Line) (xs : List A) → all p ls ≡ true → ((x : A) → all p (f x) ≡ true) → all p ms ≡ true
    → all p (ls ++ (flat_map f xs ++ ms)) ≡ true
each p ls ms f xs a b c = all_append p ls (flat_map f xs ++ ms) ∙ rw (a, all_append p (flat_map f xs) ms, all-flat_map p f xs b, c)

pub layout-calls : LayoutCalls
unfolding add_attribute add_lines from_members given_lines attribute_lines definition_lines datatype_lines datatype_of layout_lines get_attribute_by_name index_of offset_of compare_without_offsets layouts_lines all numbered is_one_of
layout-calls =
    record {
      add = λ l d f. lines _ (add_lines l d f) _ refl;
      given = λ xs a. lines _ (given_lines xs a) _ (each (numbered (is_one_of (3 ∷ 4 ∷ 5 ∷ 6 ∷ 8 ∷ 9 ∷ 10 ∷ 11 ∷ []))) (line 3 (ltb 32 (length xs)) ∷ []) (layout_lines (given xs a)) attribute_lines xs refl (λ x. refl) refl);
      datatype = λ d. lines _ (datatype_lines d) _ refl;
      by_name = λ l name. lines _ (line 1 (not (is_sound l)) ∷ line 4 (not (good_name name)) ∷ []) _ refl;
      index = λ l d. lines _ (line 1 (not (is_sound l)) ∷ definition_lines d) _ refl;
      offset = λ l d. lines _ (line 1 (not (is_sound l)) ∷ definition_lines d) _ refl;
      compare = λ l m. lines _ (layouts_lines l m) _ refl;
    }

pub plan-calls : PlanCalls
unfolding for_layouts for_layouts_with_default set_custom_mapping custom_lines mapping_lines layouts_lines target_lines pair_lines all numbered is_one_of
plan-calls =
    record {
      all = λ l m. lines _ (layouts_lines l m ++ flat_map (target_lines l) m.attributes) _ (targets (1 ∷ 12 ∷ 14 ∷ []) l m (target_lines l) refl (λ a. refl));
      with-default = λ l m. lines _ (layouts_lines l m ++ flat_map (pair_lines l) m.attributes) _ (targets (1 ∷ 14 ∷ []) l m (pair_lines l) refl (λ a. refl));
      custom = λ p i j. lines _ (custom_lines p (record { source = i; target = j })) _ refl;
    }
  where
    targets : (ns : List ℕ) (l m : Layout) (f : Attribute → List Line) → all (numbered (is_one_of ns)) (layouts_lines l m) ≡ true → ((a : Attribute) → all (numbered (is_one_of ns)) (f a) ≡ true)
        → all (numbered (is_one_of ns)) (layouts_lines l m ++ flat_map f m.attributes) ≡ true
    targets ns l m f a b = all_append (numbered (is_one_of ns)) (layouts_lines l m) (flat_map f m.attributes) ∙ rw (a, all-flat_map (numbered (is_one_of ns)) f m.attributes b)

pub point-calls : PointCalls
unfolding convert_into_range conversion_lines convert_point point_lines fields_of view_lines start_in write_part read_lines listing all numbered is_one_of
point-calls =
    record {
      convert = λ p src from t to. lines _ (conversion_lines p (length src) from (length t) to) _ (with-one p (length src) from (length t) to);
      convert-order = λ p a from b to. ap (λ (ns : List ℕ). 1 ∷ ns) (numbers-are _ a from _ b to);
      single = λ l m s t. lines _ (point_lines l m (length s) (length t)) _ refl;
      view = λ l place count n. lines _ (view_lines l place count n) _ refl;
      read = λ n offset stride size i. lines _ (read_lines n offset stride size i) _ refl;
      write = λ s offset stride size i value. lines _ (read_lines (length s) offset stride size i) _ refl;
      read-point = numbers-claim.read;
      write-point = numbers-claim.write;
      list = λ p. lines _ (line 1 (not (is_sound_plan p)) ∷ []) _ refl;
    }

-- ---- sheets

-- a refusal has one of these numbers
record RefusedBy {X : Type 0} (ms : List ℕ) (o : Outcome X) : Type 0 where
  among : (n : ℕ) → o ≡ refused n → is_one_of ms n ≡ true

one_of : (ns ms : List ℕ) (n : ℕ) → all (is_one_of ns) ms ≡ true → is_one_of ms n ≡ true → is_one_of ns n ≡ true
unfolding all is_one_of
one_of ns [] n a h = absurd (let z : ◌≡◌ {A = ℕ} 0 1 = cc in omega arith)
one_of ns (m ∷ ms) n a h =
    ⊎_elim (λ e. rw (eqb-true n m e) (and_left (is_one_of ns m) _ a)) (λ e. one_of ns ms n (and_right (is_one_of ns m) _ a) (rw e at h)) (decide (eqb n m))

module _ {X : Type 0} where
  wider : (ns ms : List ℕ) {ls : List Line} (o : Outcome X) → all (is_one_of ns) ms ≡ true → Checks ls ms o → RefusedBy ns o
  wider ns ms o a r = record { among = λ n e. one_of ns ms n a (r.numbers n e) }

  after : {Y : Type 0} (ns : List ℕ) (o : Outcome Y) (f : Y → Outcome X) → RefusedBy ns o → ((y : Y) → RefusedBy ns (f y)) → RefusedBy ns (and_then o f)
  after ns o f a b = record { among = λ n e. ⊎_elim (a.among n) (λ k. (b k.0).among n k.2) (refused-then f o e) }

  turns : {A : Type 0} (ns : List ℕ) (f : X → A → Outcome X) → ((x : X) (a : A) → RefusedBy ns (f x a)) → (x : X) (xs : List A) → RefusedBy ns (in_turn f x xs)
  unfolding in_turn
  turns ns f g x [] = record { among = λ n e. absurd (let z : ◌≡◌ {A = ℕ} 0 1 = cc in omega arith) }
  turns ns f g x (a ∷ xs) = after ns (f x a) _ (g x a) (λ y. turns ns f g y xs)

abbrev mapping : List ℕ
mapping = 1 ∷ 2 ∷ 3 ∷ 7 ∷ 12 ∷ 13 ∷ 14 ∷ []

contents-numbers : (s : List ℕ) → RefusedBy mapping (mapping_contents s)
unfolding is_one_of
contents-numbers s = record { among = λ n e. ⊎_elim (λ h. rw h) (⊎_elim (λ h. rw h) (λ h. rw h)) (mapping-defect-claim.numbers s n e) }

name-numbers : (kind : ℕ) (l m : Layout) → RefusedBy mapping (by_name kind l m)
unfolding by_name all is_one_of
name-numbers kind l m = ⊎_elim (λ e. rw e (wider mapping (1 ∷ 12 ∷ 14 ∷ []) (for_layouts l m) refl (plan-calls.all l m))) (λ e. rw e (wider mapping (1 ∷ 14 ∷ []) (for_layouts_with_default l m) refl (plan-calls.with-default l m))) (decide (eqb kind 0))

line-numbers : (p : Plan) (x : Mapping) → RefusedBy mapping (set_line p x)
unfolding set_line all is_one_of
line-numbers p x = wider mapping (1 ∷ 13 ∷ 14 ∷ []) _ refl (plan-calls.custom p x.source x.target)

mapping-numbers : (l m : Layout) (s : List ℕ) → RefusedBy mapping (mapping_sheet l m s)
unfolding mapping_sheet plan_from set_all layouts_lines all numbered is_one_of
mapping-numbers l m s =
    after mapping (and_then (check (layouts_lines l m) s) mapping_contents) (plan_from l m)
    (after mapping (check (layouts_lines l m) s) mapping_contents (wider mapping mapping (check (layouts_lines l m) s) refl (lines mapping (layouts_lines l m) s refl)) contents-numbers)
    (λ c. after mapping (by_name c.kind l m) _ (name-numbers c.kind l m) (λ p. turns mapping set_line line-numbers p c.lines))

pub sheet-calls : SheetCalls
sheet-calls = record { layout = layout-sheet-numbers; mapping = λ l m s. (mapping-numbers l m s).among; three = three-sheets-numbers; framed = three-sheets-claim.numbers; convert = numbers-claim.convert }

-- ---- lent bytes

left : {X : Type 0} (before : X) (o : Outcome X) {n : ℕ} → o ≡ refused n → left_by before o ≡ before
unfolding left_by
left before o h = rw h

pub lent-bytes : LentBytes
unfolding text_left and_then left_by
lent-bytes =
    record {
      convert = λ p src from t to n. left t (convert_into_range p src from t to);
      sheets = λ f src from t to n. left t (conversion f src from t to);
      lost = λ w p src from t to n h. left w (lost_by_plan p src from t to) (lost-number-claim.refused-plan p src from t to n h);
      lost-by-sheets = λ w f src from t to n h. left w (lost_by_sheets f src from t to) (lost-number-claim.refused-sheets f src from t to n h);
      block = λ p a b count src t n. left t (block_of p a b count src (length t));
      single = λ l m s t n. left t (convert_point l m s t);
      write = λ s offset stride size i value n. left s (write_part s offset stride size i value);
      write-point = λ l place count s i value n. left s (write_point l place count s i value);
      text = λ t p n h. rw h;
      text-of-sheets = λ t f n h. rw h;
    }
