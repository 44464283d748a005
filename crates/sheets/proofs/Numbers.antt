-- Which numbers a mapping sheet, a frame and three sheets are refused with: three sheets with one from 2 to 14. It is never 1, since the layouts
-- of sheets and the plans between them are sound.
use Rattle.std.specs.Prelude.{◌≡◌}
use Rattle.common.specs.Logic.{◌∙◌, sym, ap, refl, true, not, List, ℕ, arith, eqb}
use Rattle.common.specs.Lists.{all}
use Rattle.common.proofs.Lists.{all-flat_map}
use Rattle.common.proofs.Refusals.{numbered}
use Rattle.format.proofs.Refusals.{Among, among-line, among-after, among-cond, Within, is_within, lines, after_line, Refuses, at-end, refuses-bits, refuses-from, refuses-bind, refuses-times, among-rest}
use Rattle.layout.specs.Layout.{Layout, is_sound}
use Rattle.layout_sheets.specs.Sheet.{layout_sheet}
use Rattle.layout_sheets.proofs.Claimed.{sheet-claim}
use Rattle.layout_sheets.proofs.Numbers.{turns, layout-numbers}
use Rattle.plans.specs.Makers.{pair_lines, target_lines, layouts_lines, for_layouts, for_layouts_with_default, mapping_lines, custom_lines, set_custom_mapping}
use Rattle.plans.specs.Plan.{Plan, is_sound_plan}
use Rattle.plans.specs.declared.plan.Mapping.{Mapping}
use Rattle.sheets.specs.Frame.{framed, Sheets, frame_format, frame, plan_of_sheets, three_sheets}
use Rattle.sheets.specs.Mapping.{sheet_line, MappingContents, mapping_format, mapping_contents, by_name, set_line, set_all, plan_from, mapping_sheet}
use Rattle.sheets.proofs.Between.{both-sound, name-sound, line-sound}

-- ---- what does not read

module _ (P : ℕ → Type 0) (two : P 2) (seven : P 7) where
  -- ---- the frame

  framed-refuses : Refuses P framed
  unfolding framed
  framed-refuses = refuses-bind P (refuses-bits P 16) (refuses-times P (refuses-bits P 8))

  frame-refuses : Refuses P frame_format
  unfolding frame_format
  frame-refuses = refuses-bind P framed-refuses (λ a. refuses-bind P framed-refuses (λ b. refuses-bind P framed-refuses (λ c. at-end)))

  pub among-frame : (s : List ℕ) → Among P (frame s)
  unfolding frame
  among-frame s = among-after P _ _ (among-line P 7 _ s seven) (λ t e. among-rest P two seven frame-refuses t 0)

  module _ (three : P 3) where
    -- ---- mapping sheets

    line-refuses : Refuses P sheet_line
    unfolding sheet_line
    line-refuses = refuses-bind P (refuses-bits P 5) (λ i. refuses-bind P (refuses-bits P 5) (λ j. at-end))

    mapping-refuses : Refuses P mapping_format
    unfolding mapping_format
    mapping-refuses =
        refuses-bind P (refuses-from P 3 0 32 6 three) (λ k. refuses-bind P (refuses-bits P 1) (λ kind. refuses-bind P (refuses-times P line-refuses k) (λ xs. at-end)))

    pub among-mapping : (s : List ℕ) → Among P (mapping_contents s)
    unfolding mapping_contents
    among-mapping s = among-rest P two seven mapping-refuses s 0

-- ---- three sheets

abbrev pub SheetsNumber : ℕ → Type 0
SheetsNumber n = Within 2 14 n

pub layout-sheeted : (s : List ℕ) → Among SheetsNumber (layout_sheet s)
layout-sheeted s n h = let k = layout-numbers s n h in (k.0, omega arith)

-- ---- mapping sheets

name-numbers : (b : ℕ) (l m : Layout) → is_sound l ≡ true → is_sound m ≡ true → Among SheetsNumber (by_name b l m)
unfolding by_name for_layouts for_layouts_with_default layouts_lines target_lines pair_lines all numbered is_within
name-numbers b l m s t =
    among-cond SheetsNumber (eqb b 0) _ _ (after_line SheetsNumber 1 _ _ _ (ap not s) (after_line SheetsNumber 1 _ _ _ (ap not t) (lines 2 14 _ _ (all-flat_map (numbered (is_within 2 14)) (target_lines l) m.attributes (λ a. refl)))))
    (after_line SheetsNumber 1 _ _ _ (ap not s) (after_line SheetsNumber 1 _ _ _ (ap not t) (lines 2 14 _ _ (all-flat_map (numbered (is_within 2 14)) (pair_lines l) m.attributes (λ a. refl)))))

line-numbers : (p : Plan) (x : Mapping) → is_sound_plan p ≡ true → Among SheetsNumber (set_line p x)
unfolding set_line set_custom_mapping custom_lines mapping_lines all numbered is_within
line-numbers p x s = after_line SheetsNumber 1 _ _ _ (ap not s) (lines 2 14 _ _ refl)

plan-numbers : (l m : Layout) (c : MappingContents) → is_sound l ≡ true → is_sound m ≡ true → Among SheetsNumber (plan_from l m c)
unfolding plan_from set_all
plan-numbers l m c s t =
    among-after SheetsNumber (by_name c.kind l m) _ (name-numbers c.kind l m s t)
    (λ p e. turns SheetsNumber set_line (λ (q : Plan). is_sound_plan q ≡ true) (line-sound l m) line-numbers p c.lines (name-sound l m c.kind p e))

mapping-numbers : (l m : Layout) (s : List ℕ) → is_sound l ≡ true → is_sound m ≡ true → Among SheetsNumber (mapping_sheet l m s)
unfolding mapping_sheet
mapping-numbers l m s a b n h =
    among-after SheetsNumber (mapping_contents s) (plan_from l m) (among-mapping SheetsNumber (omega arith, omega arith) (omega arith, omega arith) (omega arith, omega arith) s) (λ c e. plan-numbers l m c a b) n (sym (both-sound mapping_contents l m s a b) ∙ h)

-- ---- three sheets

pub sheets-numbers : (f : Sheets) → Among SheetsNumber (plan_of_sheets f)
unfolding plan_of_sheets
sheets-numbers f =
    among-after SheetsNumber (layout_sheet f.source) _ (layout-sheeted f.source) (λ l a.
    among-after SheetsNumber (layout_sheet f.target) _ (layout-sheeted f.target) (λ m b.
    mapping-numbers l m f.mapping (sheet-claim.sound f.source l a) (sheet-claim.sound f.target m b)))

pub three-numbers : (s : List ℕ) → Among SheetsNumber (three_sheets s)
unfolding three_sheets
three-numbers s = among-after SheetsNumber (frame s) plan_of_sheets (among-frame SheetsNumber (omega arith, omega arith) (omega arith, omega arith) s) (λ f e. sheets-numbers f)
