-- Document 01, section Sheets: the format of a mapping sheet, and the plan that a sheet gives.
use Rattle.common.specs.Logic.{cond, List, ℕ, min, eqb}
use Rattle.common.specs.Refusal.{Outcome, check, and_then}
use Rattle.format.specs.Format.{Format, end, ◌>>=◌, bits, bits_from, times, sheet_by, start_by}
use Rattle.layout.specs.Layout.{Layout}
use Rattle.layout_sheets.specs.Sheet.{in_turn}
use Rattle.plans.specs.Makers.{layouts_lines, for_layouts, for_layouts_with_default, set_custom_mapping}
use Rattle.plans.specs.Plan.{Plan}
use Rattle.plans.specs.declared.plan.Mapping.{Mapping}

-- ---- the sheet

-- 5 bits source place, 5 bits target place
unfoldable pub sheet_line : Format Mapping
sheet_line = do
  i ← bits 5
  j ← bits 5
  end (record { source = i; target = j })

-- what a mapping sheet says: 0 for `for_layouts`, 1 for with default; and its lines
pub record MappingContents : Type 0 where
  pub kind : ℕ
  pub lines : List Mapping

-- 6 bits number of lines, at most 32, else 3; 1 bit kind
unfoldable pub mapping_format : Format MappingContents
mapping_format = do
  k ← bits_from 3 0 32 6
  kind ← bits 1
  xs ← times sheet_line k
  end (record { kind = kind; lines = xs })

-- front to back to the first defect met (2, 3, 7)
unfoldable pub mapping_contents : List ℕ → Outcome MappingContents
mapping_contents s = sheet_by mapping_format s

-- ---- the plan

-- the mappings by name
unfoldable pub by_name : ℕ → Layout → Layout → Outcome Plan
by_name kind l m = cond (eqb kind 0) (for_layouts l m) (for_layouts_with_default l m)

unfoldable pub set_line : Plan → Mapping → Outcome Plan
set_line p x = set_custom_mapping p x.source x.target

-- line by line; the first refusal stops
unfoldable pub set_all : Plan → List Mapping → Outcome Plan
set_all p xs = in_turn set_line p xs

-- 12 and 14 for each target in turn, then 13 and 14 for each line
unfoldable pub plan_from : Layout → Layout → MappingContents → Outcome Plan
plan_from l m c = and_then (by_name c.kind l m) (λ p. set_all p c.lines)

-- 1 of both layouts, before the sheet is read; then the plan of what is read
abbrev pub plan_by : (List ℕ → Outcome MappingContents) → Layout → Layout → List ℕ → Outcome Plan
plan_by contents l m s = and_then (and_then (check (layouts_lines l m) s) contents) (plan_from l m)

-- the plan that a whole sheet gives
unfoldable pub mapping_sheet : Layout → Layout → List ℕ → Outcome Plan
mapping_sheet l m s = plan_by mapping_contents l m s

-- ---- the first lines of a sheet

-- the sheet as far as its first j lines
unfoldable pub lines_to : ℕ → Format MappingContents
lines_to j = do
  k ← bits_from 3 0 32 6
  kind ← bits 1
  xs ← times sheet_line (min k j)
  end (record { kind = kind; lines = xs })

-- what the first j lines give, whatever follows them
unfoldable pub first_plan : Layout → Layout → ℕ → List ℕ → Outcome Plan
first_plan l m j s = plan_by (λ t. start_by (lines_to j) t 0) l m s
