-- Document 01, section Sheets: the format of three sheets in one input, and the plan that they give.
use Rattle.std.specs.Prelude.{◌∷◌}
use Rattle.common.specs.Logic.{List, [], ℕ, ltb, length}
use Rattle.common.specs.Refusal.{line, Outcome, check, and_then}
use Rattle.format.specs.Format.{Format, end, ◌>>=◌, bits, times, sheet_by}
use Rattle.layout_sheets.specs.Sheet.{layout_sheet}
use Rattle.plans.specs.Plan.{Plan}
use Rattle.sheets.specs.Mapping.{mapping_sheet}

-- 16 bits length, most significant byte first, and as many bytes
unfoldable pub framed : Format (List ℕ)
framed = do
  n ← bits 16
  times (bits 8) n

pub record Sheets : Type 0 where
  pub source : List ℕ
  pub target : List ℕ
  pub mapping : List ℕ

-- three, one after the other
unfoldable pub frame_format : Format Sheets
frame_format = do
  a ← framed
  b ← framed
  c ← framed
  end (record { source = a; target = b; mapping = c })

-- 2 if short, 7 for a further byte; a whole input over 4,096 bytes is 7 first
unfoldable pub frame : List ℕ → Outcome Sheets
frame s = and_then (check (line 7 (ltb 4096 (length s)) ∷ []) s) (sheet_by frame_format)

-- each sheet through all its checks in turn
unfoldable pub plan_of_sheets : Sheets → Outcome Plan
plan_of_sheets f =
    and_then (layout_sheet f.source) (λ l.
    and_then (layout_sheet f.target) (λ m.
    mapping_sheet l m f.mapping))

unfoldable pub three_sheets : List ℕ → Outcome Plan
three_sheets s = and_then (frame s) plan_of_sheets
