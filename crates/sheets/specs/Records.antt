-- What the code hands back, whole: a list is an array with a count, and each slot past the count holds the empty value.
use Rattle.std.specs.Prelude.{◌≡◌, ◌++◌, ◌≤◌, ◌<◌, ◌+◌, ◌*◌, Result, Ok, Err}
use Rattle.std.specs.Borrow.{Bor}
use Rattle.common.specs.Logic.{List, [], ℕ, length, take}
use Rattle.common.specs.Refusal.{Outcome, got, refused, and_then, number_of}
use Rattle.common.specs.declared.Refusal.{Refusal}
use Rattle.format.specs.Bits.{Read, read}
use Rattle.layout.specs.declared.point_layout.PointLayout.{PointLayout}
use Rattle.layout_sheets.specs.Records.{layout_record}
use Rattle.plans.specs.Plan.{Plan}
use Rattle.plans.specs.Records.{filled, mapped}
use Rattle.plans.specs.declared.plan.Mapping.{Mapping}
use Rattle.plans.specs.declared.plan.Plan.{Plan as PlanRecord}
use Rattle.sheets.specs.Frame.{Sheets, three_sheets}
use Rattle.sheets.specs.Mapping.{MappingContents}
use Rattle.sheets.specs.declared.frame.Sheets.{Sheets as SheetsRead}
use Rattle.sheets.specs.declared.mapping_sheet.Contents.{Contents}
use Rattle.plans.specs.declared.plan.MissingSource.{MissingSource}
use Rattle.plans.specs.declared.plan.MissingSource.TheVariants.{Refuse, PassOver}

-- ---- the answer of a mapping sheet

-- the plan between two layouts, its mappings in an array
unfoldable pub plan_between : PointLayout → PointLayout → List Mapping → PlanRecord
plan_between l m xs = record { source = l; target = m; mappings = filled xs; count = length xs }

-- document 01's number, or the plan between the layouts that were handed in
unfoldable pub mapping_answer : PointLayout → PointLayout → Outcome Plan → Outcome PlanRecord
mapping_answer l m o = and_then o (λ p. got (plan_between l m p.mappings))

-- ---- the answer of three sheets

-- document 01's number, or the plan whole
unfoldable pub sheets_answer : Outcome Plan → Outcome PlanRecord
sheets_answer o = and_then o (λ p. got (plan_between (layout_record p.source) (layout_record p.target) p.mappings))

-- the answer to an input whose first n bytes were read into a buffer: that of the whole, which goes on only where they fill the buffer
abbrev pub OfWhole : List ℕ → ℕ → Outcome PlanRecord → Type 0
OfWhole buffer n o = (rest : List ℕ) → (n < length buffer → rest ≡ []) → o ≡ sheets_answer (three_sheets (take n buffer ++ rest))

-- ---- three sheets in an input

-- the three sheets that are lent, or the number of the refusal
abbrev pub framed_by : Result SheetsRead Refusal → Outcome Sheets
framed_by (Ok f) = got (record { source = f.source.now; target = f.target.now; mapping = f.mapping.now })
framed_by (Err r) = refused (number_of r)

-- in the input, one after the other, each behind the two bytes of its length, and none past the input's end
pub record LieIn (input : Bor (List ℕ)) (f : SheetsRead) : Type 0 where
  pub source : f.source.ref_ptr ≡ (input.ref_ptr.0, 2 + input.ref_ptr.1)
  pub target : f.target.ref_ptr ≡ (input.ref_ptr.0, 2 + length f.source.now + 2 + input.ref_ptr.1)
  pub mapping : f.mapping.ref_ptr ≡ (input.ref_ptr.0, 2 + length f.source.now + 2 + length f.target.now + 2 + input.ref_ptr.1)
  pub within : 2 + length f.source.now + 2 + length f.target.now + 2 + length f.mapping.now ≤ length input.now

-- ---- what the private readers hand back; no public contract cites it

-- 0 for missing names that are refused, 1 for those that are passed over
abbrev pub kind_of : MissingSource → ℕ
kind_of Refuse = 0
kind_of PassOver = 1

unfoldable pub contents_of : Contents → MappingContents
contents_of c = record { kind = kind_of c.missing; lines = take c.count c.lines }

abbrev pub FewLines : Contents → Type 0
FewLines c = c.count ≤ 32

-- the slots past the count are empty
abbrev pub Emptied : PlanRecord → Type 0
Emptied p = p.mappings ≡ filled (mapped p.mappings p.count)

-- the sheet whose length stands at a byte, and the position after it
abbrev pub part_read : ℕ → Result (Bor (List ℕ)) Refusal → Outcome (Read (List ℕ))
part_read at (Ok b) = got (read b.now (8 * (at + 2 + length b.now)))
part_read at (Err r) = refused (number_of r)
