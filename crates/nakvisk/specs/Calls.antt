-- What each exported function gives: its value, or the number of the first refusal that applies (document 01, "Turned down", and document 02).
use Rattle.common.specs.Logic.{cond, Bool, List, None, Some, Option, ℕ, eqb, length, replicate}
use Rattle.common.specs.Refusal.{Outcome, got, refused, answer_of, left_by, and_then}
use Rattle.common.specs.Refusal.{Answer}
use Rattle.common.specs.Refusal.{Accepted, Refused}
use Rattle.datatype.specs.declared.datatype.Properties.{Properties}
use Rattle.layout.specs.Records.{empty_point_layout}
use Rattle.layout.specs.declared.point_layout.PointLayout.{PointLayout}
use Rattle.raw_attribute_view.specs.declared.ViewShape.{ViewShape}
use Rattle.raw_attribute_view.specs.declared.Part.{Part}
use Rattle.raw_attribute_view.specs.View.{numbers_in}
use Rattle.buffer_conversion.specs.Conversion.{convert_into_range}
use Rattle.buffer_conversion.specs.Lost.{lost_over, converted_answer, lost_counts}
use Rattle.point_buffer.specs.declared.PointRange.{PointRange}
use Rattle.point_buffer.specs.declared.Storage.{Storage}
use Rattle.point_buffer.specs.declared.Storage.TheVariants.{Interleaved, Columns}
use Rattle.plans.specs.Plan.{Plan}
use Rattle.plans.specs.Records.{empty_plan}
use Rattle.plans.specs.declared.plan.Plan.{Plan as PlanRecord}
use Rattle.sheets.specs.Frame.{Sheets, plan_of_sheets}
use Rattle.layout_sheets.specs.Sheet.{layout_sheet}
use Rattle.listing.specs.Text.{listing}
use Rattle.nakvisk.specs.declared.layout_calls.NakviskCompared.{NakviskCompared}
use Rattle.nakvisk.specs.declared.layout_calls.NakviskDatatypeAnswer.{NakviskDatatypeAnswer}
use Rattle.nakvisk.specs.declared.layout_calls.NakviskFound.{NakviskFound}
use Rattle.nakvisk.specs.declared.layout_calls.NakviskLayoutAnswer.{NakviskLayoutAnswer}
use Rattle.nakvisk.specs.declared.plan_calls.NakviskCounted.{NakviskCounted}
use Rattle.nakvisk.specs.declared.plan_calls.NakviskPlanAnswer.{NakviskPlanAnswer}
use Rattle.nakvisk.specs.declared.plan_calls.NakviskPointRange.{NakviskPointRange}
use Rattle.nakvisk.specs.declared.point_calls.NakviskPart.{NakviskPart}
use Rattle.nakvisk.specs.declared.point_calls.NakviskView.{NakviskView}
use Rattle.nakvisk.specs.declared.point_calls.NakviskViewAnswer.{NakviskViewAnswer}

-- 0.8.0: 16 bits of the major number, then 8 of the minor one and 8 of the patch
abbrev pub version : ℕ
version = 0x000800

-- ---- what the calls are given

-- 0 is interleaved points; any other number is columns
unfoldable pub storage_given : ℕ → Storage
storage_given n = cond (eqb n 0) Interleaved Columns

unfoldable pub range_given : NakviskPointRange → PointRange
range_given r = record { storage = storage_given r.storage; count = r.count; start = r.start; end = r.end }

-- ---- what the calls give

-- the target after the conversion: each sheet through all its checks in turn, then the buffer checks
unfoldable pub conversion : Sheets → List ℕ → PointRange → List ℕ → PointRange → Outcome (List ℕ)
conversion f src from t to = and_then (plan_of_sheets f) (λ p. convert_into_range p src from t to)

-- the number of components that the casts of a conversion lose, where it is carried out: by a plan, and by the plan that three sheets give
unfoldable pub lost_by_plan : Plan → List ℕ → PointRange → List ℕ → PointRange → Outcome ℕ
lost_by_plan p src from t to = and_then (convert_into_range p src from t to) (λ u. got (lost_over p from src))

unfoldable pub lost_by_sheets : Sheets → List ℕ → PointRange → List ℕ → PointRange → Outcome ℕ
lost_by_sheets f src from t to = and_then (plan_of_sheets f) (λ p. lost_by_plan p src from t to)

-- the point size of the layout that a sheet gives
unfoldable pub point_size : List ℕ → Outcome ℕ
point_size s = and_then (layout_sheet s) (λ l. got l.size)

-- the listing of the plan that three sheets give
unfoldable pub listed : Sheets → Outcome (List ℕ)
listed f = and_then (plan_of_sheets f) listing

-- ---- how they are handed back

-- the number in an answer: 0 where nothing is refused
unfoldable pub number_in : Answer → ℕ
number_in Accepted = 0
number_in (Refused n) = n

-- the number that a call returns: 0 where it gives a value, else the refusal's
abbrev pub returned : {X : Type 0} → Outcome X → ℕ
returned o = number_in (answer_of o)

-- a lent number: the listing's whole length, also where it does not fit, or as before where the call is refused
unfoldable pub length_left : ℕ → Outcome (List ℕ) → ℕ
length_left n o = left_by n (and_then o (λ l. got (length l)))

-- 0, and the size and the alignment; or the number, and 0 and 0
abbrev pub datatype_handed : Outcome Properties → NakviskDatatypeAnswer
datatype_handed (got p) = record { refusal = 0; size = p.size; alignment = p.alignment }
datatype_handed (refused n) = record { refusal = n; size = 0; alignment = 0 }

-- 0 and the layout; or the number, and the empty layout
abbrev pub layout_handed : Outcome PointLayout → NakviskLayoutAnswer
layout_handed (got l) = record { refusal = 0; layout = l }
layout_handed (refused n) = record { refusal = n; layout = empty_point_layout }

-- 0 and the plan; or the number, and the empty plan
abbrev pub plan_handed : Outcome PlanRecord → NakviskPlanAnswer
plan_handed (got p) = record { refusal = 0; plan = p }
plan_handed (refused n) = record { refusal = n; plan = empty_plan }

-- 0 and what each mapping lost; or the number, and zeros
abbrev pub numbers_handed : Outcome (List ℕ) → NakviskCounted
numbers_handed (got ns) = record { refusal = 0; lost = ns }
numbers_handed (refused n) = record { refusal = n; lost = replicate 32 0 }

-- the number, and beside it what each mapping lost, zeros where it is refused
abbrev pub counted_handed : {X : Type 0} → Outcome X → Plan → PointRange → List ℕ → NakviskCounted
counted_handed o p from src = numbers_handed (converted_answer o (lost_counts p from src))

-- 0, and whether there is one, 1 or 0, and where; or the number, and 0 and 0
abbrev pub found_handed : Outcome (Option ℕ) → NakviskFound
found_handed (got (Some i)) = record { refusal = 0; found = 1; at = i }
found_handed (got None) = record { refusal = 0; found = 0; at = 0 }
found_handed (refused n) = record { refusal = n; found = 0; at = 0 }

-- 0, and 1 where they are the same, else 0; or the number and 0
abbrev pub compared_handed : Outcome Bool → NakviskCompared
compared_handed (got same) = record { refusal = 0; same = cond same 1 0 }
compared_handed (refused n) = record { refusal = n; same = 0 }

-- the numbers of a view, for C
abbrev pub view_given : ViewShape → NakviskView
view_given v = record { offset = v.offset; stride = v.stride; size = v.size }

-- 0 and the view; or the number, and 0 three times (numbers_in)
abbrev pub view_handed : Outcome ViewShape → NakviskViewAnswer
view_handed (got v) = record { refusal = 0; view = view_given (numbers_in (got v)) }
view_handed (refused n) = record { refusal = n; view = view_given (numbers_in (refused n)) }

-- 0 and the part; or the number, and 0 and 0
abbrev pub part_handed : Outcome Part → NakviskPart
part_handed (got p) = record { refusal = 0; start = p.start; size = p.size }
part_handed (refused n) = record { refusal = n; start = 0; size = 0 }
