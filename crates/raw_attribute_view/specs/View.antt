-- Document 01, section View: what a view shows of a point, and what making a view gives.
use Rattle.std.specs.Prelude.{◌≡◌, ◌∷◌, ◌+◌, ◌*◌}
use Rattle.common.specs.Logic.{not, List, [], ℕ, eqb, ltb, length, take, drop}
use Rattle.std.proofs.lemmas.List.Edits.{sets}
use Rattle.std.specs.Borrow.{Bor}
use Rattle.common.specs.Refusal.{Line, line, Outcome, got, refused, check, and_then}
use Rattle.datatype.specs.Datatype.{size_of}
use Rattle.layout.specs.Layout.{at, Layout, is_sound}
use Rattle.raw_attribute_view.specs.declared.Part.{Part}
pub use Rattle.raw_attribute_view.specs.declared.ViewShape.{ViewShape as Numbers}

-- ---- reading a point

-- 18: the part of a view's point passes the view's lent bytes, which are n
unfoldable pub read_lines : ℕ → ℕ → ℕ → ℕ → ℕ → List Line
read_lines n offset stride size i = line 18 (ltb n (i * stride + offset + size)) ∷ []

-- where the part of point i starts among n lent bytes
unfoldable pub start_in : ℕ → ℕ → ℕ → ℕ → ℕ → Outcome ℕ
start_in n offset stride size i = check (read_lines n offset stride size i) (i * stride + offset)

-- so many bytes from the start; none where it is refused
unfoldable pub part_bytes : List ℕ → ℕ → Outcome ℕ → List ℕ
part_bytes s size (got start) = take size (drop start s)
part_bytes s size (refused n) = []

-- where they lie: so many bytes past the place of the lent ones, in the same memory; where refused, at that place
unfoldable pub part_place : ℕ × ℕ → Outcome ℕ → ℕ × ℕ
part_place p (got start) = (p.0, start + p.1)
part_place p (refused n) = p

-- one lent run of bytes is a part of another: it has those bytes, and it lies there
pub record IsPart (whole part : Bor (List ℕ)) (size : ℕ) (start : Outcome ℕ) : Type 0 where
  pub bytes : part.now ≡ part_bytes whole.now size start
  pub place : part.ref_ptr ≡ part_place whole.ref_ptr start

-- ---- writing a point's part

-- the lent bytes once a value is written to the part of point i: its bytes in the place of as many from the part's start on, none past
-- the part's end
unfoldable pub write_part : List ℕ → ℕ → ℕ → ℕ → ℕ → List ℕ → Outcome (List ℕ)
write_part s offset stride size i value = check (read_lines (length s) offset stride size i) (sets s (i * stride + offset) (take size value))

-- ---- making a view

-- 1, 13 and 15, of a layout, a place, a count of points and n lent bytes
unfoldable pub view_lines : Layout → ℕ → ℕ → ℕ → List Line
view_lines l place count n =
    line 1 (not (is_sound l))
    ∷ line 13 (not (ltb place (length l.attributes)))
    ∷ line 15 (not (eqb n (count * l.size)))
    ∷ []

-- the attribute's offset, the point size as stride, and the attribute's size
unfoldable pub fields_of : Layout → ℕ → ℕ → ℕ → Outcome Numbers
fields_of l place count n =
    check (view_lines l place count n)
    (record { offset = (at l.attributes place).offset; stride = l.size; size = size_of (at l.attributes place).definition.datatype })

-- what C gets of a view beside a refusal
abbrev pub no_numbers : Numbers
no_numbers = record { offset = 0; stride = 0; size = 0 }

abbrev pub numbers_in : Outcome Numbers → Numbers
numbers_in (got v) = v
numbers_in (refused n) = no_numbers

-- ---- one attribute of one point

-- where the part lies that a view of these numbers shows of point i among n lent bytes
abbrev pub part_in : ℕ → ℕ → ℕ → ℕ → ℕ → Outcome Part
part_in n offset stride size i = and_then (start_in n offset stride size i) (λ start. got (record { start = start; size = size }))

-- where the part lies, among n lent bytes, that a view of the attribute at a place shows of point i: making the view checks 1, 13, 15, and
-- reading the point 18
unfoldable pub point_part : Layout → ℕ → ℕ → ℕ → ℕ → Outcome Part
point_part l place count n i = and_then (fields_of l place count n) (λ v. part_in n v.offset v.stride v.size i)

-- the lent bytes once a value is written to that part
unfoldable pub write_point : Layout → ℕ → ℕ → List ℕ → ℕ → List ℕ → Outcome (List ℕ)
write_point l place count s i value = and_then (fields_of l place count (length s)) (λ v. write_part s v.offset v.stride v.size i value)
