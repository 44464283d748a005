-- What making a view and reading a point of it hand back: a reference into the lent bytes, or the number of the refusal.
use Rattle.std.specs.Prelude.{◌≡◌, Result, IfOk}
use Rattle.common.specs.Logic.{List, ℕ, length}
use Rattle.common.specs.declared.Refusal.{Refusal}
use Rattle.common.specs.Refusal.{got, answer, answered}
use Rattle.std.specs.Borrow.{Bor}
use Rattle.layout.specs.Layout.{Layout}
use Rattle.raw_attribute_view.specs.View.{read_lines, start_in, IsPart, view_lines, fields_of}
use Rattle.raw_attribute_view.specs.declared.RawAttributeView.{RawAttributeView}

-- reading point i of a view: the answer, and where it is accepted, the part of the view's lent bytes
pub record IsRead (v : RawAttributeView) (i : ℕ) (r : Result (Bor (List ℕ)) Refusal) : Type 0 where
  pub answers : answered r ≡ answer (read_lines (length v.point_data.now) v.shape.offset v.shape.stride v.shape.size i)
  pub part : IfOk r (λ part. IsPart v.point_data part v.shape.size (start_in (length v.point_data.now) v.shape.offset v.shape.stride v.shape.size i))

-- a view of the attribute at a place over the lent bytes of so many points: those bytes, at their place, and the numbers
pub record IsViewOf (l : Layout) (place count : ℕ) (s : Bor (List ℕ)) (v : RawAttributeView) : Type 0 where
  pub bytes : v.point_data.now ≡ s.now
  pub lies : v.point_data.ref_ptr ≡ s.ref_ptr
  pub shape : fields_of l place count (length s.now) ≡ got v.shape

-- making one: the answer, and where it is accepted, the view
pub record IsView (l : Layout) (place count : ℕ) (s : Bor (List ℕ)) (r : Result RawAttributeView Refusal) : Type 0 where
  pub answers : answered r ≡ answer (view_lines l place count (length s.now))
  pub view : IfOk r (IsViewOf l place count s)
