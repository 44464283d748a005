-- What a reader has to believe of views, each claim whole, with its conditions; the proofs are in proofs/.
use Rattle.std.specs.Prelude.{◌≡◌, ◌⊎◌, ◌≤◌, ◌<◌, ◌+◌, ◌*◌, Result, Ok, Err, IfOk}
use Rattle.common.specs.Logic.{List, ℕ, length, get_or, take, drop}
use Rattle.std.specs.Borrow.{Bor}
use Rattle.common.specs.declared.Refusal.{Refusal}
use Rattle.common.specs.Refusal.{got, refused, answered, Accepted, Refused}
use Rattle.layout.specs.Layout.{at, Layout}
use Rattle.raw_attribute_view.specs.Records.{IsRead, IsView}
use Rattle.raw_attribute_view.specs.View.{Numbers, start_in, part_bytes, write_part, fields_of, point_part, write_point}
use Rattle.raw_attribute_view.specs.declared.Part.{Part}
use Rattle.raw_attribute_view.specs.declared.RawAttributeView.{RawAttributeView}

-- ---- reading

-- of a view that was made of so many points, each is read: its part starts at the attribute's offset in that point
pub record ReadClaim : Type 0 where
  pub reads :
      (l : Layout) (place count n i : ℕ) (v : Numbers) → fields_of l place count n ≡ got v → i < count
      → start_in n v.offset v.stride v.size i ≡ got (i * l.size + (at l.attributes place).offset)

-- ---- writing: what stays, and what may change

-- of s and t, which are equally long, no byte differs but those of the part
pub record OnlyPart (s t : List ℕ) (start size : ℕ) : Type 0 where
  pub same_length : length t ≡ length s
  pub stays : (k : ℕ) → (k < start) ⊎ (start + size ≤ k) → get_or t k 0 ≡ get_or s k 0

pub record WriteClaim : Type 0 where
  -- whatever value is written to the part of point i, no byte outside it changes
  pub only_part :
      (s value t : List ℕ) (offset stride size i : ℕ) → write_part s offset stride size i value ≡ got t → OnlyPart s t (i * stride + offset) size
  -- a value as long as the part is what the part then shows
  pub shows :
      (s value t : List ℕ) (offset stride size i : ℕ) → write_part s offset stride size i value ≡ got t → length value ≡ size
      → part_bytes t size (start_in (length t) offset stride size i) ≡ value

-- ---- one attribute of one point: `read_point`, and a view that is made and read

-- r is what reading point i of the view gives; a view that is refused is not read, and its refusal stands
unfoldable pub IsReadOf : Result RawAttributeView Refusal → ℕ → Result (Bor (List ℕ)) Refusal → Type 0
IsReadOf (Ok v) i r = IsRead v i r
IsReadOf (Err e) i r = r ≡ Err e

-- making the view and reading the point were accepted, and what was read is that part of the caller's bytes, at its place
pub record ShownBy (s : Bor (List ℕ)) (m : Result RawAttributeView Refusal) (r : Result (Bor (List ℕ)) Refusal) (p : Part) : Type 0 where
  pub made : answered m ≡ Accepted
  pub read : answered r ≡ Accepted
  pub bytes : IfOk r (λ part. part.now ≡ take p.size (drop p.start s.now))
  pub place : IfOk r (λ part. part.ref_ptr ≡ (s.ref_ptr.0, p.start + s.ref_ptr.1))

pub record PointClaim : Type 0 where
  -- the part lies within the lent bytes
  pub within : (l : Layout) (place count n i : ℕ) (p : Part) → point_part l place count n i ≡ got p → p.start + p.size ≤ n
  -- it is what a view shows that is made of the same points and read
  pub shown :
      (l : Layout) (place count i : ℕ) (s : Bor (List ℕ)) (m : Result RawAttributeView Refusal) (r : Result (Bor (List ℕ)) Refusal) (p : Part)
      → IsView l place count s m → IsReadOf m i r → point_part l place count (length s.now) i ≡ got p → ShownBy s m r p
  -- and its refusal is that of the maker, or where that accepts, of the reader
  pub refused :
      (l : Layout) (place count i : ℕ) (s : Bor (List ℕ)) (m : Result RawAttributeView Refusal) (r : Result (Bor (List ℕ)) Refusal) (n : ℕ)
      → IsView l place count s m → IsReadOf m i r → point_part l place count (length s.now) i ≡ refused n → answered r ≡ Refused n
  -- a value written to the point goes into that part, and no other byte changes
  pub written :
      (l : Layout) (place count i : ℕ) (s value t : List ℕ) → write_point l place count s i value ≡ got t
      → (p : Part) × ((point_part l place count (length s) i ≡ got p) × OnlyPart s t p.start p.size)
