-- What a reader has to believe of points that are converted into another buffer and back, each claim whole, with its conditions; the proofs
-- are in proofs/.
use Rattle.std.specs.Prelude.{◌≡◌, ◌<◌, ◌+◌}
use Rattle.common.specs.Logic.{true, List, ℕ, length, get_or}
use Rattle.common.specs.Refusal.{got}
use Rattle.layout.specs.Layout.{Layout, is_sound}
use Rattle.layout.specs.Lookup.{compare_without_offsets}
use Rattle.point_buffer.specs.Claims.{RangeOf}
use Rattle.point_buffer.specs.Places.{bytes_at, LiesAt, length_of}
use Rattle.point_buffer.specs.declared.PointRange.{PointRange}
use Rattle.plans.specs.Makers.{for_layouts}
use Rattle.plans.specs.Plan.{Plan}
use Rattle.buffer_conversion.specs.Conversion.{convert_into_range}

-- The points of the range `from` of src, of the layout l, are converted into the range `via` of mid, of the layout k, and those into the
-- range `to` of t, of the layout l again. Each range has its own storage and count. The same ranges there and back are the case where `to`
-- is `from`; here `to` may be any range of as many points.
pub record Restored (l k : Layout) (src : List ℕ) (from : PointRange) (mid : List ℕ) (via : PointRange) (t : List ℕ) (to : PointRange)
    : Type 0 where
  -- the plans of `for_layouts`, never refused
  pub there : Plan
  pub back : Plan
  pub there-is : for_layouts l k ≡ got there
  pub back_is : for_layouts k l ≡ got back
  -- both conversions pass their checks and are carried out; what mid and t are then, whole
  pub sent : List ℕ
  pub returned : List ℕ
  pub goes : convert_into_range there src from mid via ≡ got sent
  pub comes : convert_into_range back sent via t to ≡ got returned
  pub same_length : length returned ≡ length t
  -- "every attribute byte of those points comes back"
  pub bytes :
      (i j : ℕ) → i < length_of from → j < length l.attributes
      → bytes_at l to j (to.start + i) returned ≡ bytes_at l from j (from.start + i) src
  -- "and every byte of the receiving buffer that belongs to no attribute of those points, padding too, is what that buffer had"
  pub kept :
      (y : ℕ) → ((i j : ℕ) → i < length_of to → j < length l.attributes → LiesAt l to j (to.start + i) y → ⊥)
      → get_or returned y 0 ≡ get_or t y 0

-- two sound layouts with the same attributes, names and datatypes, which is what `compare_without_offsets` finds
abbrev pub RoundTripClaim : Type 0
RoundTripClaim =
    (l k : Layout) (src : List ℕ) (from : PointRange) (mid : List ℕ) (via : PointRange) (t : List ℕ) (to : PointRange)
    → compare_without_offsets l k ≡ got true
    → RangeOf l from src → RangeOf k via mid → RangeOf l to t → length_of from ≡ length_of via → length_of via ≡ length_of to
    → Restored l k src from mid via t to

-- "by the `for_layouts` plan of one layout to itself": points into columns and back, and any other storages
abbrev pub ItselfClaim : Type 0
ItselfClaim =
    (l : Layout) (src : List ℕ) (from : PointRange) (mid : List ℕ) (via : PointRange) (t : List ℕ) (to : PointRange)
    → is_sound l ≡ true
    → RangeOf l from src → RangeOf l via mid → RangeOf l to t → length_of from ≡ length_of via → length_of via ≡ length_of to
    → Restored l l src from mid via t to
