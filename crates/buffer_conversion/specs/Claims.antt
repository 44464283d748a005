-- What a reader has to believe of the conversion by a plan, whole, with its conditions; the proof is in proofs/.
use Rattle.std.specs.Prelude.{◌≡◌, ◌<◌, ◌+◌}
use Rattle.common.specs.Logic.{true, List, ℕ, length, get_or}
use Rattle.common.specs.Lists.{sum_below, sum}
use Rattle.common.specs.Refusal.{got}
use Rattle.datatype.specs.Datatype.{same_datatype}
use Rattle.attribute_conversion.specs.Attributes.{cast_bytes}
use Rattle.attribute_conversion.specs.Claims.{differing}
use Rattle.point_buffer.specs.Claims.{RangeOf}
use Rattle.point_buffer.specs.Places.{datatype_at, bytes_at, LiesAt, length_of}
use Rattle.point_buffer.specs.declared.PointRange.{PointRange}
use Rattle.buffer_conversion.specs.Conversion.{convert_into_range}
use Rattle.buffer_conversion.specs.Lost.{lost_of, lost_over, lost_counts, converted_answer}
use Rattle.plans.specs.Claims.{mapping_at}
use Rattle.plans.specs.Plan.{Plan, is_sound_plan}
use Rattle.plans.specs.declared.plan.Mapping.{Mapping}

-- ---- demand 3: the conversion, over both storages of both sides

-- a sound plan, with buffers and ranges that pass the six buffer checks: 15 or 22, 16 or 22, 21, 17, 18 and 19
pub record Checked (p : Plan) (src : List ℕ) (from : PointRange) (t : List ℕ) (to : PointRange) : Type 0 where
  pub sound : is_sound_plan p ≡ true
  pub source : RangeOf p.source from src
  pub target : RangeOf p.target to t
  pub as_long : length_of from ≡ length_of to

-- "a target attribute is mapped where a mapping names its place, and its source is the attribute at that mapping's source place"
pub record IsMapped (p : Plan) (target source : ℕ) : Type 0 where
  pub by : ℕ
  pub listed : by < length p.mappings
  pub target_is : (mapping_at p by).target ≡ target
  pub source_is : (mapping_at p by).source ≡ source

-- the i-th point of the target range is to .start + i, and its matching one is from .start + i
pub record CarriedOut (p : Plan) (src : List ℕ) (from : PointRange) (t : List ℕ) (to : PointRange) (r : List ℕ) : Type 0 where
  -- the conversion is carried out, and r is the whole target buffer then
  pub done : convert_into_range p src from t to ≡ got r
  pub same_length : length r ≡ length t
  -- in each point of the target range each mapped attribute holds the cast of its source in the matching point
  pub cast :
      (i target source : ℕ) → i < length_of to → IsMapped p target source
      → bytes_at p.target to target (to.start + i) r
      ≡ cast_bytes (datatype_at p.source source) (datatype_at p.target target) (bytes_at p.source from source (from.start + i) src)
  -- or its copy where datatypes are equal
  pub copied :
      (i target source : ℕ) → i < length_of to → IsMapped p target source
      → same_datatype (datatype_at p.source source) (datatype_at p.target target) ≡ true
      → bytes_at p.target to target (to.start + i) r ≡ bytes_at p.source from source (from.start + i) src
  -- every other byte is as before
  pub kept :
      (k : ℕ) → ((i target source : ℕ) → i < length_of to → IsMapped p target source → LiesAt p.target to target (to.start + i) k → ⊥)
      → get_or r k 0 ≡ get_or t k 0

abbrev pub ConversionClaim : Type 0
ConversionClaim =
    (p : Plan) (src : List ℕ) (from : PointRange) (t : List ℕ) (to : PointRange) → Checked p src from t to → (r : List ℕ) × CarriedOut p src from t to r

-- and no other conversion is carried out
abbrev pub CheckedClaim : Type 0
CheckedClaim =
    (p : Plan) (src : List ℕ) (from : PointRange) (t : List ℕ) (to : PointRange) (r : List ℕ) → convert_into_range p src from t to ≡ got r → Checked p src from t to

-- ---- document 02, point 8

-- one mapping, at point i of the ranges: how many components are another number in the target r than in the source
unfoldable pub differing_at_point : Plan → List ℕ → PointRange → List ℕ → PointRange → Mapping → ℕ → ℕ
differing_at_point p src from r to x i =
    differing (datatype_at p.source x.source) (datatype_at p.target x.target) (bytes_at p.source from x.source (from.start + i) src)
    (bytes_at p.target to x.target (to.start + i) r)

pub record LostClaim : Type 0 where
  -- "The conversion reports how many components were lost in the range, summed over the mappings, proved equal to that count taken from source
  -- bytes and storage, plan and range alone"
  pub reported :
      (p : Plan) (src : List ℕ) (from : PointRange) (t : List ℕ) (to : PointRange) → Checked p src from t to
      → converted_answer (convert_into_range p src from t to) (lost_over p from src) ≡ got (lost_over p from src)
  -- one count for each mapping, whose sum it is: the 32 that are handed back add up to it
  pub summed :
      (p : Plan) (src : List ℕ) (from : PointRange) (t : List ℕ) (to : PointRange) → Checked p src from t to
      → (counts : List ℕ) × (converted_answer (convert_into_range p src from t to) (lost_counts p from src) ≡ got counts) × (sum counts ≡ lost_over p from src)
  -- a mapping's count is that of the components which are another number in the target then than in the source
  pub differ :
      (p : Plan) (src : List ℕ) (from : PointRange) (t : List ℕ) (to : PointRange) (r : List ℕ) → convert_into_range p src from t to ≡ got r
      → (k : ℕ) → k < length p.mappings → lost_of p from src (mapping_at p k) ≡ sum_below (differing_at_point p src from r to (mapping_at p k)) (length_of to)
  -- equal datatypes are copied: nothing is lost
  pub copied :
      (p : Plan) (src : List ℕ) (from : PointRange) (x : Mapping) → same_datatype (datatype_at p.source x.source) (datatype_at p.target x.target) ≡ true
      → lost_of p from src x ≡ 0
