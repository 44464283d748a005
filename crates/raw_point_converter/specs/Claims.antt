-- What a reader has to believe of the conversion of one point, said of the layouts alone; the proof is in proofs/Claims.antt.
use Rattle.std.specs.Prelude.{◌≡◌, ◌≤◌, ◌<◌}
use Rattle.common.specs.Logic.{true, Bool, false, List, ℕ, length, get_or, take, drop}
use Rattle.common.specs.Refusal.{got}
use Rattle.datatype.specs.Datatype.{size_of, same_datatype}
use Rattle.layout.specs.Layout.{Attribute, at, end_of, HasByte, Layout, is_sound}
use Rattle.pairs.specs.Pairs.{pair_of}
use Rattle.pairs.specs.declared.pair.Pair.TheVariants.{Nothing}
use Rattle.attribute_conversion.specs.Attributes.{cast_bytes}
use Rattle.raw_point_converter.specs.Convert.{convert_point}

-- the bytes of an attribute in a point
unfoldable pub bytes_of : Attribute → List ℕ → List ℕ
bytes_of a point = take (size_of a.definition.datatype) (drop a.offset point)

-- the source attribute at place i and the target attribute at place j have one name; equal: whether their datatypes are equal
pub record Namesakes (l m : Layout) (equal : Bool) (i j : ℕ) : Type 0 where
  pub source-listed : i < length l.attributes
  pub target-listed : j < length m.attributes
  pub names : (at l.attributes i).definition.name ≡ (at m.attributes j).definition.name
  pub datatypes : same_datatype (at l.attributes i).definition.datatype (at m.attributes j).definition.datatype ≡ equal

-- u is the target t after the call: as long as before; same-named attributes of unequal datatype are cast; those of equal datatype
-- keep the target's bytes, and so does every byte that is not in one that was cast
pub record PointConverted (l m : Layout) (s t u : List ℕ) : Type 0 where
  pub as_long : length u ≡ length t
  pub cast :
      (i j : ℕ) → Namesakes l m false i j
      → bytes_of (at m.attributes j) u ≡ cast_bytes (at l.attributes i).definition.datatype (at m.attributes j).definition.datatype (bytes_of (at l.attributes i) s)
  pub skipped : (i j : ℕ) → Namesakes l m true i j → bytes_of (at m.attributes j) u ≡ bytes_of (at m.attributes j) t
  pub rest : (k : ℕ) → ((i j : ℕ) → Namesakes l m false i j → HasByte (at m.attributes j) k → ⊥) → get_or u k 0 ≡ get_or t k 0

-- the source attribute at place i and the target attribute at place j have copy or cast, and each point ends at or after the end of its attribute
pub record Convertible (l m : Layout) (s t : List ℕ) (i j : ℕ) : Type 0 where
  pub pair : pair_of (at l.attributes i).definition.datatype (at m.attributes j).definition.datatype ≡ Nothing → ⊥
  pub source : end_of (at l.attributes i) ≤ length s
  pub target : end_of (at m.attributes j) ≤ length t

pub record ConvertClaim : Type 0 where
  pub converted : (l m : Layout) (s t u : List ℕ) → convert_point l m s t ≡ got u → PointConverted l m s t u
  -- two sound layouts whose same-named attributes of unequal datatype are all so: points are converted, however long
  pub accepted :
      (l m : Layout) (s t : List ℕ) → is_sound l ≡ true → is_sound m ≡ true
      → ((i j : ℕ) → Namesakes l m false i j → Convertible l m s t i j)
      → (u : List ℕ) × (convert_point l m s t ≡ got u)
