-- What a reader may believe of the casts beyond the contracts; each is proved in proofs/Claims.antt, and what is lost in proofs/Differing.antt.
use Rattle.std.specs.Prelude.{◌≡◌, ◌<◌, ◌^◌, Float}
use Rattle.common.specs.Logic.{true, cond, List, ℕ, length}
use Rattle.common.specs.Lists.{sum_below}
use Rattle.datatype.specs.Datatype.{same_datatype, size_of}
use Rattle.datatype.specs.declared.datatype.Datatype.{Datatype}
use Rattle.attribute_conversion.specs.Attributes.{cast_bytes, component, components_of, component_of}
use Rattle.attribute_conversion.specs.Bytes.{le_value, le_bytes}
use Rattle.attribute_conversion.specs.Lost.{lost_in}
use Rattle.kept_casts.specs.Kept.{value_in, same_number}
use Rattle.pairs.specs.Pairs.{pair_of}
use Rattle.scalar_casts.specs.Scalars.{kind_of, width_of, cast_scalar}
use Rattle.pairs.specs.declared.pair.Pair.TheVariants.{Cast, Nothing}

-- reading what was written gives the number back
abbrev pub ReadBack : Type 0
ReadBack = (n x : ℕ) → x < 256 ^ n → le_value (le_bytes n x) ≡ x

-- equal datatypes are copied, every byte kept
abbrev pub Copied : Type 0
Copied = (from to : Datatype) (s : List ℕ) → same_datatype from to ≡ true → cast_bytes from to s ≡ s

-- a cast attribute has the target's size
abbrev pub CastLength : Type 0
CastLength =
    (from to : Datatype) (s : List ℕ) → (pair_of from to ≡ Nothing → ⊥) → length s ≡ size_of from → length (cast_bytes from to s) ≡ size_of to

-- ---- demand 2, the 110 casts: "Vec3 goes component by component"

-- Both codes have as many components, one or three (`components_of`); the cast has the target's size; and component i of it, of the scalar that the
-- target's code has (`component_of`), is the cast of component i.
pub record CastByComponent (from to : Datatype) (s : List ℕ) : Type 0 where
  pub as_many : components_of from.code ≡ components_of to.code
  pub size : length (cast_bytes from to s) ≡ size_of to
  pub each : (i : ℕ) → i < components_of to.code
      → component (width_of (component_of to.code)) i (cast_bytes from to s)
      ≡ le_bytes (width_of (component_of to.code)) (cast_scalar (component_of from.code) (component_of to.code) (le_value (component (width_of (component_of from.code)) i s)))

abbrev pub ByComponent : Type 0
ByComponent = (from to : Datatype) (s : List ℕ) → pair_of from to ≡ Cast → length s ≡ size_of from → CastByComponent from to s

-- ---- document 02, point 8

-- the number in component j of an attribute's bytes
abbrev pub number_at : Datatype → List ℕ → ℕ → Float
number_at d s j = value_in (kind_of (component_of d.code)) (le_value (component (width_of (component_of d.code)) j s))

-- 1 where component j of the bytes r of the datatype `to` is another number than that of the bytes s of the datatype `from`, else 0
unfoldable pub differs_at : Datatype → Datatype → List ℕ → List ℕ → ℕ → ℕ
differs_at from to s r j = cond (same_number (number_at from s j) (number_at to r j)) 0 1

-- how many components are
unfoldable pub differing : Datatype → Datatype → List ℕ → List ℕ → ℕ
differing from to s r = sum_below (differs_at from to s r) (components_of from.code)

pub record LostInClaim : Type 0 where
  -- as many are lost as are another number in the bytes that the cast or the copy gives
  pub differing : (from to : Datatype) (s : List ℕ) → (pair_of from to ≡ Nothing → ⊥) → length s ≡ size_of from → lost_in from to s ≡ differing from to s (cast_bytes from to s)
  -- of a copy none
  pub copied : (from to : Datatype) (s : List ℕ) → same_datatype from to ≡ true → lost_in from to s ≡ 0
