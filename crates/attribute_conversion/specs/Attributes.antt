-- The cast of a whole attribute, on its bytes: "Vec3 goes component by component"; equal datatypes are copied.
use Rattle.std.specs.Prelude.{◌≡◌, ◌&&◌, ◌∷◌, ◌++◌, ◌*◌}
use Rattle.common.specs.Logic.{Bool, cond, List, [], ℕ, suc, zero, eqb, ltb, get_or, take, drop}
use Rattle.datatype.specs.Datatype.{same_datatype, size_of}
use Rattle.datatype.specs.declared.datatype.Datatype.{Datatype}
use Rattle.attribute_conversion.specs.Bytes.{le_value, le_bytes}
use Rattle.pairs.specs.Pairs.{pair_of, has_entry}
use Rattle.scalar_casts.specs.Scalars.{scalars, width_of, cast_scalar}
use Rattle.scalar_casts.specs.declared.scalar.Scalar.{Scalar}
use Rattle.scalar_casts.specs.declared.scalar.Scalar.TheVariants.{U8, U16, I32, F32, F64}

-- the bytes of a number of the scalar `from`, as the bytes of the scalar `to`
unfoldable pub cast_number : Scalar → Scalar → List ℕ → List ℕ
cast_number from to s = le_bytes (width_of to) (cast_scalar from to (le_value s))

-- k numbers, one after the other
unfoldable pub cast_each : ℕ → Scalar → Scalar → List ℕ → List ℕ
cast_each zero from to s = []
cast_each (suc k) from to s = cast_number from to (take (width_of from) s) ++ cast_each k from to (drop (width_of from) s)

-- the bytes of component i, each component having w bytes
abbrev pub component : ℕ → ℕ → List ℕ → List ℕ
component w i s = take w (drop (i * w) s)

-- ---- by code: 0 to 9 are one number, 10 to 14 (Vec3u8, Vec3u16, Vec3f32, Vec3i32, Vec3f64) are three

abbrev pub components_of : ℕ → ℕ
components_of c = cond (ltb c 10) 1 3

-- the scalar of each component, for codes below 15
abbrev pub components : List Scalar
components = scalars ++ (U8 ∷ U16 ∷ F32 ∷ I32 ∷ F64 ∷ [])

abbrev pub component_of : ℕ → Scalar
component_of c = get_or components c F64

-- The bytes s of an attribute of the datatype `from`, as the datatype `to`, where that pair is copy or cast (`pair_of`). Equal datatypes are copied, whatever the bytes.
unfoldable pub cast_bytes : Datatype → Datatype → List ℕ → List ℕ
cast_bytes from to s =
    cond (same_datatype from to) s (cast_each (components_of from.code) (component_of from.code) (component_of to.code) s)

-- a bytes of the datatype `from` can become b bytes of the datatype `to`
unfoldable pub cast_fits : Datatype → Datatype → ℕ → ℕ → Bool
cast_fits from to a b = eqb a (size_of from) && (eqb b (size_of to) && has_entry (pair_of from to))

-- ---- for the proofs inside the crate: the same by codes alone

unfoldable pub cast_codes : ℕ → ℕ → List ℕ → List ℕ
cast_codes from to s = cond (eqb from to) s (cast_each (components_of from) (component_of from) (component_of to) s)

-- a bytes at the code `from` can become b bytes at the code `to`
pub record CodesFit (from to a b : ℕ) : Type 0 where
  pub same : from ≡ to → b ≡ a
  pub source : (from ≡ to → ⊥) → a ≡ components_of from * width_of (component_of from)
  pub target : (from ≡ to → ⊥) → b ≡ components_of from * width_of (component_of to)
