-- Document 02, point 8: how many components a cast loses. "Every cast must tell whether its result is the same number as its source."
use Rattle.std.specs.Prelude.{Some, None, Option}
use Rattle.common.specs.Logic.{Bool, cond, List, ℕ, eqb}
use Rattle.common.specs.Lists.{sum_below}
use Rattle.datatype.specs.Datatype.{same_datatype}
use Rattle.datatype.specs.declared.datatype.Datatype.{Datatype}
use Rattle.scalar_casts.specs.Scalars.{width_of, keeps_number}
use Rattle.scalar_casts.specs.declared.scalar.Scalar.{Scalar}
use Rattle.attribute_conversion.specs.Attributes.{component, components_of, component_of}
use Rattle.attribute_conversion.specs.Bytes.{le_value}

-- 1 where the number in the bytes is lost by the cast to the scalar `to`, else 0
unfoldable pub lost_number : Scalar → Scalar → List ℕ → ℕ
lost_number from to s = cond (keeps_number from to (le_value s)) 0 1

-- the same of component i of the bytes of an attribute
unfoldable pub lost_component : Scalar → Scalar → List ℕ → ℕ → ℕ
lost_component from to s i = lost_number from to (component (width_of from) i s)

-- How many components are lost of the bytes s of an attribute of the datatype `from`, cast to the datatype `to`. Equal datatypes are copied: a copy
-- loses nothing.
unfoldable pub lost_in : Datatype → Datatype → List ℕ → ℕ
lost_in from to s =
    cond (same_datatype from to) 0 (sum_below (lost_component (component_of from.code) (component_of to.code) s) (components_of from.code))

-- what a cast answers, where it fits or not: how many components were lost, or nothing
unfoldable pub cast_answer : Bool → ℕ → Option ℕ
cast_answer fits lost = cond fits (Some lost) None

-- ---- for the proofs inside the crate: the same by codes alone

unfoldable pub lost_codes : ℕ → ℕ → List ℕ → ℕ
lost_codes from to s = cond (eqb from to) 0 (sum_below (lost_component (component_of from) (component_of to) s) (components_of from))
