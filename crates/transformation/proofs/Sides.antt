-- Which side a transformation asks to be Vec3f64.
use Rattle.std.specs.Prelude.{◌≡◌, Some}
use Rattle.common.specs.Logic.{refl, true, eqb-true}
use Rattle.datatype.specs.declared.datatype.Datatype.{Datatype}
use Rattle.transformation.specs.Transformation.{nothing, on_side, side_fits}
use Rattle.transformation.specs.declared.Carried.{Carried}

-- nothing carried asks for nothing
pub nothing-fits : (from to : Datatype) → side_fits nothing from to ≡ true
unfolding side_fits
nothing-fits from to = refl

-- else the chosen side is
pub side_is : (c : Carried) (from to : Datatype) → side_fits (Some c) from to ≡ true → (on_side c.side from to).code ≡ 14
unfolding side_fits
side_is c from to f = eqb-true _ 14 f
