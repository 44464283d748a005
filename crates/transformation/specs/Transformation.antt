-- Document 02, point 7: a point moved by a shift or a pose. F64 is IEEE 754's binary64 (the logic's `lib.Ieee`).
use Rattle.std.specs.Prelude.{Float, Option, None, Some}
use Rattle.common.specs.Logic.{true, Bool, cond, ℕ, eqb}
use Rattle.std.specs.Float.{binary64}
use Rattle.std.specs.Float.Ieee.{add, mul, is_nan, to_bits}
use Rattle.datatype.specs.declared.datatype.Datatype.{Datatype}
use Rattle.transformation.specs.declared.Carried.{Carried}
use Rattle.transformation.specs.declared.Pose.{Pose as PoseRecord}
use Rattle.transformation.specs.declared.Side.{Side}
use Rattle.transformation.specs.declared.Side.TheVariants.{Source, Target}
use Rattle.transformation.specs.declared.Transformation.{Transformation}
use Rattle.transformation.specs.declared.Transformation.TheVariants.{Shift, Pose}
use Rattle.transformation.specs.declared.Vec3.{Vec3}

-- a sum and a product of two F64, each rounded once
infixl 20 ◌⊕◌
infixl 30 ◌⊗◌
abbrev pub ◌⊕◌ : Float → Float → Float
x ⊕ y = add binary64 x y

abbrev pub ◌⊗◌ : Float → Float → Float
x ⊗ y = mul binary64 x y

-- "((a×x + b×y) + c×z) + t, with a, b, c that coordinate's three factors and t its shift, rounded at every step"
abbrev pub coordinate : Float → Float → Float → Float → Vec3 → Float
coordinate a b c t p = ((a ⊗ p.x ⊕ b ⊗ p.y) ⊕ c ⊗ p.z) ⊕ t

abbrev pub posed : PoseRecord → Vec3 → Vec3
posed by p =
    record {
      x = coordinate by.xx by.xy by.xz by.tx p;
      y = coordinate by.yx by.yy by.yz by.ty p;
      z = coordinate by.zx by.zy by.zz by.tz p;
    }

-- "under a shift alone it is the old one plus t"
abbrev pub shifted : Float → Float → Float → Vec3 → Vec3
shifted x y z p = record { x = p.x ⊕ x; y = p.y ⊕ y; z = p.z ⊕ z }

abbrev pub moved_point : Option Transformation → Vec3 → Vec3
moved_point None p = p
moved_point (Some (Shift x y z)) p = shifted x y z p
moved_point (Some (Pose by)) p = posed by p

-- what a mapping of document 01 carries: no shift or pose is given
abbrev pub nothing : Option Carried
nothing = None

-- document 01's code 14
abbrev pub is_vec3f64 : Datatype → Bool
is_vec3f64 d = eqb d.code 14

-- the datatype on a side
abbrev pub on_side : Side → Datatype → Datatype → Datatype
on_side Source from to = from
on_side Target from to = to

-- 26 does not hold: where a shift or pose is given, the chosen side is Vec3f64
unfoldable pub side_fits : Option Carried → Datatype → Datatype → Bool
side_fits None from to = true
side_fits (Some c) from to = is_vec3f64 (on_side c.side from to)

-- "A NaN result is stored as hex 7FF8000000000000"
unfoldable pub stored_bits : Float → ℕ
stored_bits v = cond (is_nan v) 0x7ff8_0000_0000_0000 (to_bits binary64 v)
