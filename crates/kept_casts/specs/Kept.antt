-- Document 02, point 8: "Every cast must tell whether its result is the same number as its source. A NaN to a float counts as kept, a NaN to an
-- integer as lost, minus zero to 0 and infinity to infinity as kept."
use Rattle.std.specs.Prelude.{◌≡◌, ◌&&◌, ◌||◌, ◌^◌, ◌<◌, ℤ, pos, negsuc, is_nan, Float}
use Rattle.common.specs.Logic.{Bool, true, false, ℕ, suc}
use Rattle.std.specs.Float.{fin}
use Rattle.std.specs.Float.Ieee.{eq}
use Rattle.numbers.specs.Casts.{Kind, unsigned, signed, float, kind_bits, Number, integer, floating, number_of, cast_of}

-- an integer, exactly: n * 2 ^ 0 with its sign, in no format
abbrev pub exactly : ℤ → Float
exactly (pos n) = fin false n (pos 0)
exactly (negsuc n) = fin true (suc n) (pos 0)

-- the value of a number, and of the number that a pattern of the kind stands for
abbrev pub value_of : Number → Float
value_of (integer z) = exactly z
value_of (floating v) = v

abbrev pub value_in : Kind → ℕ → Float
value_in k x = value_of (number_of k x)

-- IEEE 754's equality, where -0 equals 0 and a NaN equals nothing; and a NaN counts as the same as a NaN
unfoldable pub same_number : Float → Float → Bool
same_number u v = eq u v || (is_nan u && is_nan v)

-- the cast of the pattern x from one kind to another is the same number
unfoldable pub is_kept : Kind → Kind → ℕ → Bool
is_kept k l x = same_number (value_in k x) (value_in l (cast_of k l x))

-- ---- what the claims say of a target

abbrev pub is_float : Kind → Bool
is_float (unsigned w) = false
is_float (signed w) = false
is_float (float f) = true

-- the kind has the value u: some pattern stands for it
abbrev pub Has : Kind → Float → Type 0
Has l u = (y : ℕ) × (y < 2 ^ kind_bits l) × (eq u (value_in l y) ≡ true)
