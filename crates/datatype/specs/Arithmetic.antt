-- Multiples and powers of two.
use Rattle.std.specs.Prelude.{◌+◌, ◌-◌, ◌*◌, ◌^◌, ◌/◌}
use Rattle.common.specs.Logic.{Bool, ℕ, suc, zero, eqb}
use Rattle.std.specs.Float.Ieee.{size}

-- document 01's `align_to`: the next multiple of the alignment; 0 leaves the number unchanged
unfoldable pub align_to : ℕ → ℕ → ℕ
align_to x zero = x
align_to x (suc a) = (x + a) / suc a * suc a

-- 2 to one less than the number of its binary digits
unfoldable pub is_power_of_two : ℕ → Bool
is_power_of_two x = eqb x (2 ^ (size x - 1))
