-- Laws of the points of a file, and of the points of a block.
use Rattle.std.specs.Prelude.{◌≡◌, ◌≤◌, ◌<◌, ◌*◌, ◌/◌}
use Rattle.common.specs.Logic.{Some, ℕ, min, max, le-div_iff_mul-le, div-mul-le_self, arith, eq-eqb}
use native.Mathlib.Nat.{div-le_self, mul-le-mul}
use Rattle.point_blocks.specs.Blocks.{points_in, points_per_block}

-- ---- the points of a file

pub whole-points : (l s : ℕ) → l / s * s ≡ l → Some (l / s) ≡ points_in l s
unfolding points_in
whole-points l s h = rw (eq-eqb (l / s * s) l h)

-- ---- the points of a block

-- a point has at most 65,535 bytes, so that a block holds some
pub some-points : (s t : ℕ) → s < 65536 → t < 65536 → 0 < 262144 / max (max s t) 1
some-points s t h k = (le-div_iff_mul-le {k = max (max s t) 1} (omega arith)).1 (omega arith)

-- points of some size, no larger than the block's divisor
pub fits_by : (n s d : ℕ) → n ≤ 262144 / d → s ≤ d → n * s ≤ 262144
fits_by n s d h k = omega (arith, mul-le-mul h k, div-mul-le_self 262144 d)

module _ (n l m s t : ℕ) (e : n ≡ min l m) (h : m ≡ points_per_block s t) where
  most : n ≤ 262144 / max (max s t) 1
  unfolding points_per_block
  most = omega arith

  pub fits-first : n * s ≤ 262144
  fits-first = fits_by n s (max (max s t) 1) most (omega arith)

  pub fits-second : n * t ≤ 262144
  fits-second = fits_by n t (max (max s t) 1) most (omega arith)

  pub fits-block : n ≤ 262144
  fits-block = omega (arith, most, div-le_self 262144 (max (max s t) 1))
