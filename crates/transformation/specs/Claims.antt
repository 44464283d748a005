-- Document 02, point 7: the formula at worked numbers, by patterns. What they give is computed in proofs/Claims.antt.
use Rattle.std.specs.Prelude.{◌≡◌, Float}
use Rattle.common.specs.Logic.{ℕ}
use Rattle.std.specs.Float.{binary64}
use Rattle.std.specs.Float.Ieee.{of_bits}
use Rattle.transformation.specs.Transformation.{◌⊕◌, ◌⊗◌, coordinate, stored_bits}

abbrev pub f64 : ℕ → Float
f64 b = of_bits binary64 b

-- 1, 2^53 and its negative
abbrev pub one : Float
one = f64 0x3ff0_0000_0000_0000

abbrev pub large : Float
large = f64 0x4340_0000_0000_0000

abbrev pub minus_large : Float
minus_large = f64 0xc340_0000_0000_0000

pub record WorkedExamples : Type 0 where
  -- ((1×1 + 0×0) + 1×2^53) − 2^53: the 1 is rounded away before the shift comes
  pub in_order : stored_bits (coordinate one (f64 0) one minus_large (record { x = one; y = f64 0; z = large })) ≡ 0
  -- so another grouping is another formula
  pub not-grouped : stored_bits ((one ⊗ one ⊕ f64 0 ⊗ f64 0) ⊕ (one ⊗ large ⊕ minus_large)) ≡ 0x3ff0_0000_0000_0000
  -- infinity − infinity, and a NaN with its sign and a payload
  pub no_number : stored_bits (f64 0x7ff0_0000_0000_0000 ⊕ f64 0xfff0_0000_0000_0000) ≡ 0x7ff8_0000_0000_0000
  pub payload : stored_bits (f64 0xfff0_0000_0000_0001 ⊕ one) ≡ 0x7ff8_0000_0000_0000
  -- −0 + 0: a shift by zeros is not nothing
  pub zero-shift : stored_bits (f64 0x8000_0000_0000_0000 ⊕ f64 0) ≡ 0
