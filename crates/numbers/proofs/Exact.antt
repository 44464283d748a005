-- An integer as a float that holds it: the machine's conversion, and the integer that it reads from a pattern of 64 bits.
use Rattle.std.specs.Prelude.{◌≡◌, ◌≤◌, ◌<◌, ◌-◌, ◌^◌, ◌%◌}
use Rattle.common.specs.Logic.{◌∙◌, sym, ap, subst, ap₂, ⊎_elim, ℕ, le_trans, mod-lt, arith}
use Rattle.std.proofs.Common.{ℤ, nat_abs, pow_pos, pow_mono, w64, to_z, of_z}
use mir.ValLaws.{of_z-to_z}
use lib.Ieee.{of_int, to_bits}
use Rattle.numbers.specs.Casts.{format_of, signed_of, int_to_int, int_to_float}
use Rattle.numbers.specs.Widths.{bits_in}
use Rattle.numbers.specs.declared.format.Format.{Format as Coded}
use Rattle.numbers.specs.declared.integer.Width.{Width}
use Rattle.numbers.proofs.Size.{lt-or-ge}
use Rattle.numbers.proofs.TwosComplement.{signed_low, signed_high, twice_half, same_number_lem}
use Rattle.numbers.proofs.Widths.{width-range}

-- its distance from 0
distance-le : (w x : ℕ) → 0 < w → x < 2 ^ w → nat_abs (signed_of w x) ≤ 2 ^ (w - 1)
distance-le w x W F =
    ⊎_elim (λ l. rw (signed_low w x l) (omega arith)) (λ l. rw (signed_high w x l) (omega (arith, twice_half w W))) (lt-or-ge x (2 ^ (w - 1)))

-- ---- what the machine reads from the pattern in 64 bits of the integer of the low bits of x
module _ (w : Width) (x : ℕ) {y : ℕ} {r : ℤ} (B : y < 2 ^ 64) (Y : y ≡ int_to_int 64 (signed_of (bits_in w) (x % 2 ^ bits_in w))) (R : r ≡ to_z w64 y) where
  abbrev low : ℕ
  low = x % 2 ^ bits_in w

  low_fits : low < 2 ^ bits_in w
  low_fits = mod-lt x (pow_pos (bits_in w))

  pub read_is : to_z w64 (of_z w64 r) ≡ signed_of (bits_in w) low
  read_is =
      ap (to_z w64) (ap (of_z w64) R ∙ of_z-to_z w64 y (record { fits = B })) ∙ ap (signed_of 64) Y
      ∙ same_number_lem (bits_in w) low (width-range w).0 (width-range w).1 low_fits

  pub read_small : {p : ℕ} → bits_in w ≤ p → nat_abs (to_z w64 (of_z w64 r)) ≤ 2 ^ p
  read_small {p} h =
      subst (λ (z : ℤ). nat_abs z ≤ 2 ^ p) (sym read_is)
      (le_trans (distance-le (bits_in w) low (width-range w).0 low_fits) (pow_mono {i = bits_in w - 1} {j = p} (omega arith)))

-- ---- as a float that holds it: v is the integer z as the machine has it
module _ (f g : Coded) (E : f ≡ g) (z v : ℤ) (R : v ≡ z) where
  pub held-is : to_bits (format_of g) (of_int (format_of g) v) ≡ int_to_float (format_of f) z
  unfolding int_to_float
  held-is = ap₂ (λ (b : Coded) (y : ℤ). to_bits (format_of b) (of_int (format_of b) y)) (sym E) R
