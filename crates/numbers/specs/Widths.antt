-- How many bits an integer has.
use Rattle.common.specs.Logic.{ℕ}
use Rattle.numbers.specs.declared.integer.Width.{Width}
use Rattle.numbers.specs.declared.integer.Width.TheVariants.{W8, W16, W32, W64}

abbrev pub bits_in : Width → ℕ
bits_in W8 = 8
bits_in W16 = 16
bits_in W32 = 32
bits_in W64 = 64
