-- The widths of integers.
use Rattle.std.specs.Prelude.{◌≤◌, ◌<◌}
use Rattle.common.specs.Logic.{lit≤, lit<}
use Rattle.numbers.specs.Widths.{bits_in}
use Rattle.numbers.specs.declared.integer.Width.{Width}
use Rattle.numbers.specs.declared.integer.Width.TheVariants.{W8, W16, W32, W64}

pub width-range : (w : Width) → (0 < bits_in w) × (bits_in w ≤ 64)
width-range W8 = (lit< tt, lit≤ tt)
width-range W16 = (lit< tt, lit≤ tt)
width-range W32 = (lit< tt, lit≤ tt)
width-range W64 = (lit< tt, lit≤ tt)
