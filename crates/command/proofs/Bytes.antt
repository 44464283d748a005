-- An exit status fits a byte.
use Rattle.std.specs.Prelude.{◌<◌}
use Rattle.common.specs.Logic.{ℕ, arith}
use Rattle.common.specs.Lists.{is_one_of}
use Rattle.usage.specs.Status.{IsStatus}

pub status-byte : (n : ℕ) → IsStatus n → n < 256
unfolding is_one_of
status-byte n h = grind arith
