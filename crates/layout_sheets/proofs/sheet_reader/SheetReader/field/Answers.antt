-- `SheetReader::field` meets its contract.
use Rattle.std.specs.Prelude.{◌≤◌, ◌<◌, ◌^◌}
use Rattle.common.specs.Logic.{ℕ, arith}
use lib.Pow.{pow_mono}
use Rattle.layout_sheets.proofs.Readers.{bits-small}
use Rattle.layout_sheets.proofs.sheet_reader.SheetReader.field.Goals as goal

-- up to 16 bits
narrow : (v w : ℕ) → v < 2 ^ w → w ≤ 16 → v < 2 ^ 16
narrow v w h l = let k : 2 ^ w ≤ 2 ^ 16 = pow_mono {i = w} {j = 16} l in omega arith

pub overflow_cast-result : goal.overflow_cast-result
overflow_cast-result c = omega (arith, narrow _ _ (bits-small _ _ c.in_ok-value.ensures) (omega (arith, c.min.ensures)))
