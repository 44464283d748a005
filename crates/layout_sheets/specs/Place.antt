-- A place in a sheet.
use Rattle.common.specs.Logic.{List, ℕ}

-- a sheet, and the position of its next bit
pub record Place : Type 0 where
  pub sheet : List ℕ
  pub at : ℕ
