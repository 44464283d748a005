-- The exit status of the command.
use Rattle.std.specs.Prelude.{◌≡◌, ◌∷◌}
use Rattle.common.specs.Logic.{true, false, [], List, map, ℕ}
use Rattle.common.specs.Lists.{is_one_of}
use Rattle.usage.specs.declared.status.Status.{Status}
use Rattle.usage.specs.declared.status.Status.TheVariants.{Done, Refused, Trouble, Lost, Wrong}

-- 0 done; 1 refused; 2 trouble with a file; 3 numbers would be lost, and the options forbid it; 64 wrong usage
unfoldable pub status_number : Status → ℕ
status_number Done = 0
status_number Refused = 1
status_number Trouble = 2
status_number Lost = 3
status_number Wrong = 64

abbrev pub statuses : List ℕ
statuses = 0 ∷ 1 ∷ 2 ∷ 3 ∷ 64 ∷ []

abbrev pub IsStatus : ℕ → Type 0
IsStatus n = is_one_of statuses n ≡ true

-- every run has one of them, each its own; no other number is one
pub record StatusClaim : Type 0 where
  pub is-status : (s : Status) → IsStatus (status_number s)
  pub own : map status_number (Done ∷ Refused ∷ Trouble ∷ Lost ∷ Wrong ∷ []) ≡ statuses
  pub no_other : map (is_one_of statuses) (4 ∷ 63 ∷ 65 ∷ 256 ∷ []) ≡ false ∷ false ∷ false ∷ false ∷ []
