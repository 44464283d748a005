-- How a run ends, as far as sheets and the source's length decide it.
use Rattle.std.specs.Prelude.{◌≡◌, ◌++◌, ◌<◌}
use Rattle.common.specs.Logic.{List, [], ℕ, length, take}
use Rattle.common.specs.Refusal.{Outcome, got, refused}
use Rattle.plans.specs.Plan.{Plan}
use Rattle.sheets.specs.Frame.{three_sheets}
use Rattle.usage.specs.declared.status.Status.{Status}
use Rattle.usage.specs.declared.status.Status.TheVariants.{Done, Refused, Trouble, Lost, Wrong}
use Rattle.std.specs.Prelude.{Result, Ok, Err}
use Rattle.command.specs.declared.failure.Failure.{Failure}
use Rattle.command.specs.declared.failure.Failure.TheVariants.{Refused as RefusedFile, Trouble as TroubleWithFile, Losing, WrongUsage}

-- sheets that are refused end it so
unfoldable pub sheets_end : Outcome Plan → Status
sheets_end (got p) = Done
sheets_end (refused n) = Refused

-- of an input whose first n bytes were read into a buffer; it goes on only where they fill the buffer
abbrev pub EndOfWhole : List ℕ → ℕ → Status → Type 0
EndOfWhole buffer n s = (rest : List ℕ) → (n < length buffer → rest ≡ []) → s ≡ sheets_end (three_sheets (take n buffer ++ rest))

-- the status of a run that fails so
abbrev pub status_of : Failure → Status
status_of RefusedFile = Refused
status_of TroubleWithFile = Trouble
status_of Losing = Lost
status_of WrongUsage = Wrong

-- of a run, or a step of one, by what it answers
abbrev pub ended : {A : Type 0} → Result A Failure → Status
ended (Ok _) = Done
ended (Err e) = status_of e
