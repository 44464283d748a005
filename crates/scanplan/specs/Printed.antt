-- Document 01, section Sheets: what `scanplan` prints.
use Rattle.std.specs.Prelude.{◌≡◌, ◌++◌, ◌<◌}
use Rattle.common.specs.Logic.{List, [], ℕ, length, take}
use Rattle.listing.specs.Text.{printed}
use Rattle.sheets.specs.Frame.{three_sheets}

-- the text for an input whose first n bytes were read into a buffer; the input goes on only where they fill the buffer
abbrev pub Printed : List ℕ → ℕ → List ℕ → Type 0
Printed buffer n text = (rest : List ℕ) → (n < length buffer → rest ≡ []) → text ≡ printed (three_sheets (take n buffer ++ rest))
