-- What a reader of a sheet gives, by the format of what it reads.
use Rattle.std.specs.Prelude.{Result, Ok, Err}
use Rattle.common.specs.Refusal.{Outcome, got, refused, and_then, number_of}
use Rattle.common.specs.declared.Refusal.{Refusal}
use Rattle.format.specs.Format.{Format, end, ◌>>=◌, read_by}
use Rattle.layout_sheets.specs.Place.{Place}

-- a value that was read, and the place after it
pub record Left (X : Type 0) : Type 0 where
  pub value : X
  pub place : Place

abbrev pub left : {X : Type 0} → X → Place → Left X
left x p = record { value = x; place = p }

-- what a function of the code gives, and the place at which it leaves the reader; of a refusal the place is not told
abbrev pub given : {X : Type 0} → Result X Refusal → Place → Outcome (Left X)
given (Ok x) p = got (left x p)
given (Err r) p = refused (number_of r)

-- the same, where the code has the value in another form
abbrev pub given_as : {X Y : Type 0} → (X → Y) → Result X Refusal → Place → Outcome (Left Y)
given_as h (Ok x) p = got (left (h x) p)
given_as h (Err r) p = refused (number_of r)

-- what a format reads from a place on
unfoldable pub reads : {X : Type 0} → Format X → Place → Outcome (Left X)
reads f p = and_then (read_by f p.sheet p.at) (λ r. got (left r.value (record { sheet = p.sheet; at = r.next })))

-- what a format says, as the code has it
unfoldable pub coded : {X Y : Type 0} → (X → Y) → Format X → Format Y
coded h f = f >>= (λ x. end (h x))
