-- The place of a refusal: the attribute or line with which a sheet, taken entry by entry, is first refused with the number that the whole is.
use Rattle.std.specs.Prelude.{◌≡◌, ◌++◌, ◌<◌, Option, None, Some, Result}
use Rattle.common.specs.declared.Refusal.{Refusal}
use Rattle.common.specs.Logic.{Bool, false, cond, List, [], ℕ, suc, zero, eqb, ltb, length, take}
use Rattle.common.specs.Refusal.{Outcome, got, refused, answer_of, answered}
use Rattle.common.specs.Refusal.{Answer}
use Rattle.common.specs.Refusal.{Accepted, Refused}
use Rattle.layout.specs.Layout.{Layout}
use Rattle.layout_sheets.specs.Sheet.{layout_sheet, first_layout}
use Rattle.plans.specs.Plan.{Plan}
use Rattle.refusal_place.specs.declared.RefusalPlace.{RefusalPlace}
use Rattle.refusal_place.specs.declared.RefusalPlace.TheVariants.{Input, Sheet, Attribute, Target as TargetPlace, Line}
use Rattle.refusal_place.specs.declared.SheetKind.{SheetKind}
use Rattle.refusal_place.specs.declared.SheetKind.TheVariants.{Source, Target, Mapping}
use Rattle.sheets.specs.Frame.{Sheets, frame}
use Rattle.sheets.specs.Mapping.{mapping_sheet, first_plan}

-- ---- the entry with which a refusal shows

-- of the k numbers from i on the first that passes the test; i + k where none does
unfoldable pub least_from : (ℕ → Bool) → ℕ → ℕ → ℕ
least_from p i zero = i
least_from p i (suc k) = cond (p i) i (least_from p (suc i) k)

-- the refusal with the number n
unfoldable pub is_refusal : ℕ → Answer → Bool
is_refusal n Accepted = false
is_refusal n (Refused m) = eqb m n

-- the first j entries are refused with n
unfoldable pub shows : {X : Type 0} → ℕ → (ℕ → Outcome X) → ℕ → Bool
shows n first j = is_refusal n (answer_of (first j))

-- how many of at most 32 entries it takes for a refusal with n; 33 where they do not bring it about
unfoldable pub shown_with : {X : Type 0} → ℕ → (ℕ → Outcome X) → ℕ
shown_with n first = least_from (shows n first) 0 33

-- the place of the last of so many entries; where it takes none, or they do not bring it about, no entry is told
unfoldable pub place_among : RefusalPlace → (ℕ → RefusalPlace) → ℕ → RefusalPlace
place_among other entry zero = other
place_among other entry (suc j) = cond (ltb j 32) (entry j) other

-- the last of so many entries; none where there is none, or over 32
unfoldable pub entry_at : ℕ → Option ℕ
entry_at zero = None
entry_at (suc j) = cond (ltb j 32) (Some j) None

-- the entry with which the refusal n shows, by the answers to the first so many
unfoldable pub entry_told : ℕ → (ℕ → Answer) → Option ℕ
entry_told n told = entry_at (least_from (λ j. is_refusal n (told j)) 0 33)

-- the answers to at most 32 entries being these, that entry is told
abbrev pub Tells : (ℕ → Result Unit Refusal → Type 0) → ℕ → Option ℕ → Type 0
Tells post n o = (told : ℕ → Answer) → ((j : ℕ) (r : Result Unit Refusal) → j < 33 → post j r → answered r ≡ told j) → o ≡ entry_told n told

-- ---- layout sheets

abbrev pub by_attributes : List ℕ → ℕ → Outcome Layout
by_attributes s j = first_layout j s

-- of the source sheet or the target sheet
unfoldable pub attribute_place : SheetKind → List ℕ → ℕ → RefusalPlace
attribute_place which s n = place_among (Sheet which) (Attribute which) (shown_with n (by_attributes s))

-- ---- mapping sheets

abbrev pub by_lines : Layout → Layout → List ℕ → ℕ → Outcome Plan
by_lines l m s j = first_plan l m j s

-- the layout with its first t attributes alone
unfoldable pub first_targets : ℕ → Layout → Layout
first_targets t m = record { attributes = take t m.attributes; size = m.size; alignment = m.alignment }

-- onto the first t target attributes, before any line
abbrev pub by_targets : Layout → Layout → List ℕ → ℕ → Outcome Plan
by_targets l m s t = first_plan l (first_targets t m) 0 s

unfoldable pub target_place : Layout → Layout → List ℕ → ℕ → RefusalPlace
target_place l m s n = place_among (Sheet Mapping) TargetPlace (shown_with n (by_targets l m s))

unfoldable pub line_place : Layout → Layout → List ℕ → ℕ → RefusalPlace
line_place l m s n = place_among (target_place l m s n) Line (shown_with n (by_lines l m s))

-- ---- three sheets

-- the place of a refusal, or of one that follows
unfoldable pub place_or : {X : Type 0} → Outcome X → (ℕ → RefusalPlace) → (X → Option RefusalPlace) → Option RefusalPlace
place_or (got x) place later = later x
place_or (refused n) place later = Some (place n)

unfoldable pub mapping_place : Layout → Layout → List ℕ → Option RefusalPlace
mapping_place l m s = place_or (mapping_sheet l m s) (line_place l m s) (λ p. None)

-- each sheet in turn
unfoldable pub sheets_place : Sheets → Option RefusalPlace
sheets_place f =
    place_or (layout_sheet f.source) (attribute_place Source f.source) (λ l.
    place_or (layout_sheet f.target) (attribute_place Target f.target) (λ m.
    mapping_place l m f.mapping))

unfoldable pub refusal_place : List ℕ → Option RefusalPlace
refusal_place s = place_or (frame s) (λ n. Input) sheets_place

-- of an input whose first n bytes were read into a buffer: that of the whole, which goes on only where they fill the buffer
abbrev pub PlaceOfWhole : List ℕ → ℕ → Option RefusalPlace → Type 0
PlaceOfWhole buffer n r = (rest : List ℕ) → (n < length buffer → rest ≡ []) → r ≡ refusal_place (take n buffer ++ rest)
