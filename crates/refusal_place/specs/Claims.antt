-- What a reader has to believe of the place of a refusal, each claim whole; the proofs are in proofs/.
use Rattle.std.specs.Prelude.{◌≡◌, ◌⊎◌, ◌↔◌, ◌≤◌, ◌<◌}
use Rattle.common.specs.Logic.{List, None, Some, Option, ℕ, suc, length}
use Rattle.common.specs.Refusal.{Outcome, got, refused}
use Rattle.format.specs.Bits.{number_at}
use Rattle.layout.specs.Layout.{Layout}
use Rattle.layout_sheets.specs.Sheet.{layout_sheet}
use Rattle.plans.specs.Plan.{Plan}
use Rattle.refusal_place.specs.Place.{by_attributes, attribute_place, by_lines, by_targets, line_place, refusal_place}
use Rattle.refusal_place.specs.declared.RefusalPlace.{RefusalPlace}
use Rattle.refusal_place.specs.declared.RefusalPlace.TheVariants.{Input, Sheet, Attribute, Target as TargetPlace, Line}
use Rattle.refusal_place.specs.declared.SheetKind.{SheetKind}
use Rattle.refusal_place.specs.declared.SheetKind.TheVariants.{Source, Target, Mapping}
use Rattle.sheets.specs.Frame.{Sheets, frame, three_sheets}
use Rattle.sheets.specs.Mapping.{mapping_sheet}

-- ---- which sheet

-- the sheet that a place lies in
unfoldable pub sheet_of : Option RefusalPlace → Option SheetKind
sheet_of None = None
sheet_of (Some Input) = None
sheet_of (Some (Sheet k)) = Some k
sheet_of (Some (Attribute k j)) = Some k
sheet_of (Some (TargetPlace j)) = Some Mapping
sheet_of (Some (Line j)) = Some Mapping

-- the place lies in what refuses first: the frame, the source sheet, the target sheet, the mapping sheet
pub record WhichClaim : Type 0 where
  pub nowhere : (s : List ℕ) → (refusal_place s ≡ None) ↔ ((p : Plan) × (three_sheets s ≡ got p))
  pub input : (s : List ℕ) → (refusal_place s ≡ Some Input) ↔ ((n : ℕ) × (frame s ≡ refused n))
  pub source : (s : List ℕ) (f : Sheets) → frame s ≡ got f → (sheet_of (refusal_place s) ≡ Some Source) ↔ ((n : ℕ) × (layout_sheet f.source ≡ refused n))
  pub target :
      (s : List ℕ) (f : Sheets) (l : Layout) → frame s ≡ got f → layout_sheet f.source ≡ got l
      → (sheet_of (refusal_place s) ≡ Some Target) ↔ ((n : ℕ) × (layout_sheet f.target ≡ refused n))
  pub mapping :
      (s : List ℕ) (f : Sheets) (l m : Layout) → frame s ≡ got f → layout_sheet f.source ≡ got l → layout_sheet f.target ≡ got m
      → (sheet_of (refusal_place s) ≡ Some Mapping) ↔ ((n : ℕ) × (mapping_sheet l m f.mapping ≡ refused n))

-- and it is the place of the sheet's own refusal
pub record OwnClaim : Type 0 where
  pub source : (s : List ℕ) (f : Sheets) (n : ℕ) → frame s ≡ got f → layout_sheet f.source ≡ refused n → refusal_place s ≡ Some (attribute_place Source f.source n)
  pub target :
      (s : List ℕ) (f : Sheets) (l : Layout) (n : ℕ) → frame s ≡ got f → layout_sheet f.source ≡ got l → layout_sheet f.target ≡ refused n
      → refusal_place s ≡ Some (attribute_place Target f.target n)
  pub mapping :
      (s : List ℕ) (f : Sheets) (l m : Layout) (n : ℕ) → frame s ≡ got f → layout_sheet f.source ≡ got l → layout_sheet f.target ≡ got m → mapping_sheet l m f.mapping ≡ refused n
      → refusal_place s ≡ Some (line_place l m f.mapping n)

-- ---- which attribute or line

-- the entries up to that at place j are refused with n, and fewer are not
pub record Shown {X : Type 0} (n : ℕ) (first : ℕ → Outcome X) (j : ℕ) : Type 0 where
  pub listed : j < 32
  pub with_it : first (suc j) ≡ refused n
  pub without : (i : ℕ) → i ≤ j → first i ≡ refused n → ⊥

-- no entry brings it about: without any there is the refusal with n, or with all 32 there is not
abbrev pub NotShown : {X : Type 0} → ℕ → (ℕ → Outcome X) → Type 0
NotShown n first = (first 0 ≡ refused n) ⊎ ((i : ℕ) → i ≤ 32 → first i ≡ refused n → ⊥)

pub record AttributeClaim : Type 0 where
  pub attribute : (which : SheetKind) (s : List ℕ) (n j : ℕ) → (attribute_place which s n ≡ Attribute which j) ↔ Shown n (by_attributes s) j
  pub whole : (which : SheetKind) (s : List ℕ) (n : ℕ) → (attribute_place which s n ≡ Sheet which) ↔ NotShown n (by_attributes s)
  -- it is one of the sheet's, whose number stands in its first 6 bits
  pub listed : (which : SheetKind) (s : List ℕ) (n j : ℕ) → attribute_place which s n ≡ Attribute which j → j < number_at s 0 6

pub record LineClaim : Type 0 where
  pub line : (l m : Layout) (s : List ℕ) (n j : ℕ) → (line_place l m s n ≡ Line j) ↔ Shown n (by_lines l m s) j
  pub by_name : (l m : Layout) (s : List ℕ) (n j : ℕ) → (line_place l m s n ≡ TargetPlace j) ↔ (NotShown n (by_lines l m s) × Shown n (by_targets l m s) j)
  pub whole : (l m : Layout) (s : List ℕ) (n : ℕ) → (line_place l m s n ≡ Sheet Mapping) ↔ (NotShown n (by_lines l m s) × NotShown n (by_targets l m s))
  pub listed : (l m : Layout) (s : List ℕ) (n j : ℕ) → line_place l m s n ≡ Line j → j < number_at s 0 6
  pub targets : (l m : Layout) (s : List ℕ) (n j : ℕ) → line_place l m s n ≡ TargetPlace j → j < length m.attributes

pub record PlaceClaim : Type 0 where
  pub which : WhichClaim
  pub own : OwnClaim
  pub attributes : AttributeClaim
  pub lines : LineClaim
