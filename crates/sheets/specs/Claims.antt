-- What a reader has to believe of sheets, each claim whole, with its conditions; the proofs are in proofs/.
use Rattle.std.specs.Prelude.{◌≡◌, ◌++◌, ◌⊎◌, ◌≤◌, ◌<◌}
use Rattle.common.specs.Logic.{true, List, ℕ, length}
use Rattle.common.specs.Refusal.{got, refused}
use Rattle.format.specs.Meaning.{Meaning}
use Rattle.format.specs.Spelling.{Spells, FirstDefect}
use Rattle.layout.specs.Layout.{Layout, is_sound}
use Rattle.layout.specs.Records.{layout_of}
use Rattle.layout.specs.declared.point_layout.PointLayout.{PointLayout}
use Rattle.layout_sheets.specs.Claims.{LayoutMeaningClaim}
use Rattle.layout_sheets.specs.Sheet.{layout_sheet}
use Rattle.plans.specs.Claims.{Stands}
use Rattle.plans.specs.Plan.{Plan, is_sound_plan}
use Rattle.sheets.specs.Frame.{Sheets, frame_format, frame, three_sheets}
use Rattle.sheets.specs.Mapping.{MappingContents, mapping_format, mapping_contents, mapping_sheet}
use Rattle.sheets.specs.Records.{mapping_answer, sheets_answer}
use Rattle.sheets.specs.Values.{mapping_values, frame_values}

-- ---- what sheets mean, as it is said of layout sheets

abbrev pub SpellsMapping : MappingContents → List ℕ → Type 0
SpellsMapping c s = Spells mapping_format (mapping_values c) c s

abbrev pub MappingMeaningClaim : Type 0
MappingMeaningClaim = Meaning mapping_contents SpellsMapping (FirstDefect mapping_format)

-- three sheets in an input of at most 4,096 bytes
abbrev pub SpellsFrame : Sheets → List ℕ → Type 0
SpellsFrame x s = (length s ≤ 4096) × Spells frame_format (frame_values x) x s

-- over 4,096 bytes is 7 first
abbrev pub LacksFrame : List ℕ → ℕ → Type 0
LacksFrame s n = ((4096 < length s) × (n ≡ 7)) ⊎ ((length s ≤ 4096) × FirstDefect frame_format s n)

abbrev pub FrameMeaningClaim : Type 0
FrameMeaningClaim = Meaning frame SpellsFrame LacksFrame

pub record MeaningClaim : Type 0 where
  pub layouts : LayoutMeaningClaim
  pub mappings : MappingMeaningClaim
  pub frames : FrameMeaningClaim

-- ---- mapping sheets

-- a mapping sheet that does not read is refused with the number of its first defect, 2, 3 or 7
pub record MappingDefectClaim : Type 0 where
  pub refuses : (l m : Layout) (s : List ℕ) (n : ℕ) → is_sound l ≡ true → is_sound m ≡ true → mapping_contents s ≡ refused n → mapping_sheet l m s ≡ refused n
  pub numbers : (s : List ℕ) (n : ℕ) → mapping_contents s ≡ refused n → (n ≡ 2) ⊎ ((n ≡ 3) ⊎ (n ≡ 7))

-- every plan that a mapping sheet gives is sound, and it is between the two layouts
pub record MappingSheetClaim : Type 0 where
  pub sound : (l m : Layout) (s : List ℕ) (p : Plan) → mapping_sheet l m s ≡ got p → is_sound_plan p ≡ true
  pub between : (l m : Layout) (s : List ℕ) (p : Plan) → mapping_sheet l m s ≡ got p → (p.source ≡ l) × (p.target ≡ m)

-- ---- three sheets

-- the plan is that of three framed sheets: its layouts are those of the first two, and the third maps one to the other
pub record FromSheets (s : List ℕ) (p : Plan) : Type 0 where
  pub sheets : Sheets
  pub framed : frame s ≡ got sheets
  pub source : layout_sheet sheets.source ≡ got p.source
  pub target : layout_sheet sheets.target ≡ got p.target
  pub mapping : mapping_sheet p.source p.target sheets.mapping ≡ got p

pub record ThreeSheetsClaim : Type 0 where
  pub sound : (s : List ℕ) (p : Plan) → three_sheets s ≡ got p → is_sound_plan p ≡ true
  pub from-sheets : (s : List ℕ) (p : Plan) → three_sheets s ≡ got p → FromSheets s p
  -- never 1, and none of the numbers of buffers and points
  pub numbers : (s : List ℕ) (n : ℕ) → three_sheets s ≡ refused n → (2 ≤ n) × (n ≤ 14)

-- an input that is not framed is refused with 2 or 7
pub record FrameDefectClaim : Type 0 where
  pub refuses : (s : List ℕ) (n : ℕ) → frame s ≡ refused n → three_sheets s ≡ refused n
  pub numbers : (s : List ℕ) (n : ℕ) → frame s ≡ refused n → (n ≡ 2) ⊎ (n ≡ 7)
  -- one of over 4,096 bytes with 7, whatever follows them
  pub long : (s rest : List ℕ) → 4096 < length s → three_sheets (s ++ rest) ≡ refused 7

-- ---- the records that the code hands back stand for the plans that the definitions give

pub record RecordClaim : Type 0 where
  pub mapping :
      (l m : PointLayout) (s : List ℕ) (p : Plan) → mapping_sheet (layout_of l) (layout_of m) s ≡ got p → Stands (mapping_answer l m (got p)) p
  pub three : (p : Plan) → Stands (sheets_answer (got p)) p
