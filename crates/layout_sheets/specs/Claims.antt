-- What a reader has to believe of layout sheets, each claim whole, with its conditions; the proofs are in proofs/.
use Rattle.std.specs.Prelude.{◌≡◌, ◌∷◌, ◌↔◌, ◌≤◌, ◌<◌, ◌^◌}
use Rattle.common.specs.Logic.{true, List, [], ℕ}
use Rattle.common.specs.Refusal.{got, refused}
use Rattle.datatype.specs.Datatype.{custom}
use Rattle.datatype.specs.declared.datatype.Datatype.{Datatype}
use Rattle.format.specs.Format.{Format, end, refuse, sheet_by}
use Rattle.format.specs.Meaning.{Meaning}
use Rattle.format.specs.Spelling.{Leads, Spells, FirstDefect}
use Rattle.layout.specs.Claims.{Disjoint, OnlyShares}
use Rattle.layout.specs.Layout.{Attribute, Layout, is_sound}
use Rattle.layout_sheets.specs.Older.{format01, format04}
use Rattle.layout_sheets.specs.Sheet.{array_length, custom_format, Contents, given, layout_format, contents, layout_from, layout_sheet}
use Rattle.layout_sheets.specs.Values.{contents_values}

-- ---- what layout sheets mean

-- For bytes: a sheet is read to its contents exactly when it is the spelling of their fields, most significant bit first, zero filled; it is
-- refused with a number exactly when that is its first defect's; two sheets with the same contents are equal.

-- what a code does not have is not looked at: it has no field, and the contents have 0
abbrev pub SpellsLayout : Contents → List ℕ → Type 0
SpellsLayout c s = Spells layout_format (contents_values c) c s

abbrev pub LayoutMeaningClaim : Type 0
LayoutMeaningClaim = Meaning contents SpellsLayout (FirstDefect layout_format)

-- ---- the length of a ByteArray (document 02, point 4)

-- the values of the fields that give a length: up to 255 it is n, from 256 on n is 0 and the length follows
pub data GivesLength : List ℕ → ℕ → Type 0 where
  short : (n : ℕ) → 1 ≤ n → n ≤ 255 → GivesLength (n ∷ []) n
  long : (n : ℕ) → 256 ≤ n → n ≤ 65535 → GivesLength (0 ∷ n ∷ []) n

pub record LengthClaim : Type 0 where
  -- these values lead to a length and no others, so that each length from 1 to 65,535 has one spelling
  pub gives : (vs : List ℕ) (n : ℕ) → Leads array_length vs (end n) ↔ GivesLength vs n
  pub one : (vs ws : List ℕ) (n : ℕ) → Leads array_length vs (end n) → Leads array_length ws (end n) → vs ≡ ws
  -- a value is refused exactly where n is 0 and the 16 bits are below 256, and with 6
  pub refuses : (vs : List ℕ) (m : ℕ) → Leads array_length vs (refuse m) ↔ ((m ≡ 6) × (v : ℕ) × (v < 256) × (vs ≡ 0 ∷ v ∷ []))

-- ---- Customs (document 02, point 9)

-- the values of the fields that give a Custom: size, alignment and name
pub data GivesCustom : List ℕ → Datatype → Type 0 where
  fields : (s a h l : ℕ) → 1 ≤ s → s ≤ 65535 → a ≤ 255 → h < 2 ^ 64 → l < 2 ^ 64 → GivesCustom (s ∷ a ∷ h ∷ l ∷ []) (custom s a h l)

pub record CustomFieldsClaim : Type 0 where
  -- these values lead to a Custom and no others
  pub gives : (vs : List ℕ) (d : Datatype) → Leads custom_format vs (end d) ↔ GivesCustom vs d
  -- a size of 0 is refused at once, with 6, and nothing else is
  pub refuses : (vs : List ℕ) (m : ℕ) → Leads custom_format vs (refuse m) ↔ ((m ≡ 6) × (vs ≡ 0 ∷ []))

-- ---- old accepted sheets

-- they keep their meaning: a sheet that the older format accepts says the same, and so gives the same layout, or is refused with the same
-- number
pub record KeepsMeaning (older : Format Contents) : Type 0 where
  pub says : (s : List ℕ) (c : Contents) → sheet_by older s ≡ got c → contents s ≡ got c
  pub gives : (s : List ℕ) (c : Contents) → sheet_by older s ≡ got c → layout_sheet s ≡ layout_from c

-- document 01's, and those of document 02's point 4
pub record OlderSheetsClaim : Type 0 where
  pub document-01 : KeepsMeaning format01
  pub point-4 : KeepsMeaning format04

-- ---- accepted layout sheets

-- every layout that a sheet gives is sound; no two of its attributes share a byte, and none passes the end
pub record SheetClaim : Type 0 where
  pub sound : (s : List ℕ) (k : Layout) → layout_sheet s ≡ got k → is_sound k ≡ true
  pub disjoint : (s : List ℕ) (k : Layout) → layout_sheet s ≡ got k → Disjoint k

-- ---- refused layout sheets

-- a sheet that does not read is refused with the number of its first defect, 2 to 7
pub record DefectClaim : Type 0 where
  pub refuses : (s : List ℕ) (n : ℕ) → contents s ≡ refused n → layout_sheet s ≡ refused n
  pub numbers : (s : List ℕ) (n : ℕ) → contents s ≡ refused n → (2 ≤ n) × (n ≤ 7)

-- a given sheet that reads without defect, of whose list no earlier line holds, and two attributes of which share a byte
pub record Sharing (s : List ℕ) : Type 0 where
  pub attributes : List Attribute
  pub alignment : ℕ
  pub says : contents s ≡ got (given attributes alignment)
  pub shares : OnlyShares attributes

-- a sheet is refused for sharing exactly then
pub record SheetSharingClaim : Type 0 where
  pub refuses : (s : List ℕ) → Sharing s → layout_sheet s ≡ refused 9
  pub only : (s : List ℕ) → layout_sheet s ≡ refused 9 → Sharing s
