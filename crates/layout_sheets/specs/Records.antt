-- What the code hands back, whole: a list is an array with a count, and each slot past the count holds the empty value.
use Rattle.std.specs.Prelude.{◌≡◌, ◌++◌, ◌≤◌, ◌<◌, ◌-◌, Option, None, Some}
use Rattle.common.specs.Logic.{List, [], map, ℕ, length, get_or, take, replicate}
use Rattle.common.specs.Refusal.{Outcome, got, and_then}
use Rattle.layout.specs.Layout.{Definition, Attribute, Layout}
use Rattle.layout.specs.Records.{definition_of, empty_member}
use Rattle.datatype.specs.Datatype.{plain}
use Rattle.layout.specs.declared.point_layout.PointAttributeDefinition.{PointAttributeDefinition}
use Rattle.layout.specs.declared.point_layout.PointAttributeMember.{PointAttributeMember}
use Rattle.layout.specs.declared.point_layout.PointLayout.{PointLayout}
use Rattle.layout_sheets.specs.Sheet.{Entry, Contents, placed, given, call_of, given_of}
use Rattle.layout_sheets.specs.declared.layout_sheet.Contents.{Contents as ContentsRead}
use Rattle.layout_sheets.specs.declared.layout_sheet.Name.{Name}
use Rattle.layout_sheets.specs.declared.layout_sheet.SheetEntry.{SheetEntry}

-- ---- the answer of a layout sheet

-- an array of n slots: the list, and d in each slot past it
unfoldable pub slots : {A : Type 0} → A → ℕ → List A → List A
slots d n xs = xs ++ replicate (n - length xs) d

unfoldable pub definition_record : Definition → PointAttributeDefinition
definition_record d = record { name = slots 0 31 d.name; name_len = length d.name; datatype = d.datatype }

unfoldable pub member_record : Attribute → PointAttributeMember
member_record a = record { attribute_definition = definition_record a.definition; offset = a.offset }

unfoldable pub layout_record : Layout → PointLayout
layout_record l =
    record { attributes = slots empty_member 32 (map member_record l.attributes); count = length l.attributes; size = l.size; alignment = l.alignment }

-- document 01's number, or the layout
unfoldable pub sheet_answer : Outcome Layout → Outcome PointLayout
sheet_answer o = and_then o (λ l. got (layout_record l))

-- ---- what the private readers hand back; no public contract cites it

unfoldable pub name_record : List ℕ → Name
name_record b = record { bytes = slots 0 31 b; len = length b }

unfoldable pub entry_record : Entry → SheetEntry
entry_record e = record { definition = definition_record e.definition; number = e.number }

abbrev pub empty_entry : SheetEntry
empty_entry = record { definition = empty_member.attribute_definition; number = 0 }

unfoldable pub entries_array : List Entry → List SheetEntry
entries_array es = slots empty_entry 32 (map entry_record es)

-- ---- what the code's entries say

-- what an entry that is missing reads as
abbrev pub missing_entry : SheetEntry
missing_entry = record { definition = record { name = []; name_len = 0; datatype = plain 0 }; number = 0 }

unfoldable pub entry_of : SheetEntry → Entry
entry_of e = record { definition = definition_of e.definition; number = e.number }

-- the bytes past each name's length are zero
abbrev pub Filled : List SheetEntry → Type 0
Filled es = (i : ℕ) → i < length es → get_or es i missing_entry ≡ entry_record (entry_of (get_or es i missing_entry))

-- a packing has 8 bits
abbrev pub Packings : List SheetEntry → Type 0
Packings es = (i : ℕ) → i < length es → (get_or es i missing_entry).number < 256

-- ---- what the code's contents say

abbrev pub listed_entries : ContentsRead → List SheetEntry
listed_entries c = take c.count c.entries

unfoldable pub said_by : Option ℕ → List Entry → Contents
said_by None es = placed (map call_of es)
said_by (Some a) es = given (map given_of es) a

unfoldable pub contents_of : ContentsRead → Contents
contents_of c = said_by c.alignment (map entry_of (listed_entries c))

-- they are as a sheet gives them
pub record IsRead (c : ContentsRead) : Type 0 where
  pub few : c.count ≤ 32
  pub filled : Filled (listed_entries c)
  pub packings : c.alignment ≡ None → Packings (listed_entries c)
