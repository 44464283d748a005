-- The values that stand in the fields of a layout sheet, one after the other, by what it says; the format gives each field its width.
use Rattle.std.specs.Prelude.{◌∷◌, ◌++◌}
use Rattle.common.specs.Logic.{cond, List, [], map, flat_map, ℕ, eqb, ltb, length}
use Rattle.layout.specs.Calls.{Call}
use Rattle.layout.specs.Layout.{Attribute}
use Rattle.datatype.specs.declared.datatype.Datatype.{Datatype}
use Rattle.layout.specs.declared.point_layout.FieldAlignment.{FieldAlignment}
use Rattle.layout.specs.declared.point_layout.FieldAlignment.TheVariants.{Default, Packed}
use Rattle.layout_sheets.specs.Sheet.{Entry, Contents, placed, given}

-- the length, and the bytes: of a name, and of a sheet in an input
unfoldable pub bytes_values : List ℕ → List ℕ
bytes_values b = length b ∷ b

-- a ByteArray's length: in 8 bits up to 255, else 0 there and the length behind it
unfoldable pub length_values : ℕ → List ℕ
length_values n = cond (ltb n 256) (n ∷ []) (0 ∷ n ∷ [])

-- a Custom's size, alignment and name
unfoldable pub custom_values : Datatype → List ℕ
custom_values d = d.n ∷ d.alignment ∷ d.name_high ∷ d.name_low ∷ []

-- the code, and what a ByteArray or a Custom has behind it; of another code nothing else has a field
unfoldable pub datatype_values : Datatype → List ℕ
datatype_values d = d.code ∷ cond (eqb d.code 16) (length_values d.n) (cond (eqb d.code 17) (custom_values d) [])

unfoldable pub entry_values : Entry → List ℕ
entry_values e = bytes_values e.definition.name ++ (datatype_values e.definition.datatype ++ (e.number ∷ []))

-- 0 Default, else P
unfoldable pub packing_number : FieldAlignment → ℕ
packing_number Default = 0
packing_number (Packed p) = p

unfoldable pub call_entry : Call → Entry
call_entry c = record { definition = c.definition; number = packing_number c.alignment }

unfoldable pub given_entry : Attribute → Entry
given_entry a = record { definition = a.definition; number = a.offset }

-- the number of attributes, the kind, of a given sheet the alignment; the attributes
unfoldable pub contents_values : Contents → List ℕ
contents_values (placed cs) = length cs ∷ 0 ∷ flat_map entry_values (map call_entry cs)
contents_values (given xs alignment) = length xs ∷ 1 ∷ alignment ∷ flat_map entry_values (map given_entry xs)
