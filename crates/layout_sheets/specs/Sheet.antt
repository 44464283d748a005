-- Document 01, section Sheets, and document 02, points 4 and 9: the format of a layout sheet, and the layout that a sheet gives.
use Rattle.std.specs.Prelude.{◌∷◌}
use Rattle.common.specs.Logic.{cond, List, [], map, ℕ, min, eqb}
use Rattle.common.specs.Refusal.{Outcome, got, and_then}
use Rattle.format.specs.Format.{Format, end, ◌>>=◌, bits, bits_from, times, sheet_by, start_by}
use Rattle.layout.specs.Calls.{Call, called}
use Rattle.layout.specs.Layout.{Definition, Attribute, Layout}
use Rattle.layout.specs.Makers.{empty_layout, from_members}
use Rattle.datatype.specs.Datatype.{plain, byte_array, custom}
use Rattle.datatype.specs.declared.datatype.Datatype.{Datatype}
use Rattle.layout.specs.declared.point_layout.FieldAlignment.{FieldAlignment}
use Rattle.layout.specs.declared.point_layout.FieldAlignment.TheVariants.{Default, Packed}

-- ---- one attribute

-- 8 bits, hex 20 to 7E; else 4
unfoldable pub name_byte : Format ℕ
name_byte = bits_from 4 0x20 0x7e 8

-- 5 bits length, and as many bytes, singly
unfoldable pub name : Format (List ℕ)
name = do
  l ← bits 5
  times name_byte l

-- the length of a ByteArray (document 02, point 4): 8 bits n; n of 0 is followed by 16 bits that give a length from 256 to 65,535, else 6
unfoldable pub array_length : Format ℕ
array_length = do
  n ← bits 8
  cond (eqb n 0) (bits_from 6 256 65535 16) (end n)

-- a ByteArray after its code: its length, by its format
unfoldable pub array_format : Format ℕ → Format Datatype
array_format array = do
  n ← array
  end (byte_array n)

-- a Custom after its code (document 02, point 9): 16 bits size, not 0, else 6; 8 bits alignment; 128 bits name, as two numbers of 64
unfoldable pub custom_format : Format Datatype
custom_format = do
  s ← bits_from 6 1 65535 16
  a ← bits 8
  h ← bits 64
  l ← bits 64
  end (custom s a h l)

-- what follows a code; behind one below 16 nothing does
unfoldable pub after_code : Format ℕ → ℕ → Format Datatype
after_code array c = cond (eqb c 16) (array_format array) (cond (eqb c 17) custom_format (end (plain c)))

-- 5 bits code, at most the last, else 5; and what follows it
unfoldable pub datatype_over : ℕ → Format ℕ → Format Datatype
datatype_over last array = do
  c ← bits_from 5 0 last 5
  after_code array c

unfoldable pub datatype : Format Datatype
datatype = datatype_over 17 array_length

-- what both kinds of sheets have of an attribute: its definition, and a number, the packing or the offset
pub record Entry : Type 0 where
  pub definition : Definition
  pub number : ℕ

-- one attribute, its datatype by the format d; the number has w bits
unfoldable pub entry : Format Datatype → ℕ → Format Entry
entry d w = do
  b ← name
  t ← d
  x ← bits w
  end (record { definition = record { name = b; datatype = t }; number = x })

-- ---- the whole sheet

-- packing: 0 Default, else P
unfoldable pub packing : ℕ → FieldAlignment
packing p = cond (eqb p 0) Default (Packed p)

unfoldable pub call_of : Entry → Call
call_of e = record { definition = e.definition; alignment = packing e.number }

unfoldable pub given_of : Entry → Attribute
given_of e = record { definition = e.definition; offset = e.number }

-- what a layout sheet says: the calls of a placed one; the attributes and the alignment of a given one
pub data Contents : Type 0 where
  placed : List Call → Contents
  given : List Attribute → ℕ → Contents

-- 8 bits packing each
unfoldable pub placed_format : Format Datatype → ℕ → Format Contents
placed_format d k = do
  es ← times (entry d 8) k
  end (placed (map call_of es))

-- 16 bits alignment; 16 bits offset each
unfoldable pub given_format : Format Datatype → ℕ → Format Contents
given_format d k = do
  a ← bits 16
  es ← times (entry d 16) k
  end (given (map given_of es) a)

-- 6 bits number of attributes, at most 32, else 3; 1 bit kind, 0 placed, 1 given
unfoldable pub format_over : Format Datatype → Format Contents
format_over d = do
  k ← bits_from 3 0 32 6
  kind ← bits 1
  cond (eqb kind 0) (placed_format d k) (given_format d k)

unfoldable pub layout_format : Format Contents
layout_format = format_over datatype

-- front to back to the first defect met (2 to 7)
unfoldable pub contents : List ℕ → Outcome Contents
contents s = sheet_by layout_format s

-- ---- the layout

-- call by call; the first refusal stops
unfoldable pub in_turn : {X A : Type 0} → (X → A → Outcome X) → X → List A → Outcome X
in_turn f x [] = got x
in_turn f x (a ∷ rest) = and_then (f x a) (λ y. in_turn f y rest)

unfoldable pub add_all : Layout → List Call → Outcome Layout
add_all l cs = in_turn called l cs

-- 8 to 11, for each added attribute or for the whole given list
unfoldable pub layout_from : Contents → Outcome Layout
layout_from (placed cs) = add_all empty_layout cs
layout_from (given xs alignment) = from_members xs alignment

unfoldable pub layout_sheet : List ℕ → Outcome Layout
layout_sheet s = and_then (contents s) layout_from

-- ---- the first attributes of a sheet

-- the sheet as far as its first j attributes
unfoldable pub format_to : ℕ → Format Contents
format_to j = do
  k ← bits_from 3 0 32 6
  kind ← bits 1
  cond (eqb kind 0) (placed_format datatype (min k j)) (given_format datatype (min k j))

-- what the first j attributes give, whatever follows them
unfoldable pub first_layout : ℕ → List ℕ → Outcome Layout
first_layout j s = and_then (start_by (format_to j) s 0) layout_from
