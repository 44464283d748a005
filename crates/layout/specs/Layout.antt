-- Document 01, section Layout: attributes, layouts, and when a layout is sound.
use Rattle.std.specs.Prelude.{◌&&◌, ◌∷◌, ◌≤◌, ◌<◌, ◌+◌, ◌%◌}
use Rattle.common.specs.Logic.{Bool, not, List, [], ℕ, min, max, eqb, leb, ltb, length, get_or}
use Rattle.common.specs.Lists.{all, pairwise, at_most, every, same_bytes}
use Rattle.common.specs.Refusal.{Line, line, passes}
use Rattle.datatype.specs.Arithmetic.{is_power_of_two}
use Rattle.datatype.specs.Datatype.{plain, size_of, datatype_lines}
use Rattle.datatype.specs.declared.datatype.Datatype.{Datatype}

-- ---- attributes

pub record Definition : Type 0 where
  pub name : List ℕ
  pub datatype : Datatype

pub record Attribute : Type 0 where
  pub definition : Definition
  pub offset : ℕ

unfoldable pub printable : ℕ → Bool
printable b = leb 0x20 b && leb b 0x7e

-- 0 to 31 bytes, hex 20 to 7E
unfoldable pub good_name : List ℕ → Bool
good_name name = leb (length name) 31 && all printable name

-- 4: a name has over 31 bytes or a byte outside hex 20 to 7E; then 5 and 6
unfoldable pub definition_lines : Definition → List Line
definition_lines d = line 4 (not (good_name d.name)) ∷ datatype_lines d.datatype

unfoldable pub attribute_lines : Attribute → List Line
attribute_lines a = definition_lines a.definition

-- a good name, a listed code, no ByteArray or Custom of size 0: none of the lines 4 to 6 holds
unfoldable pub good_attribute : Attribute → Bool
good_attribute a = passes (attribute_lines a)

-- document 01's end: the offset plus the size
unfoldable pub end_of : Attribute → ℕ
end_of a = a.offset + size_of a.definition.datatype

-- the bytes of an attribute run from the offset to before the end
abbrev pub HasByte : Attribute → ℕ → Type 0
HasByte a b = (a.offset ≤ b) × (b < end_of a)

-- document 01's sharing: one byte lies in both, so the later offset lies before the earlier end
unfoldable pub shares_byte : Attribute → Attribute → Bool
shares_byte a b = ltb (max a.offset b.offset) (min (end_of a) (end_of b))

unfoldable pub disjoint : Attribute → Attribute → Bool
disjoint a b = not (shares_byte a b)

unfoldable pub other_name : Attribute → Attribute → Bool
other_name a b = not (same_bytes a.definition.name b.definition.name)

-- ---- lists of attributes, and layouts

-- what stands past the end of a list
abbrev pub absent : Attribute
absent = record { definition = record { name = []; datatype = plain 0 }; offset = 0 }

-- the attribute at a place, counted from 0
abbrev pub at : List Attribute → ℕ → Attribute
at xs i = get_or xs i absent

pub record Layout : Type 0 where
  pub attributes : List Attribute
  pub size : ℕ
  pub alignment : ℕ

-- document 01's sound, in its order: no more than 32 attributes; names, codes, and sizes of ByteArrays and Customs; distinct names; no byte
-- shared; all ends within the size; the size at most 65,535 and a multiple of the alignment; that a power of two
unfoldable pub is_sound : Layout → Bool
is_sound l =
    every
    (leb (length l.attributes) 32
    ∷ all good_attribute l.attributes
    ∷ pairwise other_name l.attributes
    ∷ pairwise disjoint l.attributes
    ∷ all (at_most end_of l.size) l.attributes
    ∷ leb l.size 65535
    ∷ eqb (l.size % l.alignment) 0
    ∷ is_power_of_two l.alignment
    ∷ [])
