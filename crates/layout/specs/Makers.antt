-- Document 01, section Layout: what `add_attribute` and `from_members_and_alignment` give.
use Rattle.std.specs.Prelude.{◌&&◌, ◌∷◌, ◌++◌}
use Rattle.common.specs.Logic.{not, List, [], flat_map, ℕ, min, max, leb, ltb, length}
use Rattle.common.specs.Lists.{all, pairwise, at_most, greatest}
use Rattle.common.specs.Refusal.{Line, line, Outcome, check}
use Rattle.datatype.specs.Arithmetic.{align_to, is_power_of_two}
use Rattle.datatype.specs.Datatype.{align_of}
use Rattle.layout.specs.Layout.{Definition, Attribute, definition_lines, attribute_lines, end_of, disjoint, other_name, Layout, is_sound}
use Rattle.layout.specs.declared.point_layout.FieldAlignment.{FieldAlignment}
use Rattle.layout.specs.declared.point_layout.FieldAlignment.TheVariants.{Default, Packed}

-- 8 to 11, of the layout that a call would give
unfoldable pub layout_lines : Layout → List Line
layout_lines l =
    line 8 (not (pairwise other_name l.attributes))
    ∷ line 9 (not (pairwise disjoint l.attributes))
    ∷ line 10 (not (is_power_of_two l.alignment))
    ∷ line 11 (not (all (at_most end_of 65535) l.attributes && leb l.size 65535))
    ∷ []

-- ---- add_attribute

-- document 01's start
unfoldable pub empty_layout : Layout
empty_layout = record { attributes = []; size = 0; alignment = 1 }

-- the end of the last attribute, e if there is none
unfoldable pub end_after : ℕ → List Attribute → ℕ
end_after e [] = e
end_after e (a ∷ xs) = end_after (end_of a) xs

-- the end of the last-listed attribute, 0 if none
unfoldable pub last_end : List Attribute → ℕ
last_end xs = end_after 0 xs

-- what the offset is aligned to, by the datatype's alignment
unfoldable pub field_alignment : FieldAlignment → ℕ → ℕ
field_alignment Default natural = natural
field_alignment (Packed p) natural = min natural p

-- the layout's new alignment, by the old one and the datatype's
unfoldable pub layout_alignment : FieldAlignment → ℕ → ℕ → ℕ
layout_alignment Default old natural = max old natural
layout_alignment (Packed p) old natural = min old p

-- the attribute, placed after those that are listed
unfoldable pub placed : List Attribute → Definition → FieldAlignment → Attribute
placed xs d f = record { definition = d; offset = align_to (last_end xs) (field_alignment f (align_of d.datatype)) }

-- the layout with one attribute more; its size is the larger of the old size and the new end, aligned
unfoldable pub extended : Layout → Definition → FieldAlignment → Layout
extended l d f =
    let a : Attribute = placed l.attributes d f in
    let alignment : ℕ = layout_alignment f l.alignment (align_of d.datatype) in
    record { attributes = l.attributes ++ (a ∷ []); size = align_to (max l.size (end_of a)) alignment; alignment = alignment }

unfoldable pub add_lines : Layout → Definition → FieldAlignment → List Line
add_lines l d f =
    line 1 (not (is_sound l))
    ∷ line 3 (ltb 32 (length (extended l d f).attributes))
    ∷ (definition_lines d ++ layout_lines (extended l d f))

unfoldable pub add_attribute : Layout → Definition → FieldAlignment → Outcome Layout
add_attribute l d f = check (add_lines l d f) (extended l d f)

-- ---- from_members_and_alignment

-- offsets as given; the size is the greatest end, aligned (0 if there is no attribute)
unfoldable pub given : List Attribute → ℕ → Layout
given xs alignment = record { attributes = xs; size = align_to (greatest end_of xs) alignment; alignment = alignment }

unfoldable pub given_lines : List Attribute → ℕ → List Line
given_lines xs alignment = line 3 (ltb 32 (length xs)) ∷ (flat_map attribute_lines xs ++ layout_lines (given xs alignment))

unfoldable pub from_members : List Attribute → ℕ → Outcome Layout
from_members xs alignment = check (given_lines xs alignment) (given xs alignment)
