-- Document 01, section Layout: lookups by name, or name and datatype, give the place or none; `compare_without_offsets`.
use Rattle.std.specs.Prelude.{◌&&◌, ◌∷◌}
use Rattle.common.specs.Logic.{true, Bool, false, not, List, [], None, Some, Option, ℕ, eqb, length}
use Rattle.common.specs.Lists.{all, place_from, same_bytes}
use Rattle.common.specs.Refusal.{line, Outcome, check}
use Rattle.datatype.specs.Datatype.{same_datatype}
use Rattle.layout.specs.Layout.{Definition, Attribute, at, good_name, definition_lines, Layout, is_sound}

-- the attribute has that name
unfoldable pub named : List ℕ → Attribute → Bool
named name a = same_bytes a.definition.name name

-- the attribute has that name and that datatype
unfoldable pub defined : Definition → Attribute → Bool
defined d a = named d.name a && same_datatype a.definition.datatype d.datatype

-- by name and datatype where typed, else by name
unfoldable pub matching : Bool → Definition → Attribute → Bool
matching false d = named d.name
matching true d = defined d

unfoldable pub get_attribute_by_name : Layout → List ℕ → Outcome (Option ℕ)
get_attribute_by_name l name = check (line 1 (not (is_sound l)) ∷ line 4 (not (good_name name)) ∷ []) (place_from 0 (named name) l.attributes)

unfoldable pub index_of : Layout → Definition → Outcome (Option ℕ)
index_of l d = check (line 1 (not (is_sound l)) ∷ definition_lines d) (place_from 0 (defined d) l.attributes)

-- the offset of the attribute at a place
unfoldable pub offset_at : List Attribute → Option ℕ → Option ℕ
offset_at xs None = None
offset_at xs (Some i) = Some (at xs i).offset

unfoldable pub offset_of : Layout → Definition → Outcome (Option ℕ)
offset_of l d =
    check (line 1 (not (is_sound l)) ∷ definition_lines d) (offset_at l.attributes (place_from 0 (defined d) l.attributes))

-- a place was found
unfoldable pub is_found : Option ℕ → Bool
is_found None = false
is_found (Some i) = true

-- an attribute of that name and datatype is in the list
unfoldable pub is_among : List Attribute → Attribute → Bool
is_among ys a = is_found (place_from 0 (defined a.definition) ys)

-- as many attributes, and each of the one is among the other's
unfoldable pub same_attributes : List Attribute → List Attribute → Bool
same_attributes xs ys = eqb (length xs) (length ys) && all (is_among ys) xs

unfoldable pub compare_without_offsets : Layout → Layout → Outcome Bool
compare_without_offsets l m =
    check (line 1 (not (is_sound l)) ∷ line 1 (not (is_sound m)) ∷ []) (same_attributes l.attributes m.attributes)
