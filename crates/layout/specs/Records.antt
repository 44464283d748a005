-- What the records of the code stand for: arrays with a count are lists, and what lies past the count is not looked at.
use Rattle.common.specs.Logic.{List, [], map, ℕ, length, set, replicate}
use Rattle.common.specs.Lists.{first}
use Rattle.common.specs.Refusal.{Outcome, got, refused}
use Rattle.datatype.specs.Datatype.{plain}
use Rattle.layout.specs.Layout.{Definition, Attribute, Layout}
use Rattle.layout.specs.Makers.{placed, add_attribute, from_members}
use Rattle.layout.specs.declared.point_layout.FieldAlignment.{FieldAlignment}
use Rattle.layout.specs.declared.point_layout.PointAttributeDefinition.{PointAttributeDefinition}
use Rattle.layout.specs.declared.point_layout.PointAttributeMember.{PointAttributeMember}
use Rattle.layout.specs.declared.point_layout.PointLayout.{PointLayout}

-- a name is the first bytes of its array; a length past the array gives a name that is too long
unfoldable pub definition_of : PointAttributeDefinition → Definition
definition_of d = record { name = first 0 d.name d.name_len; datatype = d.datatype }

unfoldable pub attribute_of : PointAttributeMember → Attribute
attribute_of m = record { definition = definition_of m.attribute_definition; offset = m.offset }

-- what a member that is missing reads as
abbrev pub missing : PointAttributeMember
missing = record { attribute_definition = record { name = []; name_len = 0; datatype = plain 0 }; offset = 0 }

-- the first members of an array; a count past the array gives a list that is too long
unfoldable pub listed : List PointAttributeMember → ℕ → List Attribute
listed ms count = map attribute_of (first missing ms count)

unfoldable pub layout_of : PointLayout → Layout
layout_of l = record { attributes = listed l.attributes l.count; size = l.size; alignment = l.alignment }

-- ---- what the makers hand back

-- a slot that holds no member
abbrev pub empty_member : PointAttributeMember
empty_member = record { attribute_definition = record { name = replicate 31 0; name_len = 0; datatype = plain 0 }; offset = 0 }

-- the layout of the start
unfoldable pub empty_point_layout : PointLayout
empty_point_layout = record { attributes = replicate 32 empty_member; count = 0; size = 0; alignment = 1 }

-- document 01's number, or the layout with its members in an array
unfoldable pub layout_answer : List PointAttributeMember → Outcome Layout → Outcome PointLayout
layout_answer ms (got l) = got (record { attributes = ms; count = length l.attributes; size = l.size; alignment = l.alignment })
layout_answer ms (refused n) = refused n

-- the array with the placed attribute in its next slot
unfoldable pub stored : PointLayout → PointAttributeDefinition → FieldAlignment → List PointAttributeMember
stored l d f =
    set l.attributes l.count
    (record { attribute_definition = d; offset = (placed (listed l.attributes l.count) (definition_of d) f).offset })

unfoldable pub add_answer : PointLayout → PointAttributeDefinition → FieldAlignment → Outcome PointLayout
add_answer l d f = layout_answer (stored l d f) (add_attribute (layout_of l) (definition_of d) f)

unfoldable pub given_answer : List PointAttributeMember → ℕ → ℕ → Outcome PointLayout
given_answer ms count alignment = layout_answer ms (from_members (listed ms count) alignment)
