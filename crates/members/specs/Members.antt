-- What `from_members_and_alignment` gives of a lent list of members.
use Rattle.std.specs.Prelude.{◌++◌}
use Rattle.common.specs.Logic.{List, map, ℕ, length, drop}
use Rattle.common.specs.Refusal.{Outcome}
use Rattle.layout.specs.Makers.{from_members}
use Rattle.layout.specs.Records.{attribute_of, empty_point_layout, layout_answer}
use Rattle.layout.specs.declared.point_layout.PointLayout.{PointLayout}
use Rattle.layout.specs.declared.point_layout.PointAttributeMember.{PointAttributeMember}

-- the 32 slots of an array that holds no member
unfoldable pub empty_slots : List PointAttributeMember
empty_slots = empty_point_layout.attributes

-- the members in an array, and empty slots after them
unfoldable pub in_array : List PointAttributeMember → List PointAttributeMember
in_array ms = ms ++ drop (length ms) empty_slots

-- document 01's number, or the layout of the list, the same as of an array with a count
unfoldable pub members_answer : List PointAttributeMember → ℕ → Outcome PointLayout
members_answer ms alignment = layout_answer (in_array ms) (from_members (map attribute_of ms) alignment)
