-- What a reader has to believe of the lent list: layout's claims on given lists hold of it.
use Rattle.std.specs.Prelude.{◌≡◌}
use Rattle.common.specs.Logic.{true, List, map, ℕ}
use Rattle.common.specs.Refusal.{got, refused, left_by}
use Rattle.layout.specs.Claims.{Disjoint, OnlyShares, Stands}
use Rattle.layout.specs.Layout.{Layout, is_sound}
use Rattle.layout.specs.Makers.{from_members}
use Rattle.layout.specs.Records.{attribute_of, layout_of, empty_point_layout}
use Rattle.layout.specs.declared.point_layout.PointAttributeMember.{PointAttributeMember}
use Rattle.layout.specs.declared.point_layout.PointLayout.{PointLayout}
use Rattle.members.specs.Members.{members_answer}

pub record LentListClaim : Type 0 where
  -- where the definition gives a layout of the list, the record handed back stands for it
  pub stands :
      (ms : List PointAttributeMember) (alignment : ℕ) (k : Layout) → from_members (map attribute_of ms) alignment ≡ got k → Stands (members_answer ms alignment) k
  -- where a record is handed back, it stands for the layout that the definition gives
  pub gives :
      (ms : List PointAttributeMember) (alignment : ℕ) (p : PointLayout) → members_answer ms alignment ≡ got p → from_members (map attribute_of ms) alignment ≡ got (layout_of p)
  -- whichever list comes, the layout after it is sound, no two of its attributes share a byte, and none passes the point's end: the empty layout
  -- where the list is refused
  pub sound : (ms : List PointAttributeMember) (alignment : ℕ) → is_sound (layout_of (left_by empty_point_layout (members_answer ms alignment))) ≡ true
  pub disjoint : (ms : List PointAttributeMember) (alignment : ℕ) → Disjoint (layout_of (left_by empty_point_layout (members_answer ms alignment)))
  -- so the layout that is handed back
  pub sound-given : (ms : List PointAttributeMember) (alignment : ℕ) (p : PointLayout) → members_answer ms alignment ≡ got p → is_sound (layout_of p) ≡ true
  pub disjoint-given : (ms : List PointAttributeMember) (alignment : ℕ) (p : PointLayout) → members_answer ms alignment ≡ got p → Disjoint (layout_of p)
  -- the list is refused for sharing exactly when no earlier line holds and two of its members share a byte
  pub refuses : (ms : List PointAttributeMember) (alignment : ℕ) → OnlyShares (map attribute_of ms) → members_answer ms alignment ≡ refused 9
  pub only : (ms : List PointAttributeMember) (alignment : ℕ) → members_answer ms alignment ≡ refused 9 → OnlyShares (map attribute_of ms)
