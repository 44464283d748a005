-- What a reader has to believe of layouts, each claim whole, with its conditions; the proofs are in proofs/.
use Rattle.std.specs.Prelude.{◌≡◌, ◌&&◌, ◌++◌, ◌≤◌, ◌<◌}
use Rattle.common.specs.Logic.{true, Bool, false, List, map, None, Some, Option, ℕ, eqb, length}
use Rattle.common.specs.Lists.{all, pairwise, place_from}
use Rattle.common.specs.Refusal.{Outcome, got, refused}
use Rattle.datatype.specs.Claims.{EqualCodes}
use Rattle.datatype.specs.Datatype.{size_of, align_of, read_align, same_datatype}
use Rattle.layout.specs.Calls.{Call, called, after, accepted, RecordCall, call_of, record_after}
use Rattle.layout.specs.Layout.{Definition, Attribute, at, good_attribute, end_of, HasByte, other_name, Layout, is_sound}
use Rattle.layout.specs.Lookup.{named, index_of, offset_of, same_attributes, compare_without_offsets}
use Rattle.layout.specs.Makers.{empty_layout, last_end, placed, extended, add_attribute, from_members}
use Rattle.layout.specs.Records.{definition_of, listed, layout_of, empty_point_layout, add_answer, given_answer}
use Rattle.layout.specs.Reference.{Field, offsets_from, size_of_all, alignment_of}
use Rattle.layout.specs.declared.point_layout.FieldAlignment.{FieldAlignment}
use Rattle.layout.specs.declared.point_layout.FieldAlignment.TheVariants.{Default}
use Rattle.layout.specs.declared.point_layout.PointAttributeDefinition.{PointAttributeDefinition}
use Rattle.layout.specs.declared.point_layout.PointAttributeMember.{PointAttributeMember}
use Rattle.layout.specs.declared.point_layout.PointLayout.{PointLayout}

-- ---- no byte shared, none past the end

-- no byte lies in two attributes, and no end is above the point size
pub record Disjoint (l : Layout) : Type 0 where
  pub unshared :
      (i j b : ℕ) → i < length l.attributes → j < length l.attributes → (i ≡ j → ⊥) → HasByte (at l.attributes i) b → HasByte (at l.attributes j) b → ⊥
  pub within : (i : ℕ) → i < length l.attributes → end_of (at l.attributes i) ≤ l.size

-- document 01's accepted: the empty layout of the start, and every layout that a call gives
pub data Accepted : Layout → Type 0 where
  start : Accepted empty_layout
  added : (l k : Layout) (c : Call) → called l c ≡ got k → Accepted k
  taken : (xs : List Attribute) (alignment : ℕ) (k : Layout) → from_members xs alignment ≡ got k → Accepted k

pub record AcceptedClaim : Type 0 where
  pub sound : (l : Layout) → Accepted l → is_sound l ≡ true
  pub disjoint : (l : Layout) → Accepted l → Disjoint l

-- ---- a list of `add_attribute` calls, refused ones included

-- the layout after the list lists what it began with, then the attributes of the accepted calls in order, none moved
pub record WholeList (l : Layout) (cs : List Call) : Type 0 where
  pub lists : (after l cs).attributes ≡ l.attributes ++ accepted l cs
  pub sound : is_sound (after l cs) ≡ true
  pub disjoint : Disjoint (after l cs)

abbrev pub WholeListClaim : Type 0
WholeListClaim = (l : Layout) (cs : List Call) → is_sound l ≡ true → WholeList l cs

-- ---- refused for sharing

-- one byte lies in two attributes, at any two places of the list
pub record Shares (xs : List Attribute) : Type 0 where
  pub one : ℕ
  pub other : ℕ
  pub one-listed : one < length xs
  pub other-listed : other < length xs
  pub two : one ≡ other → ⊥
  pub byte : ℕ
  pub in_one : HasByte (at xs one) byte
  pub in-other : HasByte (at xs other) byte

-- no earlier line holds (3; 4 to 6 of each attribute; 8), and two attributes share a byte
pub record OnlyShares (xs : List Attribute) : Type 0 where
  pub few : length xs ≤ 32
  pub good : all good_attribute xs ≡ true
  pub names : pairwise other_name xs ≡ true
  pub shares : Shares xs

-- a given list is refused for sharing exactly then
pub record SharingClaim : Type 0 where
  pub refuses : (xs : List Attribute) (alignment : ℕ) → OnlyShares xs → from_members xs alignment ≡ refused 9
  pub only : (xs : List Attribute) (alignment : ℕ) → from_members xs alignment ≡ refused 9 → OnlyShares xs

-- ---- the records that the code hands back stand for the layouts that the definitions give (an array has 32 slots)

-- it gives a record that stands for the layout
abbrev pub Stands : Outcome PointLayout → Layout → Type 0
Stands o k = (p : PointLayout) × (o ≡ got p) × (layout_of p ≡ k)

pub record RecordClaim : Type 0 where
  pub empty : layout_of empty_point_layout ≡ empty_layout
  pub added :
      (l : PointLayout) (d : PointAttributeDefinition) (f : FieldAlignment) (k : Layout) → length l.attributes ≡ 32 → add_attribute (layout_of l) (definition_of d) f ≡ got k
      → Stands (add_answer l d f) k
  pub taken :
      (ms : List PointAttributeMember) (count alignment : ℕ) (k : Layout) → from_members (listed ms count) alignment ≡ got k → Stands (given_answer ms count alignment) k
  -- a whole list of `add_attribute` calls, refused ones included: the record after it stands for the layout after the calls that they stand for
  pub list : (l : PointLayout) (cs : List RecordCall) → length l.attributes ≡ 32 → layout_of (record_after l cs) ≡ after (layout_of l) (map call_of cs)

-- ---- `compare_without_offsets`

-- the Rust's test of one attribute: the one found by its name has the same datatype
unfoldable pub same_at : List Attribute → Attribute → Option ℕ → Bool
same_at ys a None = false
same_at ys a (Some i) = same_datatype (at ys i).definition.datatype a.definition.datatype

unfoldable pub found_same : List Attribute → Attribute → Bool
found_same ys a = same_at ys a (place_from 0 (named a.definition.name) ys)

-- the Rust's: as many attributes, and each found by name has the same datatype
abbrev pub CompareClaim : Type 0
CompareClaim =
    (l m : Layout) → is_sound m ≡ true
    → same_attributes l.attributes m.attributes ≡ (eqb (length l.attributes) (length m.attributes) && all (found_same m.attributes) l.attributes)

-- ---- Default placement

-- the field that an attribute is to the Reference: its datatype's size and its alignment, of which 0 is read as 1
unfoldable pub field_of : Attribute → Field
field_of a = record { size = size_of a.definition.datatype; alignment = read_align a.definition.datatype }

-- where an attribute's bytes start
unfoldable pub start_of : Attribute → ℕ
start_of a = a.offset

-- the layout's attributes, as the Reference's fields
unfoldable pub fields_of : Layout → List Field
fields_of l = map field_of l.attributes

-- offsets, size and alignment are those of the Reference's `repr(C)` algorithm for the layout's attributes
pub record AsReference (l : Layout) : Type 0 where
  pub offsets : map start_of l.attributes ≡ offsets_from 0 (fields_of l)
  pub size : l.size ≡ size_of_all (fields_of l)
  pub alignment : l.alignment ≡ alignment_of (fields_of l)

unfoldable pub default_call : Definition → Call
default_call d = record { definition = d; alignment = Default }

-- after every list of Default calls from the empty layout, refused ones included. Document 02 asks it where every field's alignment, so read, is
-- a power of two; it holds of every alignment, so no condition stands here. (The layout's own is a power of two, or the call is refused.)
abbrev pub DefaultClaim : Type 0
DefaultClaim = (ds : List Definition) → AsReference (after empty_layout (map default_call ds))

-- ---- Customs (document 02, point 9)

-- alignment 0 pads nothing, and by Default leaves the layout's alignment
pub record UnpaddedClaim : Type 0 where
  pub offset : (xs : List Attribute) (d : Definition) (f : FieldAlignment) → align_of d.datatype ≡ 0 → (placed xs d f).offset ≡ last_end xs
  pub alignment : (l : Layout) (d : Definition) → align_of d.datatype ≡ 0 → (extended l d Default).alignment ≡ l.alignment

-- no sound layout holds a size of 0
abbrev pub SizedClaim : Type 0
SizedClaim = (l : Layout) → is_sound l ≡ true → (i : ℕ) → i < length l.attributes → 0 < size_of (at l.attributes i).definition.datatype

-- what is found by name and datatype has an equal datatype, and so has each attribute of a layout that compares as the same
pub record FoundEqualClaim : Type 0 where
  pub index : (l : Layout) (d : Definition) (i : ℕ) → index_of l d ≡ got (Some i) → EqualCodes (at l.attributes i).definition.datatype d.datatype
  pub offset : (l : Layout) (d : Definition) (o : ℕ) → offset_of l d ≡ got (Some o) → (i : ℕ) × (index_of l d ≡ got (Some i)) × ((at l.attributes i).offset ≡ o)
  pub compared :
      (l m : Layout) → compare_without_offsets l m ≡ got true → (j : ℕ) → j < length l.attributes
      → (i : ℕ) × ((at m.attributes i).definition.name ≡ (at l.attributes j).definition.name) × EqualCodes (at m.attributes i).definition.datatype (at l.attributes j).definition.datatype
