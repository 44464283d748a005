-- What the private steps of the makers give; no public contract cites it.
use Rattle.std.specs.Prelude.{◌≡◌, ◌∷◌, ◌<◌, ◌+◌, ◌^◌}
use Rattle.common.specs.Logic.{true, Bool, not, List, [], flat_map, ℕ, min, max, ltb}
use Rattle.common.specs.Lists.{pairwise, greatest, same_bytes}
use Rattle.common.specs.Refusal.{line, answer, answered, or_else}
use Rattle.common.specs.Refusal.{Answer}
use Rattle.datatype.specs.Arithmetic.{align_to, is_power_of_two}
use Rattle.datatype.specs.Datatype.{size_of, align_of}
use Rattle.datatype.specs.declared.datatype.Datatype.{Datatype}
use Rattle.layout.specs.Layout.{Definition, Attribute, attribute_lines, end_of, disjoint, other_name, Layout}
use Rattle.layout.specs.Makers.{last_end, field_alignment, layout_alignment}
use Rattle.layout.specs.declared.point_layout.Examined.{Examined}
use Rattle.layout.specs.declared.point_layout.FieldAlignment.{FieldAlignment}
use Rattle.layout.specs.declared.point_layout.Placement.{Placement}
use Rattle.layout.specs.declared.point_layout.Walked.{Walked}

-- the later of s and t lies before the earlier of e and f
unfoldable pub meet : ℕ → ℕ → ℕ → ℕ → Bool
meet s e t f = ltb (max s t) (min e f)

-- an attribute has another name than the definition
unfoldable pub other_named : Definition → Attribute → Bool
other_named d a = not (same_bytes a.definition.name d.name)

-- none of an attribute's bytes lies from start to before end
unfoldable pub clear_of : ℕ → ℕ → Attribute → Bool
clear_of start end a = not (meet a.offset (end_of a) start end)

pub record Walk (xs : List Attribute) (r : Walked) : Type 0 where
  pub definitions : answered r.definitions ≡ answer (flat_map attribute_lines xs)
  pub names : r.names ≡ pairwise other_name xs
  pub ordered : r.ordered ≡ true → pairwise disjoint xs ≡ true
  pub end : r.end ≡ greatest end_of xs
  pub small : r.end < 2 ^ 17

pub record Examination (xs : List Attribute) (r : Examined) : Type 0 where
  pub definitions : answered r.definitions ≡ answer (flat_map attribute_lines xs)
  pub names : r.names ≡ pairwise other_name xs
  pub disjoint : r.disjoint ≡ pairwise disjoint xs
  pub end : r.end ≡ greatest end_of xs
  pub small : r.end < 2 ^ 17

-- the fields of `extended`, one by one
pub record PlacedBy (l : Layout) (d : Datatype) (f : FieldAlignment) (r : Placement) : Type 0 where
  pub start : r.start ≡ align_to (last_end l.attributes) (field_alignment f (align_of d))
  pub end : r.end ≡ r.start + size_of d
  pub alignment : r.alignment ≡ layout_alignment f l.alignment (align_of d)
  pub size : r.size ≡ align_to (max l.size r.end) r.alignment

unfoldable pub new_answer : Answer → Bool → Bool → ℕ → ℕ → Answer
new_answer definitions names disjoint alignment size =
    or_else definitions
    (answer (line 8 (not names) ∷ line 9 (not disjoint) ∷ line 10 (not (is_power_of_two alignment)) ∷ line 11 (ltb 65535 size) ∷ []))
