-- Document 01, section Layout: a list of `add_attribute` calls, each Default or Packed of any P, refused ones included; of layouts, and
-- of the records that the code holds.
use Rattle.std.specs.Prelude.{◌∷◌, ◌++◌}
use Rattle.common.specs.Logic.{List, []}
use Rattle.common.specs.Refusal.{Outcome, got, refused, left_by}
use Rattle.layout.specs.Layout.{Definition, Attribute, Layout}
use Rattle.layout.specs.Makers.{placed, add_attribute}
use Rattle.layout.specs.Records.{definition_of, add_answer}
use Rattle.layout.specs.declared.point_layout.FieldAlignment.{FieldAlignment}
use Rattle.layout.specs.declared.point_layout.PointAttributeDefinition.{PointAttributeDefinition}
use Rattle.layout.specs.declared.point_layout.PointLayout.{PointLayout}

pub record Call : Type 0 where
  pub definition : Definition
  pub alignment : FieldAlignment

-- what a call gives
abbrev pub called : Layout → Call → Outcome Layout
called l c = add_attribute l c.definition c.alignment

-- the first call gets l, every other what the last accepted call gave, or l if none was (what a call leaves: its layout, or the one that
-- it got); the layout after the list is the one that a further call would get
unfoldable pub after : Layout → List Call → Layout
after l [] = l
after l (c ∷ cs) = after (left_by l (called l c)) cs

-- the attribute of one call, as placed there, if the call was accepted
unfoldable pub accepted_by : Layout → Call → Outcome Layout → List Attribute
accepted_by l c (got l') = placed l.attributes c.definition c.alignment ∷ []
accepted_by l c (refused n) = []

-- the attributes of the accepted calls in order, each as placed at its call
unfoldable pub accepted : Layout → List Call → List Attribute
accepted l [] = []
accepted l (c ∷ cs) = accepted_by l c (called l c) ++ accepted (left_by l (called l c)) cs

-- ---- the same list, of records

pub record RecordCall : Type 0 where
  pub definition : PointAttributeDefinition
  pub alignment : FieldAlignment

-- the call that it stands for
unfoldable pub call_of : RecordCall → Call
call_of c = record { definition = definition_of c.definition; alignment = c.alignment }

-- what the next call gets, after one that got l: the record handed back, or l again where the answer is a refusal
unfoldable pub next_record : PointLayout → Outcome PointLayout → PointLayout
next_record l r = left_by l r

-- the record after the list, each call handing back what `add_attribute` does
unfoldable pub record_after : PointLayout → List RecordCall → PointLayout
record_after l [] = l
record_after l (c ∷ cs) = record_after (next_record l (add_answer l c.definition c.alignment)) cs
