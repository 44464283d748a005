-- The Rust Reference, "Type layout", the C representation of structs: its algorithm over the fields in declaration order.
-- It is written apart from `add_attribute`: nothing here cites `align_to`.
use Rattle.std.specs.Prelude.{◌∷◌, ◌+◌, ◌-◌, ◌%◌}
use Rattle.common.specs.Logic.{cond, List, [], ℕ, max, eqb}

-- what the algorithm asks of a field: its type's size and alignment
pub record Field : Type 0 where
  pub size : ℕ
  pub alignment : ℕ

-- `padding_needed_for`: nothing where offset % alignment, the misalignment, is 0; else the alignment less the misalignment
unfoldable pub padding_needed : ℕ → ℕ → ℕ
padding_needed offset alignment =
    let misalignment : ℕ = offset % alignment in
    cond (eqb misalignment 0) 0 (alignment - misalignment)

-- the first step of the loop's body, which gives the field's offset: the current offset and the padding that the field needs
unfoldable pub field_offset : ℕ → Field → ℕ
field_offset o f = o + padding_needed o f.alignment

-- the loop over the fields: each one's offset, where the current offset is o; the next current offset lies the field's size further
unfoldable pub offsets_from : ℕ → List Field → List ℕ
offsets_from o [] = []
offsets_from o (f ∷ fs) = field_offset o f ∷ offsets_from (field_offset o f + f.size) fs

-- the current offset after the loop
unfoldable pub end_from : ℕ → List Field → ℕ
end_from o [] = o
end_from o (f ∷ fs) = end_from (field_offset o f + f.size) fs

-- the struct's alignment: the greatest of its fields', 1 if it has none (a type's alignment is at least 1)
unfoldable pub alignment_of : List Field → ℕ
alignment_of [] = 1
alignment_of (f ∷ fs) = max f.alignment (alignment_of fs)

-- the struct's size: the current offset after the loop, which starts at 0, and the padding to the struct's alignment
unfoldable pub size_of_all : List Field → ℕ
size_of_all fs = end_from 0 fs + padding_needed (end_from 0 fs) (alignment_of fs)
