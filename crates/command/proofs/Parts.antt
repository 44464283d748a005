-- A part of a block lies within the block's 262,144 bytes.
use Rattle.std.specs.Prelude.{◌≡◌, ◌&&◌, ◌≤◌, ◌<◌, ◌+◌, ◌*◌, Option, None, Some}
use Rattle.common.specs.Logic.{sym, refl, subst, true, false, Bool, cond, ℕ, mul-le-mul_left, arith, ltb-true, ltb, length}
use native.Mathlib.Nat.{mul-add}
use Rattle.common.proofs.Lists.{and_left, and_right}
use Rattle.layout.specs.Layout.{Layout}
use Rattle.point_buffer.specs.Places.{size_at, sizes_before, point_bytes, located}
use Rattle.point_buffer.specs.declared.Storage.{Storage}
use Rattle.point_buffer.specs.declared.Storage.TheVariants.{Interleaved, Columns}
use Rattle.point_buffer.proofs.Laid.{column-ends}
use Rattle.point_blocks.specs.Parts.{part_count, part_at, is_block, part_of}
use Rattle.point_blocks.specs.declared.Part.{Part}
use Rattle.point_blocks.proofs.Parts.{is_block_lem}

-- where a part ends in the block
abbrev part_end : Option Part → ℕ
part_end (Some q) = q.start + q.length
part_end None = 0

module _ (l : Layout) (points first count k : ℕ) where
  part_end_lem : (s : Storage) → k < part_count l s → part_end (Some (part_at l s points first count k)) ≤ count * point_bytes l s
  unfolding part_count part_at point_bytes located
  part_end_lem Interleaved h = omega arith
  part_end_lem Columns h =
      omega (
        arith,
        mul-add count (sizes_before l.attributes k) (size_at l k),
        mul-le-mul_left count (column-ends l k (length l.attributes) h),
      )

  module _ (s : Storage) where
    abbrev within? : Bool
    within? = is_block (point_bytes l s) points first count && ltb k (part_count l s)

    ends_by : (b : Bool) → within? ≡ b → part_end (cond b (Some (part_at l s points first count k)) None) ≤ 262144
    ends_by true h =
        let i = is_block (point_bytes l s) points first count in
        let b = is_block_lem (point_bytes l s) points first count (and_left i _ h) in
        omega (arith, b.short, part_end_lem s (ltb-true _ _ (and_right i _ h)))
    ends_by false h = omega arith

    pub part-within : {p : Option Part} {q : Part} → p ≡ part_of l s points first count k → p ≡ Some q → q.start + q.length ≤ 262144
    unfolding part_of
    part-within e f = subst (λ (p : Option Part). part_end p ≤ 262144) f (subst (λ (p : Option Part). part_end p ≤ 262144) (sym e) (ends_by within? refl))
