-- `point_blocks::part_of` meets its contract: no block, the one part of interleaved points, or a column's.
use Rattle.std.specs.Prelude.{◌≡◌, ◌<◌}
use Rattle.common.specs.Logic.{◌∙◌, sym, ap, Bool, ℕ, min, arith}
use Rattle.point_buffer.specs.Places.{point_bytes}
use Rattle.point_buffer.specs.Records.{layout_in}
use Rattle.point_buffer.specs.declared.Storage.{Storage}
use Rattle.layout.specs.declared.point_layout.PointLayout.{PointLayout}
use Rattle.point_blocks.specs.Parts.{is_block}
use Rattle.point_blocks.proofs.Parts.{no_block, past_one, past-columns, one-fits, one_found, column_fits, column-found}
use Rattle.point_blocks.proofs.part_of.Goals as goal

-- what the test asks
asked : (l : PointLayout) (s : Storage) (points first count : ℕ) {size : ℕ} {r b : Bool} → size ≡ point_bytes (layout_in l) s → r ≡ is_block size points first count → r ≡ b → is_block (point_bytes (layout_in l) s) points first count ≡ b
asked l s points first count z e h = sym (e ∙ ap (λ (n : ℕ). is_block n points first count) z) ∙ h

pub returns-then-not-is_within : goal.returns-then-not-is_within
returns-then-not-is_within c = no_block _ c.args.storage c.args.block.points c.args.block.first c.args.block.count c.args.k (asked c.args.layout c.args.storage c.args.block.points c.args.block.first c.args.block.count c.sizes_of-sizes.ensures.point.0 c.is_within.ensures c.if-not-is_within.true)

pub stretch-requires : goal.stretch-requires
stretch-requires c = one-fits c.args.layout c.in-Interleaved.is c.args.block.points c.args.block.first c.args.block.count (asked c.args.layout c.args.storage c.args.block.points c.args.block.first c.args.block.count c.sizes_of-sizes.ensures.point.0 c.is_within.ensures c.if-not-is_within.false)

pub stretch-requires-in-Columns : goal.stretch-requires-in-Columns
stretch-requires-in-Columns c =
    let within : c.args.k < min c.args.layout.count 32 = omega (arith, c.if-k-least.true, c.least.ensures) in
    column_fits c.args.layout c.in-Columns.is within c.sizes_of-sizes.result.before c.sizes_of-sizes.ensures.before c.size_of-size.ensures c.args.block.points c.args.block.first c.args.block.count (asked c.args.layout c.args.storage c.args.block.points c.args.block.first c.args.block.count c.sizes_of-sizes.ensures.point.0 c.is_within.ensures c.if-not-is_within.false)

pub returns-in-Interleaved : goal.returns-in-Interleaved
returns-in-Interleaved c = one_found c.args.layout c.in-Interleaved.is c.args.block.points c.args.block.first c.args.block.count (asked c.args.layout c.args.storage c.args.block.points c.args.block.first c.args.block.count c.sizes_of-sizes.ensures.point.0 c.is_within.ensures c.if-not-is_within.false) c.if-k-eq0.true c.stretch.ensures

pub returns-in-Columns : goal.returns-in-Columns
returns-in-Columns c =
    let within : c.args.k < min c.args.layout.count 32 = omega (arith, c.if-k-least.true, c.least.ensures) in
    column-found c.args.layout c.in-Columns.is within c.sizes_of-sizes.result.before c.sizes_of-sizes.ensures.before c.size_of-size.ensures c.args.block.points c.args.block.first c.args.block.count (asked c.args.layout c.args.storage c.args.block.points c.args.block.first c.args.block.count c.sizes_of-sizes.ensures.point.0 c.is_within.ensures c.if-not-is_within.false) c.stretch-in-Columns.ensures

pub returns-in_default : goal.returns-in_default
returns-in_default c = past_one (layout_in c.args.layout) c.in-Interleaved.is c.args.block.points c.args.block.first c.args.block.count (asked c.args.layout c.args.storage c.args.block.points c.args.block.first c.args.block.count c.sizes_of-sizes.ensures.point.0 c.is_within.ensures c.if-not-is_within.false) c.if-k-eq0.false

pub returns-in_default-2 : goal.returns-in_default-2
returns-in_default-2 c = past-columns c.args.layout c.in-Columns.is c.args.block.points c.args.block.first c.args.block.count (asked c.args.layout c.args.storage c.args.block.points c.args.block.first c.args.block.count c.sizes_of-sizes.ensures.point.0 c.is_within.ensures c.if-not-is_within.false) (omega (arith, c.if-k-least.false, c.least.ensures))
