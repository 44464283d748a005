-- `point_buffer::column_sizes` meets its contract: after k turns the first k sums are stored, and the next one is at hand.
use Rattle.std.specs.Prelude.{◌≡◌, ◌≤◌, ◌*◌}
use Rattle.common.specs.Logic.{ℕ, length, get_or}
use Rattle.common.specs.Lists.{first, tabulate}
use Rattle.point_buffer.specs.Records.{layout_in, before_in}
use Rattle.point_buffer.specs.declared.Storage.TheVariants.{Columns}
use Rattle.point_buffer.proofs.column_sizes.Given as goal

abbrev pub invariant-loop-k : goal.invariant-loop-k
invariant-loop-k l =
    (l.point ≤ l.k * 65535) × (length l.before ≡ 32) × (l.point ≡ before_in (layout_in l.layout) Columns l.k) × (first 0 l.before l.k ≡ tabulate (before_in (layout_in l.layout) Columns) l.k) × ((j : ℕ) → l.k ≤ j → get_or l.before j 0 ≡ 0)
