-- `point_buffer::column_sizes` meets its contract: after k turns the first k sums are stored, and the next one is at hand.
use Rattle.std.specs.Prelude.{◌≡◌}
use Rattle.common.specs.Logic.{◌∙◌, sym, ap, refl, min, arith, length-set}
use Rattle.common.specs.Lists.{first, tabulate}
use Rattle.point_buffer.specs.Records.{layout_in, before_in}
use Rattle.point_buffer.specs.declared.Storage.TheVariants.{Columns}
use Rattle.point_buffer.proofs.Sums.{no-sum, one_more, stored, rest-stored, none-stored, zero-at, column-bytes}
use Rattle.point_buffer.proofs.column_sizes.Goals as goal

pub loop-k-init : goal.loop-k-init
loop-k-init c = (omega arith, refl, no-sum c.args.layout, none-stored (before_in (layout_in c.args.layout) Columns) _, λ j h. zero-at 32 j)

pub loop-k-preserved : goal.loop-k-preserved
loop-k-preserved c = (
  omega (arith, c.loop-k.invariant.0),
  length-set c.loop-k.before c.loop-k.k c.loop-k.point ∙ c.loop-k.invariant.1,
  one_more c.args.layout c.loop-k.k (omega (arith, c.loop-k-test.true, c.least-n.ensures)) c.loop-k.invariant.2 c.size_of.ensures,
  stored (before_in (layout_in c.args.layout) Columns) c.loop-k.before c.loop-k.k c.loop-k.point (omega (arith, c.loop-k-test.true, c.least-n.ensures, c.loop-k.invariant.1)) c.loop-k.invariant.3 c.loop-k.invariant.2,
  rest-stored c.loop-k.before c.loop-k.k c.loop-k.point c.loop-k.invariant.4,
)

pub returns : goal.returns
returns c =
    let e : c.loop-k.k ≡ min c.args.layout.count 32 = omega (arith, c.loop-k.auto.k-end, c.loop-k-test.false, c.least-n.ensures) in record { point = (column-bytes c.args.layout e c.loop-k.invariant.2, omega (arith, e, c.loop-k.invariant.0)); before = ap (first 0 c.loop-k.before) (sym e) ∙ c.loop-k.invariant.3 ∙ ap (tabulate (before_in (layout_in c.args.layout) Columns)) e; rest = λ j h. c.loop-k.invariant.4 j (omega (arith, e, h)) }
