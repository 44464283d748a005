-- `refusal_place::entry_shown` meets its contract.
use Rattle.std.specs.Prelude.{◌≡◌}
use Rattle.common.specs.Logic.{◌∙◌, sym, arith}
use Rattle.refusal_place.proofs.Least.{passed-more, tells-found, tells-none, entry-before}
use Rattle.refusal_place.proofs.entry_shown.Goals as goal

pub returns-then-is_refusal : goal.returns-then-is_refusal
returns-then-is_refusal g c told h =
    entry-before c.loop-count.count c.checked_sub.result c.loop-count-test.true c.checked_sub.ensures
    ∙ tells-found (goal.F-post g c.args.first) _ c.loop-count.count c.first.result c.loop-count-test.true c.loop-count.invariant c.first.ensures (sym c.if-is_refusal.ensures) told h

pub loop-count-preserved : goal.loop-count-preserved
loop-count-preserved g c =
    passed-more (goal.F-post g c.args.first) _ c.loop-count.count c.loop-count.invariant c.first.result c.first.ensures (sym c.if-is_refusal.ensures)

pub returns : goal.returns
returns g c =
    let e : c.loop-count.count ≡ 33 = omega arith in
    tells-none (goal.F-post g c.args.first) _ (rw e at c.loop-count.invariant)
