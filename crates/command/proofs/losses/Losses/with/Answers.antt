-- After i turns the first i sums stand.
use Rattle.common.specs.Logic.{refl, ◌∙◌, arith, length-set}
use Rattle.point_buffer.proofs.Sums.{stored, none-stored}
use Rattle.command.specs.Losses.{added_at}
use Rattle.command.proofs.Held.{added-here, all-added}
use Rattle.command.proofs.losses.Losses.with.Goals as goal

pub loop-i-init : goal.loop-i-init
loop-i-init c = (refl, none-stored (added_at c.args.self.now.counts c.args.more) _)

pub loop-i-preserved : goal.loop-i-preserved
loop-i-preserved c =
    let l = c.loop-i in
    let a = c.args.self.now.counts in
    let b = c.args.more in
    let s = c.saturating_add in (
      length-set l.counts l.i s.result ∙ l.invariant.0,
      stored (added_at a b) l.counts l.i s.result (omega (arith, l.invariant.0)) l.invariant.1 (added-here a b l.i s.ensures),
    )

pub returns : goal.returns
returns c =
    let l = c.loop-i in all-added c.args.self.now.counts c.args.more l.counts l.i l.invariant.0 l.invariant.1 (omega arith)
