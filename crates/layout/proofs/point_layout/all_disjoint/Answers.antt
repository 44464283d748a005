-- `layout::point_layout::all_disjoint` meets its contract. The invariant: what it says of the first i attributes.
use Rattle.common.specs.Logic.{◌∙◌, ap, refl, arith}
use Rattle.common.specs.Lists.{pairwise}
use Rattle.layout.specs.Layout.{disjoint}
use Rattle.layout.specs.Records.{attribute_of}
use Rattle.layout.proofs.Beside.{disjoint-beside}
use Rattle.layout.proofs.Listed.{upto-all}
use Rattle.layout.proofs.point_layout.all_disjoint.Goals as goal

pub loop-i-init : goal.loop-i-init
unfolding pairwise
loop-i-init c = refl

pub loop-i-preserved : goal.loop-i-preserved
unfolding attribute_of
loop-i-preserved c = disjoint-beside c.args.attributes.now c.loop-i.i c.loop-i-test.true c.end_of.ensures.0 c.loop-i.invariant c.all_apart-apart.ensures refl

pub returns : goal.returns
returns c = c.loop-i.invariant ∙ ap (pairwise disjoint) (upto-all c.args.attributes.now c.loop-i.i (omega (arith, c.loop-i-test.false, c.loop-i.auto.i-end)))
