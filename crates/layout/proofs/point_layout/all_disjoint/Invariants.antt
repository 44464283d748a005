-- `layout::point_layout::all_disjoint` meets its contract. The invariant: what it says of the first i attributes.
use Rattle.std.specs.Prelude.{◌≡◌}
use Rattle.common.specs.Lists.{pairwise}
use Rattle.layout.specs.Layout.{disjoint}
use Rattle.layout.proofs.Listed.{upto}
use Rattle.layout.proofs.point_layout.all_disjoint.Given as goal

abbrev pub invariant-loop-i : goal.invariant-loop-i
invariant-loop-i l = l.apart ≡ pairwise disjoint (upto l.attributes l.i)
