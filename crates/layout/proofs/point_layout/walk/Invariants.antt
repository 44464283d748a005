-- `layout::point_layout::walk` meets its contract. The invariant: what it says of the first i attributes.
use Rattle.std.specs.Prelude.{◌≡◌, ◌<◌, ◌^◌}
use Rattle.common.specs.Logic.{true, flat_map}
use Rattle.common.specs.Lists.{pairwise, greatest}
use Rattle.common.specs.Refusal.{answer, answered}
use Rattle.layout.specs.Layout.{attribute_lines, end_of, disjoint, other_name}
use Rattle.layout.proofs.Listed.{upto}
use Rattle.layout.proofs.point_layout.walk.Given as goal

abbrev pub invariant-loop-i : goal.invariant-loop-i
invariant-loop-i l =
    (answered l.definitions ≡ answer (flat_map attribute_lines (upto l.attributes l.i))) × (l.names ≡ pairwise other_name (upto l.attributes l.i))
    × (l.ordered ≡ true → pairwise disjoint (upto l.attributes l.i) ≡ true) × (l.end ≡ greatest end_of (upto l.attributes l.i)) × (l.end < 2 ^ 17)
