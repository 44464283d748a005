-- `layout::point_layout::good_name` meets its contract.
use Rattle.std.proofs.Common.{rules, tests}
use Rattle.std.proofs.lemmas.Iterator.{YieldsList-from_slice}
use Rattle.std.proofs.lemmas.Iterator.Search.{all_from_yields_List}
use Rattle.common.specs.Logic.{◌∙◌, le-leb, lt-leb, length, arith}
use Rattle.common.proofs.Lists.{list_all-all}
use Rattle.layout.specs.Layout.{printable, good_name}
use Rattle.layout.proofs.point_layout.good_name.Goals as goal

pub returns-then-name-le31 : goal.returns-then-name-le31
unfolding good_name
returns-then-name-le31 c =
    let xs = c.args.name.now in
    rw (le-leb _ 31 c.if-name-le31.true)
    (all_from_yields_List printable _ _ _ c.all.ensures.ran (YieldsList-from_slice xs cc) (λ x b q k. search (rules, tests)) ∙ list_all-all printable xs)

pub returns-else-name-le31 : goal.returns-else-name-le31
unfolding good_name
returns-else-name-le31 c = rw (lt-leb (length c.args.name.now) 31 (omega (arith, c.if-name-le31.false)))
