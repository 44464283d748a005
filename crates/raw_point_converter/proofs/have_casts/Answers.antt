-- `raw_point_converter::have_casts` meets its contract.
use Rattle.std.proofs.Common.{rules, tests}
use Rattle.std.proofs.lemmas.Iterator.{YieldsList-from_slice}
use Rattle.std.proofs.lemmas.Iterator.Search.{all_from_yields_List}
use Rattle.common.specs.Logic.{◌∙◌}
use Rattle.common.proofs.Lists.{list_all-all}
use Rattle.raw_point_converter.specs.Pairs.{has_cast}
use Rattle.raw_point_converter.proofs.have_casts.Goals as goal

pub returns : goal.returns
unfolding has_cast
returns c =
    let xs = c.args.pairs.now in
    all_from_yields_List has_cast _ _ _ c.all.ensures.ran (YieldsList-from_slice xs cc) (λ x b q k. search (rules, tests)) ∙ list_all-all has_cast xs
