-- `raw_point_converter::all_within` meets its contract.
use Rattle.std.proofs.Common.{rules, tests}
use Rattle.std.proofs.lemmas.Iterator.{YieldsList-from_slice}
use Rattle.std.proofs.lemmas.Iterator.Search.{all_from_yields_List}
use Rattle.common.specs.Logic.{◌∙◌}
use Rattle.common.proofs.Lists.{list_all-all}
use Rattle.raw_point_converter.specs.Pairs.{ends_within}
use Rattle.raw_point_converter.proofs.all_within.Goals as goal

pub returns : goal.returns
returns c =
    let xs = c.args.pairs.now in
    all_from_yields_List (ends_within c.args.a c.args.b) _ _ _ c.all.ensures.ran (YieldsList-from_slice xs cc) (λ x b q k. search (rules, tests)) ∙ list_all-all (ends_within c.args.a c.args.b) xs
