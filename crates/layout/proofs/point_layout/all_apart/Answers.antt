-- `layout::point_layout::all_apart` meets its contract.
use Rattle.std.proofs.Common.{rules, tests}
use Rattle.std.proofs.lemmas.Iterator.{YieldsList-from_slice}
use Rattle.std.proofs.lemmas.Iterator.Search.{all_from_yields_List}
use Rattle.common.specs.Logic.{◌∙◌}
use Rattle.layout.specs.Records.{attribute_of}
use Rattle.layout.specs.Steps.{clear_of}
use Rattle.layout.specs.declared.point_layout.PointAttributeMember.{PointAttributeMember}
use Rattle.layout.proofs.Listed.{all-map}
use Rattle.layout.proofs.point_layout.all_apart.Goals as goal

pub returns : goal.returns
unfolding clear_of attribute_of
returns c =
    all_from_yields_List (λ (m : PointAttributeMember). clear_of c.args.start c.args.end (attribute_of m)) _ _ _ c.all.ensures.ran (YieldsList-from_slice c.args.others.now cc) (λ x b q k. search (rules, tests))
    ∙ all-map (clear_of c.args.start c.args.end) attribute_of c.args.others.now
