-- `layout::lookup::place_of` meets its contract.
use Rattle.std.proofs.Common.{rules, tests}
use Rattle.std.proofs.lemmas.Iterator.{YieldsList-from_slice}
use Rattle.std.proofs.lemmas.Iterator.Search.{position_from_yields_List}
use Rattle.common.specs.Logic.{◌∙◌}
use Rattle.layout.specs.Lookup.{defined}
use Rattle.layout.specs.Records.{definition_of, attribute_of}
use Rattle.layout.specs.declared.point_layout.PointAttributeMember.{PointAttributeMember}
use Rattle.layout.proofs.Listed.{place-map}
use Rattle.layout.proofs.lookup.place_of.Goals as goal

pub returns : goal.returns
returns c =
    position_from_yields_List (λ (m : PointAttributeMember). defined (definition_of c.args.definition) (attribute_of m)) _ _ _ c.position.ensures.ran (YieldsList-from_slice c.args.attributes.now cc) (λ x b q k. search (rules, tests))
    ∙ place-map (defined (definition_of c.args.definition)) attribute_of c.args.attributes.now
