-- `layout::lookup::all_among` meets its contract.
use Rattle.std.specs.Prelude.{◌≡◌, is_some}
use Rattle.std.proofs.Common.{rules, tests}
use Rattle.std.proofs.lemmas.Iterator.{YieldsList-from_slice}
use Rattle.std.proofs.lemmas.Iterator.Search.{all_from_yields_List}
use Rattle.common.specs.Logic.{◌∙◌, refl, map, None, Some, Option, ℕ}
use Rattle.layout.specs.Lookup.{is_found, is_among}
use Rattle.layout.specs.Records.{attribute_of}
use Rattle.layout.specs.declared.point_layout.PointAttributeMember.{PointAttributeMember}
use Rattle.layout.proofs.Listed.{all-map}
use Rattle.layout.proofs.lookup.all_among.Goals as goal

told : (o : Option ℕ) → is_some o ≡ is_found o
unfolding is_found
told None = refl
told (Some i) = refl

pub returns : goal.returns
unfolding is_among attribute_of
returns c =
    all_from_yields_List (λ (m : PointAttributeMember). is_among (map attribute_of c.args.b.now) (attribute_of m)) _ _ _ c.all.ensures.ran (YieldsList-from_slice c.args.a.now cc) (λ x b q k. search (rules, tests, told))
    ∙ all-map (is_among (map attribute_of c.args.b.now)) attribute_of c.args.a.now
