-- Document 01, section Plan: two layouts and mappings between their attributes, and when a plan is sound.
use Rattle.std.specs.Prelude.{◌&&◌, ◌∷◌}
use Rattle.common.specs.Logic.{Bool, not, List, [], eqb, ltb, length}
use Rattle.common.specs.Lists.{all, pairwise, every}
use Rattle.layout.specs.Layout.{at, Layout, is_sound}
use Rattle.pairs.specs.Pairs.{pair_of, has_entry}
use Rattle.plans.specs.declared.plan.Mapping.{Mapping}

pub record Plan : Type 0 where
  pub source : Layout
  pub target : Layout
  pub mappings : List Mapping

-- both places are in their lists
unfoldable pub is_listed : Layout → Layout → Mapping → Bool
is_listed l m x = ltb x.source (length l.attributes) && ltb x.target (length m.attributes)

-- the pair of the two attributes is copy or cast
unfoldable pub has_pair : Layout → Layout → Mapping → Bool
has_pair l m x =
    has_entry (pair_of (at l.attributes x.source).definition.datatype (at m.attributes x.target).definition.datatype)

unfoldable pub other_target : Mapping → Mapping → Bool
other_target x y = not (eqb x.target y.target)

-- document 01's sound, in its order: both layouts sound; places listed; targets distinct; every pair copy or cast
unfoldable pub is_sound_plan : Plan → Bool
is_sound_plan p =
    every
    (is_sound p.source
    ∷ is_sound p.target
    ∷ all (is_listed p.source p.target) p.mappings
    ∷ pairwise other_target p.mappings
    ∷ all (has_pair p.source p.target) p.mappings
    ∷ [])
