-- Document 01, section Plan: what `for_layouts`, `for_layouts_with_default` and `set_custom_mapping` give.
use Rattle.std.specs.Prelude.{◌∷◌, ◌++◌}
use Rattle.common.specs.Logic.{Bool, false, not, List, [], flat_map, filter_map, None, Some, Option, ℕ, suc, zero, eqb, length, set}
use Rattle.common.specs.Lists.{place_from}
use Rattle.common.specs.Refusal.{Line, line, Outcome, check}
use Rattle.layout.specs.Layout.{Attribute, at, Layout, is_sound}
use Rattle.layout.specs.Lookup.{named, is_found}
use Rattle.pairs.specs.Pairs.{pair_of, has_entry}
use Rattle.plans.specs.Plan.{Plan, is_listed, has_pair, is_sound_plan}
use Rattle.plans.specs.declared.plan.Mapping.{Mapping}

-- ---- for_layouts and for_layouts_with_default

-- the place of the first source attribute that has the target attribute's name
unfoldable pub source_of : Layout → Attribute → Option ℕ
source_of l a = place_from 0 (named a.definition.name) l.attributes

-- the attribute at that place, where there is one, has neither copy nor cast to the target attribute
unfoldable pub lacks_pair : Layout → Attribute → Option ℕ → Bool
lacks_pair l a None = false
lacks_pair l a (Some i) = not (has_entry (pair_of (at l.attributes i).definition.datatype a.definition.datatype))

-- 14, of one target attribute
unfoldable pub pair_lines : Layout → Attribute → List Line
pair_lines l a = line 14 (lacks_pair l a (source_of l a)) ∷ []

-- 12: no source of that name; then 14
unfoldable pub target_lines : Layout → Attribute → List Line
target_lines l a = line 12 (not (is_found (source_of l a))) ∷ pair_lines l a

-- the mapping onto the target place j, where a source was found
unfoldable pub mapping_to : ℕ → Option ℕ → Option Mapping
mapping_to j None = None
mapping_to j (Some i) = Some (record { source = i; target = j })

unfoldable pub mapping_of : Layout → Layout → ℕ → Option Mapping
mapping_of l m j = mapping_to j (source_of l (at m.attributes j))

-- the first n places
unfoldable pub places : ℕ → List ℕ
places zero = []
places (suc n) = places n ++ (n ∷ [])

-- the mappings by name, target place after target place
unfoldable pub default_plan : Layout → Layout → Plan
default_plan l m = record { source = l; target = m; mappings = filter_map (mapping_of l m) (places (length m.attributes)) }

-- 1, of the source and then of the target
unfoldable pub layouts_lines : Layout → Layout → List Line
layouts_lines l m = line 1 (not (is_sound l)) ∷ line 1 (not (is_sound m)) ∷ []

unfoldable pub for_layouts : Layout → Layout → Outcome Plan
for_layouts l m = check (layouts_lines l m ++ flat_map (target_lines l) m.attributes) (default_plan l m)

unfoldable pub for_layouts_with_default : Layout → Layout → Outcome Plan
for_layouts_with_default l m = check (layouts_lines l m ++ flat_map (pair_lines l) m.attributes) (default_plan l m)

-- ---- set_custom_mapping

-- the mapping names that target place
unfoldable pub has_target : ℕ → Mapping → Bool
has_target j x = eqb x.target j

-- in the place k of the list, or at its end
unfoldable pub placed_at : List Mapping → Mapping → Option ℕ → List Mapping
placed_at ms x None = ms ++ (x ∷ [])
placed_at ms x (Some k) = set ms k x

-- the mapping of its target is replaced, or it joins the end
unfoldable pub with_mapping : List Mapping → Mapping → List Mapping
with_mapping ms x = placed_at ms x (place_from 0 (has_target x.target) ms)

-- 13: a place is not in its list; 14: the pair has neither copy nor cast
unfoldable pub mapping_lines : Layout → Layout → Mapping → List Line
mapping_lines l m x = line 13 (not (is_listed l m x)) ∷ line 14 (not (has_pair l m x)) ∷ []

unfoldable pub custom_plan : Plan → Mapping → Plan
custom_plan p x = record { source = p.source; target = p.target; mappings = with_mapping p.mappings x }

unfoldable pub custom_lines : Plan → Mapping → List Line
custom_lines p x = line 1 (not (is_sound_plan p)) ∷ mapping_lines p.source p.target x

unfoldable pub set_custom_mapping : Plan → ℕ → ℕ → Outcome Plan
set_custom_mapping p i j =
    let x : Mapping = record { source = i; target = j } in
    check (custom_lines p x) (custom_plan p x)
