-- The values that stand in the fields of a mapping sheet, and of three sheets in one input, by what they say.
use Rattle.std.specs.Prelude.{◌∷◌, ◌++◌}
use Rattle.common.specs.Logic.{List, [], flat_map, ℕ, length}
use Rattle.layout_sheets.specs.Values.{bytes_values}
use Rattle.plans.specs.declared.plan.Mapping.{Mapping}
use Rattle.sheets.specs.Frame.{Sheets}
use Rattle.sheets.specs.Mapping.{MappingContents}

unfoldable pub line_values : Mapping → List ℕ
line_values x = x.source ∷ x.target ∷ []

-- the number of lines, the kind, the lines
unfoldable pub mapping_values : MappingContents → List ℕ
mapping_values c = length c.lines ∷ c.kind ∷ flat_map line_values c.lines

-- ---- three sheets in one input

unfoldable pub frame_values : Sheets → List ℕ
frame_values x = bytes_values x.source ++ (bytes_values x.target ++ bytes_values x.mapping)
