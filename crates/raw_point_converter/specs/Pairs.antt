-- Document 01, section Plan: "`RawPointConverter` pairs same-named attributes of unequal datatype, in source order".
use Rattle.std.specs.Prelude.{◌&&◌, ◌∷◌, ◌+◌}
use Rattle.common.specs.Logic.{Bool, cond, List, [], flat_map, None, Some, Option, ℕ, leb}
use Rattle.common.specs.Lists.{place_from}
use Rattle.datatype.specs.Datatype.{size_of, same_datatype}
use Rattle.layout.specs.Layout.{Attribute, at, Layout}
use Rattle.layout.specs.Lookup.{named}
use Rattle.pairs.specs.Pairs.{pair_of, has_entry}
use Rattle.writes.specs.declared.Strided.{Strided}
use Rattle.strided.specs.declared.StridedCast.{StridedCast}

-- an attribute of a single point: no other point follows at the stride
unfoldable pub single : Attribute → Strided
single a = record { base = a.offset; stride = size_of a.definition.datatype }

-- a pair: an attribute of the source, and the one of the same name in the target
unfoldable pub pair_of_two : Attribute → Attribute → StridedCast
pair_of_two a b = record { from = a.definition.datatype; to = b.definition.datatype; source = single a; target = single b }

-- the pair of a source attribute with the target attribute at the place found; equal datatypes are skipped
unfoldable pub pair_with : List Attribute → Attribute → Option ℕ → List StridedCast
pair_with ys a None = []
pair_with ys a (Some j) = cond (same_datatype a.definition.datatype (at ys j).definition.datatype) [] (pair_of_two a (at ys j) ∷ [])

-- the pair of a source attribute, if there is one among the target's attributes
unfoldable pub pair_for : List Attribute → Attribute → List StridedCast
pair_for ys a = pair_with ys a (place_from 0 (named a.definition.name) ys)

-- the pairs of two layouts, in source order
unfoldable pub pairs : Layout → Layout → List StridedCast
pairs l m = flat_map (pair_for m.attributes) l.attributes

-- a copy or a cast exists
unfoldable pub has_cast : StridedCast → Bool
has_cast p = has_entry (pair_of p.from p.to)

-- a source point of a bytes and a target point of b do not end before the ends of the paired attributes
unfoldable pub ends_within : ℕ → ℕ → StridedCast → Bool
ends_within a b p = leb (p.source.base + size_of p.from) a && leb (p.target.base + size_of p.to) b
