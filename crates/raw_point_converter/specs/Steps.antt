-- What the private steps of the conversion give; no public contract cites it.
use Rattle.std.specs.Prelude.{◌≡◌, ◌≤◌}
use Rattle.common.specs.Logic.{List, ℕ, length}
use Rattle.common.specs.Lists.{first}
use Rattle.strided.specs.Steps.{no_cast}
use Rattle.strided.specs.declared.StridedCast.{StridedCast}
use Rattle.raw_point_converter.specs.declared.RawPointConverter.{RawPointConverter}

-- the pairs that a converter holds
abbrev pub held : RawPointConverter → List StridedCast
held r = first no_cast r.attribute_converters r.count

-- a converter of these pairs, from k source attributes
pub record Holds (ps : List StridedCast) (k : ℕ) (r : RawPointConverter) : Type 0 where
  pub pairs : held r ≡ ps
  pub few : r.count ≤ k
  pub room : length r.attribute_converters ≡ 32
