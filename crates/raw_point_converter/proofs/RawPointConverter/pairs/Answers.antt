-- `raw_point_converter::RawPointConverter::pairs` meets its contract.
use Rattle.common.specs.Logic.{sym, arith}
use Rattle.common.proofs.Lists.{first-take}
use Rattle.strided.specs.Steps.{no_cast}
use Rattle.raw_point_converter.proofs.RawPointConverter.pairs.Goals as goal

pub returns : goal.returns
returns c = sym (first-take no_cast c.args.self.now.attribute_converters c.args.self.now.count (omega (arith, c.requires.0, c.requires.1)))
