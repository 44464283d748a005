-- `raw_point_converter::RawPointConverter::push` meets its contract.
use Rattle.common.specs.Logic.{◌∙◌, arith, length-set}
use Rattle.common.proofs.Lists.{first-set}
use Rattle.strided.specs.Steps.{no_cast}
use Rattle.raw_point_converter.proofs.RawPointConverter.push.Goals as goal

pub returns : goal.returns
returns c =
    record {
      pairs = first-set no_cast c.args.self.now.attribute_converters c.args.self.now.count _ (omega (arith, c.requires.0, c.requires.1));
      few = omega arith;
      room = length-set c.args.self.now.attribute_converters c.args.self.now.count _ ∙ c.requires.1;
    }
