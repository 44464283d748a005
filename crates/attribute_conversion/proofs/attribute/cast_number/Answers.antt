-- `attribute_conversion::attribute::cast_number` meets its contract: loaded, cast, stored.
use Rattle.attribute_conversion.proofs.Components.{number_is}
use Rattle.attribute_conversion.proofs.attribute.cast_number.Goals as goal

pub returns : goal.returns
returns c = number_is c.args.from c.args.to c.args.src.now _ _ _ _ _ c.requires.0 c.requires.1 c.load.ensures.fits c.load.ensures.value c.cast_pattern.ensures c.store.ensures
