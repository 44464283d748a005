-- `attribute_conversion::attribute::lost_number` meets its contract: loaded, and tested.
use Rattle.attribute_conversion.proofs.Lost.{number-kept, number-other}
use Rattle.attribute_conversion.proofs.attribute.lost_number.Goals as goal

pub returns-then-keeps_number : goal.returns-then-keeps_number
returns-then-keeps_number c = number-kept c.args.from c.args.to c.args.src.now _ _ c.requires c.load.ensures.fits c.load.ensures.value c.keeps_number.ensures c.if-keeps_number.true

pub returns-else-keeps_number : goal.returns-else-keeps_number
returns-else-keeps_number c = number-other c.args.from c.args.to c.args.src.now _ _ c.requires c.load.ensures.fits c.load.ensures.value c.keeps_number.ensures c.if-keeps_number.false
