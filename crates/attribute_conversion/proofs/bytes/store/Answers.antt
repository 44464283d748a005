-- `attribute_conversion::bytes::store` meets its contract: the first of the number's eight bytes.
use Rattle.attribute_conversion.proofs.LittleEndian.{store-all}
use Rattle.attribute_conversion.proofs.bytes.store.Goals as goal

pub returns : goal.returns
returns c = store-all _ c.args.x _ _ c.requires c.to_le_bytes.ensures c.copy_from_slice.ensures.after
