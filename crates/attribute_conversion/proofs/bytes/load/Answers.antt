-- `attribute_conversion::bytes::load` meets its contract: eight bytes, of which those behind the number's are 0.
use Rattle.common.specs.Logic.{arith}
use Rattle.attribute_conversion.proofs.LittleEndian.{load-all}
use Rattle.attribute_conversion.proofs.bytes.load.Goals as goal

pub returns : goal.returns
returns c = load-all c.args.s.now _ _ c.requires (λ k. omega (arith, c.type_inv.s k)) c.copy_from_slice.ensures.after c.from_le_bytes.ensures
