-- `push_layout` meets its contract: the attributes of a layout have at most two digits.
use Rattle.common.specs.Logic.{arith}
use Rattle.listing.proofs.Digits.{at_most_two, next_number}
use Rattle.listing.proofs.Parts.{layout_put}
use Rattle.listing.proofs.lines.push_layout.Goals as goal

pub push_next_number-requires-3 : goal.push_next_number-requires-3
push_next_number-requires-3 c =
    omega (arith, next_number _ 2 _ _ c.push_next_number.ensures.bytes (at_most_two c.from.result (omega arith)))

pub push_byte-requires : goal.push_byte-requires
push_byte-requires c =
    omega (arith, next_number _ 2 _ _ c.push_next_number.ensures.bytes (at_most_two c.from.result (omega arith)))

pub returns : goal.returns
returns c =
    record {
      line =
          layout_put c.args.layout.now c.args.word.now _ _ _ _ _ _ _ (omega arith) c.push_word.ensures.bytes c.push_next_number.ensures.bytes c.push_next_number-2.ensures.bytes c.push_next_number-3.ensures.bytes c.push_byte.ensures.bytes;
      size = omega (arith, next_number _ 2 _ _ c.push_next_number.ensures.bytes (at_most_two c.from.result (omega arith)));
    }
