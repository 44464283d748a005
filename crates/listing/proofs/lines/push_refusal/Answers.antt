-- `push_refusal` meets its contract: the number of a refusal has at most three digits.
use Rattle.common.specs.Logic.{arith}
use Rattle.common.specs.Ascii.{ascii}
use Rattle.listing.proofs.Digits.{at-most-three, next_number}
use Rattle.listing.proofs.Parts.{refusal_put}
use Rattle.listing.proofs.lines.push_refusal.Goals as goal

pub returns : goal.returns
unfolding ascii
returns c =
    record {
      line = refusal_put c.args.number _ _ _ _ _ (omega arith) c.push_word.ensures.bytes c.push_next_number.ensures.bytes c.push_byte.ensures.bytes;
      size = omega (arith, next_number _ 3 _ _ c.push_next_number.ensures.bytes (at-most-three c.from.result (omega arith)));
    }
