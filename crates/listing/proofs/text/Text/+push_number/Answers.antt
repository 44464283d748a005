-- `Text::push_number` meets its contract: the digits of the number without its last one, and the last one.
use Rattle.std.specs.Prelude.{◌≡◌, ◌++◌, ◌/◌}
use Rattle.common.specs.Logic.{◌∙◌, ap, arith, length, length-append}
use Rattle.listing.specs.Text.{digits}
use Rattle.listing.proofs.Digits.{at_most_four, at-most-five}
use Rattle.listing.proofs.Parts.{digit_put, digits_put}
use Rattle.listing.proofs.text.Text.+push_number.Goals as goal
use Rattle.listing.proofs.text.Text.+push_number.Goals.{then-number-ge10, else-number-ge10}

pub push_byte-requires : goal.push_byte-requires
push_byte-requires t c =
    elim c.if-number-ge10.branch [
      | then-number-ge10 w ↦
          omega (arith, ap length w.self-is, ap length w.push_number.ensures.bytes, length-append c.args.self.now (digits (c.args.number / 10)), at_most_four (c.args.number / 10) (omega arith))
      | else-number-ge10 w ↦ omega (arith, ap length w.self-is)
    ]

pub returns : goal.returns
returns t c =
    let e : c.push_byte.new.self ≡ c.args.self.now ++ digits c.args.number =
    elim c.if-number-ge10.branch [
      | then-number-ge10 w ↦ digits_put c.args.number _ _ _ (omega arith) (w.self-is ∙ w.push_number.ensures.bytes) c.push_byte.ensures.bytes
      | else-number-ge10 w ↦ digit_put c.args.number _ _ _ (omega arith) w.self-is c.push_byte.ensures.bytes
    ] in
    record { bytes = e; size = omega (arith, ap length e, length-append c.args.self.now (digits c.args.number), at-most-five c.args.number (omega arith)) }
