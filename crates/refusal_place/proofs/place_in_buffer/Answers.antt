-- `refusal_place::place_in_buffer` meets its contract.
use Rattle.common.specs.Logic.{◌∙◌, arith}
use Rattle.refusal_place.proofs.Places.{whole-place, filled-place}
use Rattle.refusal_place.proofs.place_in_buffer.Goals as goal

pub returns-then-n-lt-INPUT_SIZE : goal.returns-then-n-lt-INPUT_SIZE
returns-then-n-lt-INPUT_SIZE c rest only = c.refusal_place.ensures ∙ whole-place c.args.buffer (omega arith) c.args.n rest only (omega arith)

pub returns : goal.returns
returns c rest only = c.refusal_place-2.ensures ∙ filled-place c.args.buffer (omega arith) c.args.n rest only (omega arith)
