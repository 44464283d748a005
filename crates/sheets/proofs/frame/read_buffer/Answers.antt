-- `sheets::frame::read_buffer` meets its contract.
use Rattle.common.specs.Logic.{◌∙◌, ap, arith}
use Rattle.sheets.specs.Records.{sheets_answer}
use Rattle.sheets.proofs.Frames.{whole-read, filled-read}
use Rattle.sheets.proofs.frame.read_buffer.Goals as goal

pub returns-then-n-lt-INPUT_SIZE : goal.returns-then-n-lt-INPUT_SIZE
returns-then-n-lt-INPUT_SIZE c rest only = c.read_sheets.ensures ∙ ap sheets_answer (whole-read c.args.buffer (omega arith) c.args.n rest only (omega arith))

pub returns : goal.returns
returns c rest only = c.read_sheets-2.ensures ∙ ap sheets_answer (filled-read c.args.buffer (omega arith) c.args.n rest only (omega arith))
