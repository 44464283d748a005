-- `sheets::frame::read_part` meets its contract.
use Rattle.std.specs.Prelude.{◌≡◌, ◌+◌, ◌-◌}
use Rattle.common.specs.Logic.{refl, arith}
use Rattle.format.specs.Bits.{Bytes}
use Rattle.layout_sheets.proofs.Readers.{failed}
use Rattle.sheets.proofs.Frames.{length-read, length-refused, part-short, part-ends, part-got}
use Rattle.sheets.proofs.frame.read_part.Goals as goal

pub returns-in_err-length-clause-says : goal.returns-in_err-length-clause-says
returns-in_err-length-clause-says c = rw (failed _ _ c.from_residual.ensures.1) (part-short _ _ (length-refused _ _ (rw c.new.ensures at c.in_err-length.ensures)))

pub returns-then-input-end-clause-says : goal.returns-then-input-end-clause-says
returns-then-input-end-clause-says c =
    let b : Bytes c.args.input.now = (λ i l. omega (arith, c.type_inv.input i)) in
    part-ends _ _ b (length-read _ _ (rw c.new.ensures at c.in_ok-length.ensures)) c.if-input-end.true

pub returns-clause-says : goal.returns-clause-says
returns-clause-says c =
    let b : Bytes c.args.input.now = (λ i l. omega (arith, c.type_inv.input i)) in
    let e : c.args.at + 2 + c.in_ok-length.length - (c.args.at + 2) ≡ c.in_ok-length.length = omega arith in
    rw e (part-got _ _ b (length-read _ _ (rw c.new.ensures at c.in_ok-length.ensures)) _ refl (omega arith))
