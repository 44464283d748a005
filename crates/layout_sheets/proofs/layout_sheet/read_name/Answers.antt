-- `layout_sheets::layout_sheet::read_name` meets its contract.
use Rattle.common.specs.Logic.{◌≡◌, arith}
use Rattle.layout_sheets.specs.Sheet.{name, name_byte}
use Rattle.layout_sheets.proofs.Attributes.{name-made}
use Rattle.layout_sheets.proofs.Gathering.{gather_none, gather-more, gather-stops}
use Rattle.layout_sheets.proofs.Readers.{failed, bits-small, from-small, reads-then, coded-stops, code-got, code-stops}
use Rattle.layout_sheets.proofs.layout_sheet.read_name.Goals as goal

pub returns-in_err-len : goal.returns-in_err-len
unfolding name
returns-in_err-len c = rw (failed _ _ c.from_residual.ensures.1) (coded-stops _ _ _ _ c.in_err-len.ensures)

pub overflow_cast-len : goal.overflow_cast-len
overflow_cast-len c = omega (arith, bits-small _ _ c.in_ok-len.ensures)

pub loop-i-init : goal.loop-i-init
loop-i-init c = gather_none name_byte (λ b. b) 0 31 _

pub returns-in_err-bytes : goal.returns-in_err-bytes
unfolding name name_byte
returns-in_err-bytes c =
    rw (failed _ _ c.from_residual-in_err-bytes.ensures.1)
    (code-stops _ _ _ (reads-then _ _ _ c.in_ok-len.ensures (gather-stops name_byte (λ b. b) 0 31 _ c.loop-i.i c.loop-i.bytes c.loop-i.invariant _ (omega arith) (code-stops (λ b. b) name_byte _ c.in_err-bytes.ensures))))

pub overflow_cast-bytes : goal.overflow_cast-bytes
overflow_cast-bytes c = let l = from-small _ _ _ _ _ c.in_ok-bytes.ensures in omega (arith, l.1)

pub bounds-bytes-i : goal.bounds-bytes-i
bounds-bytes-i c = omega (arith, bits-small _ _ c.in_ok-len.ensures)

pub loop-i-preserved : goal.loop-i-preserved
unfolding name_byte
loop-i-preserved c =
    gather-more name_byte (λ b. b) 0 31 _ c.loop-i.i c.loop-i.bytes c.loop-i.invariant (omega (arith, bits-small _ _ c.in_ok-len.ensures)) (code-got (λ b. b) name_byte _ c.in_ok-bytes.ensures)

pub returns : goal.returns
returns c =
    let e : c.loop-i.i ≡ c.in_ok-len.field-0 = omega arith in
    name-made _ _ _ c.in_ok-len.ensures (rw e at c.loop-i.invariant)
