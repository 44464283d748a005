-- `sheets::mapping_sheet::read_lines` meets its contract.
use Rattle.common.specs.Logic.{◌≡◌, arith}
use Rattle.layout_sheets.proofs.Gathering.{gather_none, gather-more, gather-stops}
use Rattle.layout_sheets.proofs.Readers.{failed, code-got, code-stops}
use Rattle.plans.specs.Records.{no_mapping}
use Rattle.sheets.specs.Mapping.{sheet_line}
use Rattle.sheets.proofs.Lines.{lines-made}
use Rattle.sheets.proofs.mapping_sheet.read_lines.Goals as goal

pub loop-i-init : goal.loop-i-init
loop-i-init c = gather_none sheet_line (λ x. x) no_mapping 32 _

pub returns-in_err-lines : goal.returns-in_err-lines
returns-in_err-lines c =
    rw (failed _ _ c.from_residual.ensures.1)
    (code-stops _ _ _ (gather-stops sheet_line (λ x. x) no_mapping 32 _ c.loop-i.i c.loop-i.lines c.loop-i.invariant _ (omega arith) (code-stops (λ x. x) sheet_line _ c.in_err-lines.ensures)))

pub loop-i-preserved : goal.loop-i-preserved
loop-i-preserved c =
    gather-more sheet_line (λ x. x) no_mapping 32 _ c.loop-i.i c.loop-i.lines c.loop-i.invariant (omega arith) (code-got (λ x. x) sheet_line _ c.in_ok-lines.ensures)

pub returns : goal.returns
returns c =
    let e : c.loop-i.i ≡ c.args.count = omega arith in
    lines-made _ _ (rw e at c.loop-i.invariant)
