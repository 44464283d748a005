-- `layout_sheets::layout_sheet::read_entries` meets its contract.
use Rattle.common.specs.Logic.{◌≡◌, arith}
use Rattle.layout_sheets.specs.Records.{entries_array, entry_record, empty_entry}
use Rattle.layout_sheets.specs.Sheet.{datatype, entry}
use Rattle.layout_sheets.proofs.Gathering.{gather_none, gather-more, gather-stops, gathered}
use Rattle.layout_sheets.proofs.Readers.{failed, code-stops}
use Rattle.layout_sheets.proofs.layout_sheet.read_entries.Goals as goal

pub loop-i-init : goal.loop-i-init
loop-i-init c = rw c.empty_entry-entries.ensures (gather_none (entry datatype c.args.width) entry_record empty_entry 32 _)

pub returns-in_err-entries : goal.returns-in_err-entries
returns-in_err-entries c =
    rw (failed _ _ c.from_residual.ensures.1)
    (code-stops _ _ _ (gather-stops (entry datatype c.args.width) entry_record empty_entry 32 _ c.loop-i.i c.loop-i.entries c.loop-i.invariant _ (omega arith) c.in_err-entries.ensures))

pub loop-i-preserved : goal.loop-i-preserved
loop-i-preserved c =
    gather-more (entry datatype c.args.width) entry_record empty_entry 32 _ c.loop-i.i c.loop-i.entries c.loop-i.invariant (omega arith) c.in_ok-entries.ensures

pub returns : goal.returns
unfolding entries_array
returns c =
    let e : c.loop-i.i ≡ c.args.count = omega arith in
    gathered (entry datatype c.args.width) entry_record empty_entry 32 _ _ (rw e at c.loop-i.invariant)
