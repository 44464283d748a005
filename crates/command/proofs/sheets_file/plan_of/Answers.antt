-- By what the sheets answer.
use Rattle.std.proofs.Common.{rules}
use Rattle.command.proofs.Ended.{plan-ends}
use Rattle.command.proofs.sheets_file.plan_of.Goals as goal

pub returns : goal.returns
returns c = plan-ends c.args.input c.args.n _ _ _ c.read_buffer.ensures c.map_err.ensures.cases (λ e f. search rules)
