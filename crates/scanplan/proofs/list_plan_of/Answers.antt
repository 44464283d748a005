-- The listing of the plan, which is sound, or the refusal of the input.
use Rattle.std.proofs.Common.{rules}
use Rattle.scanplan.proofs.Prints.{refusal-printed, never, plan-printed}
use Rattle.scanplan.proofs.list_plan_of.Goals as goal

pub returns-in_err-plan-clause-refused : goal.returns-in_err-plan-clause-refused
returns-in_err-plan-clause-refused c = search (rules, refusal-printed _ _ c.read_buffer.ensures c.in_err-plan.was)

pub returns-clause-listed : goal.returns-clause-listed
returns-clause-listed c = let x = c.list_plan.ensures in plan-printed _ _ c.read_buffer.ensures c.in_ok-plan.was _ _ c.requires x.answer x.size x.bytes

pub returns-clause-refused : goal.returns-clause-refused
returns-clause-refused c = never _ _ c.read_buffer.ensures c.in_ok-plan.was c.args.text.now _ _ c.list_plan.ensures.answer
