-- `nakvisk::plan_calls::nakvisk_list_plan` meets its contract.
use Rattle.common.specs.Logic.{◌∙◌}
use Rattle.listing.proofs.Listings.{answer-refused, answer-listed}
use Rattle.nakvisk.proofs.Calls.{number-returned, zero-returned, length-kept, length-told}
use Rattle.nakvisk.proofs.plan_calls.nakvisk_list_plan.Goals as goal

pub returns-in-Ok-clause-answer : goal.returns-in-Ok-clause-answer
returns-in-Ok-clause-answer c = zero-returned (answer-listed _ c.in-Ok.ensures.answer).1

pub returns-in-Ok-clause-written : goal.returns-in-Ok-clause-written
returns-in-Ok-clause-written c = let l = answer-listed _ c.in-Ok.ensures.answer in l.2 ∙ length-told _ l.1

pub returns-in-Err-clause-answer : goal.returns-in-Err-clause-answer
returns-in-Err-clause-answer c = c.number.ensures ∙ number-returned (answer-refused _ c.in-Err.ensures.answer)

pub returns-in-Err-clause-written : goal.returns-in-Err-clause-written
returns-in-Err-clause-written c = length-kept _ (answer-refused _ c.in-Err.ensures.answer)
