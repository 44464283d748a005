-- `nakvisk::sheet_calls::nakvisk_list` meets its contract: the listing of the plan that was read.
use Rattle.common.specs.Logic.{◌∙◌, ap, List, ℕ}
use Rattle.common.specs.Refusal.{Outcome, answer_of}
use Rattle.listing.specs.Text.{text_left}
use Rattle.listing.proofs.Listings.{refusal-answered}
use Rattle.nakvisk.specs.Calls.{length_left, number_in}
use Rattle.nakvisk.proofs.Calls.{number-returned, listing-refused, listing-by, length-kept}
use Rattle.nakvisk.proofs.sheet_calls.nakvisk_list.Goals as goal

pub returns-in-Ok-clause-answer : goal.returns-in-Ok-clause-answer
returns-in-Ok-clause-answer c = c.nakvisk_list_plan.ensures.answer ∙ ap (λ (o : Outcome (List ℕ)). number_in (answer_of o)) (listing-by _ c.in-Ok.ensures)

pub returns-in-Ok-clause-bytes : goal.returns-in-Ok-clause-bytes
returns-in-Ok-clause-bytes c = c.nakvisk_list_plan.ensures.bytes ∙ ap (text_left _) (listing-by _ c.in-Ok.ensures)

pub returns-in-Ok-clause-written : goal.returns-in-Ok-clause-written
returns-in-Ok-clause-written c = c.nakvisk_list_plan.ensures.written ∙ ap (length_left _) (listing-by _ c.in-Ok.ensures)

pub returns-in-Err-clause-answer : goal.returns-in-Err-clause-answer
returns-in-Err-clause-answer c = c.number.ensures ∙ number-returned (listing-refused _ c.in-Err.ensures)

pub returns-in-Err-clause-bytes : goal.returns-in-Err-clause-bytes
returns-in-Err-clause-bytes c = (refusal-answered _ (listing-refused _ c.in-Err.ensures)).1

pub returns-in-Err-clause-written : goal.returns-in-Err-clause-written
returns-in-Err-clause-written c = length-kept _ (listing-refused _ c.in-Err.ensures)
