-- How a run ends by the answer to its sheets.
use Rattle.std.specs.Prelude.{◌≡◌, ◌++◌, MatchResult, Result, Ok, Err}
use Rattle.common.specs.Logic.{◌∙◌, sym, ap, List, ℕ, take}
use Rattle.common.specs.Refusal.{outcome_of}
use Rattle.common.specs.declared.Refusal.{Refusal}
use Rattle.plans.specs.declared.plan.Plan.{Plan}
use Rattle.sheets.specs.Frame.{three_sheets}
use Rattle.sheets.specs.Records.{OfWhole}
use Rattle.listing.proofs.Answered.{plan-refused, plan-got}
use Rattle.usage.specs.declared.status.Status.TheVariants.{Refused}
use Rattle.command.specs.Ends.{sheets_end, ended, EndOfWhole}
use Rattle.command.specs.declared.failure.Failure.{Failure}

-- what was read into a buffer, and a run that fails so where it is refused
module _ (buffer : List ℕ) (k : ℕ) where
  pub plan-ends : (r : Result Plan Refusal) (s : Result Plan Failure) (Q : Refusal → Type 0) → OfWhole buffer k (outcome_of r) → MatchResult r (λ p. s ≡ Ok p) Q → ((e : Refusal) → Q e → ended s ≡ Refused) → EndOfWhole buffer k (ended s)
  unfolding sheets_end
  plan-ends (Ok p) s Q w h f rest only = ap ended h ∙ sym (ap sheets_end (plan-got (three_sheets (take k buffer ++ rest)) (w rest only)))
  plan-ends (Err e) s Q w h f rest only = f e h ∙ sym (ap sheets_end (plan-refused (three_sheets (take k buffer ++ rest)) (w rest only)))
