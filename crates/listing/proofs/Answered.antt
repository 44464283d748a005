-- What the answer of three sheets says of the plan that they give.
use Rattle.std.specs.Prelude.{◌≡◌}
use Rattle.common.specs.Logic.{◌∙◌, sym, ap, ℕ, arith}
use Rattle.common.specs.Refusal.{Outcome, got, refused, and_then}
use Rattle.plans.specs.Plan.{Plan}
use Rattle.plans.specs.Records.{plan_of}
use Rattle.plans.specs.declared.plan.Plan.{Plan as PlanRecord}
use Rattle.sheets.specs.Records.{sheets_answer}
use Rattle.sheets.proofs.Planned.{record-claim}

pub plan-refused : (o : Outcome Plan) {n : ℕ} → refused n ≡ sheets_answer o → o ≡ refused n
unfolding sheets_answer and_then
plan-refused (got p) e = absurd (let z : ◌≡◌ {A = ℕ} 0 1 = cc in omega arith)
plan-refused (refused m) e = cc

pub plan-got : (o : Outcome Plan) {p : PlanRecord} → got p ≡ sheets_answer o → o ≡ got (plan_of p)
unfolding sheets_answer and_then
plan-got (got q) {p} e =
    let r = record-claim.three q in
    let s : p ≡ r.0 = cc (r.1) in
    ap got (sym (ap plan_of s ∙ r.2))
plan-got (refused m) e = absurd (let z : ◌≡◌ {A = ℕ} 0 1 = cc in omega arith)
