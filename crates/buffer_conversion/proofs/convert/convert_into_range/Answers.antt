-- `buffer_conversion::convert::convert_into_range` meets its contract: the mappings' counts are added up.
use Rattle.std.specs.Prelude.{◌≡◌, ◌<◌, ◌≤◌, ◌*◌, ◌^◌}
use Rattle.std.specs.List.{sum as sum_all}
use Rattle.std.proofs.lemmas.Iterator.{YieldsList-from_slice}
use Rattle.std.proofs.lemmas.Iterator.Consumers.{sum_from_yields_List, fits_from_yields_list}
use Rattle.common.specs.Logic.{◌∙◌, sym, ap, rules, List, ℕ, arith, length}
use Rattle.common.specs.Lists.{sum}
use Rattle.common.specs.Refusal.{Outcome, got, outcome_of}
use Rattle.plans.specs.Records.{plan_of}
use Rattle.plans.specs.declared.plan.Plan.{Plan as PlanRecord}
use Rattle.point_buffer.specs.Places.{length_of}
use Rattle.point_buffer.specs.declared.PointRange.{PointRange}
use Rattle.plans.proofs.Facts.{mappings-count, plan-counts}
use Rattle.buffer_conversion.specs.Conversion.{convert_into_range}
use Rattle.buffer_conversion.specs.Lost.{converted_answer, lost_counts, lost_over}
use Rattle.buffer_conversion.proofs.Checks.{product, checked-claim}
use Rattle.buffer_conversion.proofs.LostCounts.{lost-few, counts-sum, sum-all, done-with, refused-with, got-with, refusal-with}
use Rattle.buffer_conversion.proofs.convert.convert_into_range.Goals as goal

module _ (p : PlanRecord) (src : List ℕ) (from : PointRange) (dst : List ℕ) (to : PointRange) {lost : List ℕ}
    (e : converted_answer (convert_into_range (plan_of p) src from dst to) (lost_counts (plan_of p) from src) ≡ got lost) where
  done : (x : List ℕ) × (convert_into_range (plan_of p) src from dst to ≡ got x) × (lost ≡ lost_counts (plan_of p) from src)
  done = got-with (convert_into_range (plan_of p) src from dst to) e

  few : length (plan_of p).mappings ≤ 32
  few = omega (arith, mappings-count p, (plan-counts p (checked-claim (plan_of p) src from dst to done.0 done.1).sound).0)

  total : sum_all lost ≡ lost_over (plan_of p) from src
  total = sum-all lost ∙ ap sum done.2 ∙ counts-sum (plan_of p) from to src few

  small : from.end < 2 ^ 32 → sum_all lost < 2 ^ 64
  small h = omega (arith, total, lost-few (plan_of p) from to src, product (length (plan_of p).mappings) (length_of from * 3) 32 (2 ^ 34) few (omega (arith, h)))

  told : {t : ℕ} → t ≡ sum_all lost → ◌≡◌ {A = Outcome ℕ} (got t) (converted_answer (convert_into_range (plan_of p) src from dst to) (lost_over (plan_of p) from src))
  told h = ap got (h ∙ total) ∙ done-with (lost_over (plan_of p) from src) done.1

pub returns-in_err-lost-clause-answer : goal.returns-in_err-lost-clause-answer
returns-in_err-lost-clause-answer c =
    let p = plan_of c.args.plan in
    let r = refusal-with (convert_into_range p c.args.source.now c.args.from c.args.target.now c.args.to) (lost_counts p c.args.from c.args.source.now) (sym c.convert_by_mapping.ensures.answer ∙ ap outcome_of c.in_err-lost.was) in
    rw (← refused-with (lost_over p c.args.from c.args.source.now) r) (search rules)

pub sum-requires-clause-fits : goal.sum-requires-clause-fits
sum-requires-clause-fits c =
    fits_from_yields_list c.iter.result (2 ^ 64) (YieldsList-from_slice c.in_ok-lost.lost cc)
    (small c.args.plan c.args.source.now c.args.from c.args.target.now c.args.to (sym c.convert_by_mapping.ensures.answer ∙ ap outcome_of c.in_ok-lost.was) (omega arith))

pub returns-clause-answer : goal.returns-clause-answer
returns-clause-answer c =
    told c.args.plan c.args.source.now c.args.from c.args.target.now c.args.to (sym c.convert_by_mapping.ensures.answer ∙ ap outcome_of c.in_ok-lost.was)
    (sum_from_yields_List c.iter.result _ c.sum.ensures.ran (YieldsList-from_slice c.in_ok-lost.lost cc))
