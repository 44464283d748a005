-- `buffer_conversion::convert::casts_of` meets its contract: after k turns the first k casts are those of the first k mappings.
use Rattle.std.specs.Prelude.{◌≡◌, ◌<◌}
use Rattle.common.specs.Logic.{◌∙◌, sym, ap, refl, true, map, ℕ, arith, get_or, length-set}
use Rattle.common.specs.Lists.{first}
use Rattle.strided.specs.Steps.{no_cast}
use Rattle.buffer_conversion.specs.Casts.{mapping_cast}
use Rattle.plans.specs.Plan.{is_sound_plan}
use Rattle.plans.specs.Records.{no_mapping, mapped, plan_of}
use Rattle.plans.specs.declared.plan.Plan.{Plan as PlanRecord}
use Rattle.plans.proofs.Facts.{plan-counts}
use Rattle.buffer_conversion.proofs.Lists.{mapping-listed, places-listed, before-few, source-place, target-place, member_is, none-listed, one-listed, all_listed}
use Rattle.buffer_conversion.proofs.convert.casts_of.Goals as goal

few : (p : PlanRecord) (k : ℕ) → is_sound_plan (plan_of p) ≡ true → k < p.count → k < 32
few p k s h = omega (arith, (plan-counts p s).0, h)

pub loop-k-init : goal.loop-k-init
loop-k-init c = (refl, none-listed c.args.plan.now c.args.from c.args.to _)

pub bounds-plan-k : goal.bounds-plan-k
bounds-plan-k c = few c.args.plan.now c.loop-k.k c.requires.0 c.loop-k-test.true

pub bounds-plan-k-in-loop-k : goal.bounds-plan-k-in-loop-k
bounds-plan-k-in-loop-k c = few c.args.plan.now c.loop-k.k c.requires.0 c.loop-k-test.true

pub bounds-plan-s : goal.bounds-plan-s
bounds-plan-s c = (places-listed c.args.plan.now c.loop-k.k c.requires.0 c.loop-k-test.true).0

pub bounds-plan-t : goal.bounds-plan-t
bounds-plan-t c = (places-listed c.args.plan.now c.loop-k.k c.requires.0 c.loop-k-test.true).1

pub bounds-reads-s : goal.bounds-reads-s
bounds-reads-s c = (places-listed c.args.plan.now c.loop-k.k c.requires.0 c.loop-k-test.true).0

pub place_of-requires : goal.place_of-requires
place_of-requires c = before-few c.args.plan.now.source (plan-counts c.args.plan.now c.requires.0).1 c.requires.1 _ (source-place c.args.plan.now _ (mapping-listed c.args.plan.now c.loop-k.k c.requires.0 c.loop-k-test.true))

pub bounds-writes-t : goal.bounds-writes-t
bounds-writes-t c = (places-listed c.args.plan.now c.loop-k.k c.requires.0 c.loop-k-test.true).1

pub place_of-requires-in-loop-k : goal.place_of-requires-in-loop-k
place_of-requires-in-loop-k c = before-few c.args.plan.now.target (plan-counts c.args.plan.now c.requires.0).2 c.requires.2 _ (target-place c.args.plan.now _ (mapping-listed c.args.plan.now c.loop-k.k c.requires.0 c.loop-k-test.true))

pub bounds-list-k : goal.bounds-list-k
bounds-list-k c = few c.args.plan.now c.loop-k.k c.requires.0 c.loop-k-test.true

pub loop-k-preserved : goal.loop-k-preserved
loop-k-preserved c =
    let p = c.args.plan.now in (
      length-set c.loop-k.list c.loop-k.k _ ∙ c.loop-k.invariant.0,
      one-listed p c.args.from c.args.to c.loop-k.k c.loop-k.list _ (omega (arith, c.loop-k.invariant.0, few p c.loop-k.k c.requires.0 c.loop-k-test.true)) c.loop-k.invariant.1
          (member_is p (get_or p.mappings c.loop-k.k no_mapping) (mapping-listed p c.loop-k.k c.requires.0 c.loop-k-test.true) c.requires.0 c.args.from c.args.to c.requires.1 c.requires.2 c.place_of.ensures c.place_of-in-loop-k.ensures),
    )

pub returns : goal.returns
returns c =
    let p = c.args.plan.now in
    let e : p.count ≡ c.loop-k.k = omega (arith, c.loop-k-test.false, c.loop-k.auto.k-end) in
    (c.loop-k.invariant.0, ap (first no_cast c.loop-k.list) e ∙ c.loop-k.invariant.1 ∙ ap (λ (k : ℕ). map (mapping_cast (plan_of p) c.args.from c.args.to) (mapped p.mappings k)) (sym e) ∙ all_listed p c.args.from c.args.to)
