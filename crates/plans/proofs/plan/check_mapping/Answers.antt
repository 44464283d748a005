-- `plans::plan::check_mapping` meets its contract.
use Rattle.plans.proofs.Fits.{no_source, no_target, by-pair}
use Rattle.plans.proofs.plan.check_mapping.Goals.{then-source-mapping-via-then-source-mapping, then-source-mapping-via-else-source-mapping+then-target-mapping}
use Rattle.plans.proofs.plan.check_mapping.Goals as goal

pub returns-then-source-mapping : goal.returns-then-source-mapping
returns-then-source-mapping c =
    elim c.then-source-mapping.branch [
      | then-source-mapping-via-then-source-mapping w ↦ no_source c.args.source.now c.args.target.now c.args.mapping w.if-source-mapping.true
      | then-source-mapping-via-else-source-mapping+then-target-mapping w ↦ no_target c.args.source.now c.args.target.now c.args.mapping w.if-source-mapping.false w.if-target-mapping.true
    ]

pub returns : goal.returns
returns c = by-pair c.args.source.now c.args.target.now c.args.mapping c.if-source-mapping.false c.if-target-mapping.false c.check_pair.ensures
