-- `push_mappings` meets its contract: the mappings of a sound plan have listed places and good names.
use Rattle.common.specs.Logic.{arith, length-take}
use Rattle.listing.proofs.Mapped.{turn, lines_none, lines_more, lines-all}
use Rattle.listing.proofs.lister.push_mappings.Goals as goal

pub loop-m-init : goal.loop-m-init
loop-m-init c = record { lines = lines_none c.args.plan.now c.args.lines.now; size = omega arith }

pub bounds-plan-m : goal.bounds-plan-m
bounds-plan-m c = (turn c.args.plan.now c.requires.0 c.loop-m.m-index (omega arith)).source

pub bounds-plan-m-in-loop-m : goal.bounds-plan-m-in-loop-m
bounds-plan-m-in-loop-m c = (turn c.args.plan.now c.requires.0 c.loop-m.m-index (omega arith)).target

pub push_mapping-requires : goal.push_mapping-requires
push_mapping-requires c = ((turn c.args.plan.now c.requires.0 c.loop-m.m-index (omega arith)).name, omega arith)

pub loop-m-preserved : goal.loop-m-preserved
loop-m-preserved c =
    record {
      lines =
          lines_more c.args.plan.now c.args.lines.now c.loop-m.m-index c.loop-m-test.true (turn c.args.plan.now c.requires.0 c.loop-m.m-index (omega arith)) c.loop-m.invariant.lines c.push_mapping.ensures.line;
      size = omega arith;
    }

pub returns-clause-lines : goal.returns-clause-lines
returns-clause-lines c =
    let e = length-take c.args.plan.now.count c.args.plan.now.mappings in
    lines-all c.args.plan.now c.args.lines.now c.loop-m.m-index (omega arith) c.loop-m-test.false c.loop-m.invariant.lines
