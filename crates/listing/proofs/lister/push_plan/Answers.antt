-- `push_plan` meets its contract: the counts of a sound plan are within its arrays.
use Rattle.common.specs.Logic.{ap, refl, arith, length}
use Rattle.common.specs.Ascii.{ascii}
use Rattle.plans.proofs.Facts.{plan-counts}
use Rattle.listing.proofs.Listings.{plan_put}
use Rattle.listing.proofs.lister.push_plan.Goals as goal

pub push_layout-requires : goal.push_layout-requires
push_layout-requires c = ((plan-counts c.args.plan.now c.requires.0).1, refl, omega (arith, ap length c.requires.1))

pub push_layout-requires-2 : goal.push_layout-requires-2
push_layout-requires-2 c = ((plan-counts c.args.plan.now c.requires.0).2, refl, omega (arith, ap length c.requires.1))

pub push_mappings-requires : goal.push_mappings-requires
push_mappings-requires c = (c.requires.0, omega (arith, ap length c.requires.1, (plan-counts c.args.plan.now c.requires.0).0))

pub returns : goal.returns
unfolding ascii
returns c =
    record {
      lines = plan_put c.args.plan.now _ _ _ _ c.requires.1 c.push_layout.ensures.line c.push_layout-2.ensures.line c.push_mappings.ensures.lines;
      size = omega (arith, ap length c.requires.1, (plan-counts c.args.plan.now c.requires.0).0);
    }
