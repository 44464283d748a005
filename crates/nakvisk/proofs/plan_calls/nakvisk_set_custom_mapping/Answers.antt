-- `nakvisk::plan_calls::nakvisk_set_custom_mapping` meets its contract: places past 8 bits are in no list.
use Rattle.common.specs.Logic.{◌∙◌, ap, ap₂}
use Rattle.plans.specs.Records.{custom_answer}
use Rattle.nakvisk.specs.Calls.{plan_handed}
use Rattle.nakvisk.proofs.Given.{same-places}
use Rattle.nakvisk.proofs.plan_calls.nakvisk_set_custom_mapping.Goals as goal

pub returns : goal.returns
returns c = c.into.ensures ∙ ap plan_handed (c.set_custom_mapping.ensures ∙ ap₂ (custom_answer c.args.plan) c.small_place-source.ensures c.small_place-target.ensures ∙ same-places c.args.plan c.args.source_place c.args.target_place)
