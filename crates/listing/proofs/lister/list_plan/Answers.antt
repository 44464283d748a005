-- `list_plan` meets its contract: the listing is made apart, and copied where it fits.
use Rattle.common.specs.Logic.{◌∙◌, sym, ap, List, ℕ, arith, length}
use Rattle.common.specs.Refusal.{got}
use Rattle.plans.specs.Records.{plan_of}
use Rattle.listing.specs.Text.{handed}
use Rattle.listing.proofs.Listings.{unsound, sound, refusal-answered, listing-answered}
use Rattle.listing.proofs.lister.list_plan.Goals as goal

pub returns-then-not-sound : goal.returns-then-not-sound
returns-then-not-sound c =
    let r = refusal-answered c.args.text.now (unsound (plan_of c.args.plan) (sym c.sound.ensures ∙ c.if-not-sound.true)) in
    record { answer = r.0; size = omega arith; bytes = r.1 }

pub returns : goal.returns
returns c =
    let e = c.as_bytes-listing.ensures ∙ c.push_plan.ensures.lines in
    let r = listing-answered c.args.text.now (sound (plan_of c.args.plan) (sym c.sound.ensures ∙ c.if-not-sound.false)) in
    record {
      answer = ap (λ (l : List ℕ). got (length l)) e ∙ r.0;
      size = omega (arith, ap length c.as_bytes-listing.ensures, c.push_plan.ensures.size);
      bytes = c.hand_over.ensures ∙ ap (handed c.args.text.now) e ∙ r.1;
    }
