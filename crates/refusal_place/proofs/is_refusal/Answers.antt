-- `refusal_place::is_refusal` meets its contract.
use Rattle.std.specs.Prelude.{◌≡◌, Result, Ok, Err}
use Rattle.std.specs.Result.{result_eq}
use Rattle.common.specs.Logic.{◌∙◌, refl, Bool}
use denote.Enum.Bare.{sameb}
use Rattle.common.specs.Refusal.{number_of, answered}
use Rattle.common.specs.contracts.Refusal.{the_type}
use Rattle.common.specs.declared.Refusal.{Refusal}
use Rattle.refusal_place.specs.Place.{is_refusal}
use Rattle.refusal_place.proofs.Same.{same-number}
use Rattle.refusal_place.proofs.is_refusal.Goals as goal

same-answer : (E : Unit → Unit → Bool) (answer : Result Unit Refusal) (r : Refusal) → result_eq E (sameb the_type) answer (Err r) ≡ is_refusal (number_of r) (answered answer)
unfolding is_refusal
same-answer E (Ok _) r = refl
same-answer E (Err a) r = same-number a r

pub returns : goal.returns
returns c = c.eq.ensures ∙ same-answer _ c.args.answer c.args.refusal
