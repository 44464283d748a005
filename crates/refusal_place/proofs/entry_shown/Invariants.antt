-- `refusal_place::entry_shown` meets its contract. The invariant: the answers passed are not the refusal.
use Rattle.common.specs.Refusal.{number_of}
use Rattle.refusal_place.proofs.Least.{Passed}
use Rattle.refusal_place.proofs.entry_shown.Given as goal

abbrev pub invariant-loop-count : goal.invariant-loop-count
invariant-loop-count g l = Passed (goal.F-post g l.first) (number_of l.refusal) l.count
