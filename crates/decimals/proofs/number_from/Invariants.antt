-- `decimals::number_from` meets its contract: the number of the digits so far, of which there are at most 15.
use Rattle.std.specs.Prelude.{◌≡◌, ◌<◌, ◌+◌, ◌^◌}
use Rattle.common.specs.Logic.{true, drop}
use Rattle.common.specs.Lists.{all}
use Rattle.decimals.specs.Decimals.{is_digit, number_from}
use Rattle.decimals.proofs.number_from.Given as goal

abbrev pub invariant-loop-b : goal.invariant-loop-b
invariant-loop-b l =
    (l.n < 10 ^ (l.count + l.b-index)) × (all is_digit (drop l.b-index l.text) ≡ true) × (number_from l.start l.text ≡ number_from l.n (drop l.b-index l.text))
