-- `pairs::pair::entry` meets its contract: the table is the rule's, row by row, which antt computes at each of the 324 entries.
use Rattle.std.specs.Prelude.{◌≡◌, ◌≤◌}
use Rattle.common.specs.Logic.{◌∙◌, sym, ap, List, [], ℕ, cond, arith, eqb, get_or}
use Rattle.common.specs.Lists.{tabulate}
use Rattle.common.proofs.Lists.{tabulate-at}
use Rattle.datatype.specs.Datatype.{byte_array}
use Rattle.pairs.specs.Pairs.{castable}
use Rattle.pairs.specs.declared.pair.Pair.{Pair}
use Rattle.pairs.specs.declared.pair.Pair.TheVariants.{Copy, Cast, Nothing}
use Rattle.pairs.proofs.PairRule.{at-codes}
use Rattle.pairs.proofs.pair.entry.Goals as goal

row : ℕ → List Pair
row a = tabulate (λ b. cond (eqb a b) Copy (cond (castable a b) Cast Nothing)) 18

table-at : (a b : ℕ) (d : Pair) → a ≤ 17 → b ≤ 17 → get_or (get_or (tabulate row 18) a []) b d ≡ cond (eqb a b) Copy (cond (castable a b) Cast Nothing)
unfolding row
table-at a b d A B = ap (λ (xs : List Pair). get_or xs b d) (tabulate-at row 18 a [] (omega arith)) ∙ tabulate-at _ 18 b d (omega arith)

pub returns : goal.returns
unfolding row tabulate
returns c = table-at c.args.a c.args.b _ c.requires.0 c.requires.1 ∙ sym (at-codes (byte_array 1) c.args.a c.args.b (omega arith) c.requires.0 c.requires.1)
