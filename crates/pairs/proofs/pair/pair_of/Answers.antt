-- `pairs::pair::pair_of` meets its contract: equal datatypes are copied, others as the entry of the two codes says.
use Rattle.common.specs.Logic.{◌∙◌, sym, refl}
use Rattle.pairs.proofs.PairRule.{none_left, none_right, codes-listed, is-copy, is-cast, is-nothing}
use Rattle.pairs.proofs.pair.pair_of.Goals as goal
use Rattle.pairs.proofs.pair.pair_of.Goals.{then-size_of-eq0-via-then-size_of-eq0, then-size_of-eq0-via-else-size_of-eq0+then-size_of-eq0-2}

pub returns-then-size_of-eq0 : goal.returns-then-size_of-eq0
returns-then-size_of-eq0 c =
    elim c.then-size_of-eq0.branch [
      | then-size_of-eq0-via-then-size_of-eq0 w ↦ none_left c.args.from c.args.to c.size_of.ensures refl w.if-size_of-eq0.true
      | then-size_of-eq0-via-else-size_of-eq0+then-size_of-eq0-2 w ↦ none_right c.args.from c.args.to c.size_of.ensures w.size_of-else-size_of-eq0.ensures w.if-size_of-eq0-2.true
    ]

pub entry-requires : goal.entry-requires
entry-requires c = codes-listed c.args.from c.args.to c.size_of.ensures c.size_of-else-size_of-eq0.ensures c.if-size_of-eq0.false c.if-size_of-eq0-2.false

pub returns-then-same_datatype : goal.returns-then-same_datatype
returns-then-same_datatype c =
    is-copy c.args.from c.args.to c.size_of.ensures c.size_of-else-size_of-eq0.ensures c.if-size_of-eq0.false c.if-size_of-eq0-2.false (sym c.same_datatype.ensures ∙ c.if-same_datatype.true)

pub returns-in-Cast : goal.returns-in-Cast
returns-in-Cast c =
    is-cast c.args.from c.args.to c.size_of.ensures c.size_of-else-size_of-eq0.ensures c.if-size_of-eq0.false c.if-size_of-eq0-2.false c.entry.ensures (sym c.same_datatype.ensures ∙ c.if-same_datatype.false) c.in-Cast.is

pub returns-in_default-2 : goal.returns-in_default-2
returns-in_default-2 c =
    is-nothing c.args.from c.args.to c.size_of.ensures c.size_of-else-size_of-eq0.ensures c.if-size_of-eq0.false c.if-size_of-eq0-2.false c.entry.ensures (sym c.same_datatype.ensures ∙ c.if-same_datatype.false) c.in_default-2.not-Cast
