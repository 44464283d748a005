-- `pairs::pair::has_entry` meets its contract: copy or cast, told by the codes.
use Rattle.common.specs.Logic.{◌∙◌, sym}
use Rattle.pairs.proofs.Castable.{copy-has, cast-has}
use Rattle.pairs.proofs.pair.has_entry.Goals as goal

pub returns-then-same_datatype : goal.returns-then-same_datatype
returns-then-same_datatype c = let s = c.args in copy-has s.from s.to c.size_of.ensures (sym c.same_datatype.ensures ∙ c.if-same_datatype.true)

pub returns : goal.returns
returns c = let s = c.args in c.is_castable.ensures ∙ cast-has s.from s.to (sym c.same_datatype.ensures ∙ c.if-same_datatype.false)
