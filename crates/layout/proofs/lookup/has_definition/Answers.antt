-- `layout::lookup::has_definition` meets its contract.
use Rattle.common.specs.Logic.{◌∙◌}
use Rattle.layout.specs.Lookup.{named, defined}
use Rattle.layout.specs.Records.{definition_of, attribute_of}
use Rattle.layout.proofs.lookup.has_definition.Goals as goal

pub returns-then-same_name : goal.returns-then-same_name
unfolding defined named attribute_of definition_of
returns-then-same_name c = c.same_datatype.ensures ∙ rw (← c.same_name.ensures, c.if-same_name.true)

pub returns-else-same_name : goal.returns-else-same_name
unfolding defined named attribute_of definition_of
returns-else-same_name c = rw (← c.same_name.ensures, c.if-same_name.false)
