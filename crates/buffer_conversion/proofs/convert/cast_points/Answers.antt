-- `buffer_conversion::convert::cast_points` meets its contract.
use Rattle.common.specs.Logic.{◌∙◌, ne_eqb, refl}
use Rattle.attribute_conversion.specs.Lost.{cast_answer}
use Rattle.buffer_conversion.proofs.convert.cast_points.Goals as goal

pub returns-then-this-ne0-clause-lost : goal.returns-then-this-ne0-clause-lost
unfolding cast_answer
returns-then-this-ne0-clause-lost g c = c.unwrap_or.ensures ∙ rw (c.cast_strided.ensures.answer, c.requires.1, ne_eqb _ _ c.if-this-ne0.true) refl
