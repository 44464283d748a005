-- `strided::cast_strided` meets its contract: cast, and counted where the points fit.
use Rattle.common.specs.Logic.{◌∙◌, sym, arith, length}
use Rattle.attribute_conversion.proofs.Lost.{answer-some, answer-none}
use Rattle.strided.proofs.Fits.{run_fits}
use Rattle.strided.proofs.LostPoints.{reads}
use Rattle.strided.proofs.cast_strided.Goals as goal

pub count_pair-requires : goal.count_pair-requires
count_pair-requires c = reads c.args.cast c.args.n _ (length c.args.target.now) (omega arith) (run_fits c.args.cast c.args.n _ _ (sym c.cast_strided_uncounted.ensures.answer ∙ c.if-cast_strided_uncounted.true))

pub returns-then-cast_strided_uncounted-clause-answer : goal.returns-then-cast_strided_uncounted-clause-answer
returns-then-cast_strided_uncounted-clause-answer c = answer-some _ _ (sym c.cast_strided_uncounted.ensures.answer ∙ c.if-cast_strided_uncounted.true) c.count_pair.ensures

pub returns-else-cast_strided_uncounted-clause-answer : goal.returns-else-cast_strided_uncounted-clause-answer
returns-else-cast_strided_uncounted-clause-answer c = answer-none _ _ (sym c.cast_strided_uncounted.ensures.answer ∙ c.if-cast_strided_uncounted.false)
