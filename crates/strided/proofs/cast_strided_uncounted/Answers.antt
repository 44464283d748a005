-- `strided::cast_strided_uncounted` meets its contract: every point cast where they fit, else as it was.
use Rattle.common.specs.Logic.{◌∙◌, sym}
use Rattle.strided.proofs.Fits.{fits-spaced, run_fits}
use Rattle.strided.proofs.Runs.{stored_is}
use Rattle.strided.proofs.cast_strided_uncounted.Goals as goal

pub copy_gapless-requires : goal.copy_gapless-requires
copy_gapless-requires c = (sym c.is_gapless.ensures ∙ c.if-is_gapless.true, run_fits _ _ _ _ (sym c.cast_fits.ensures ∙ c.if-not-cast_fits.false))

pub run_pair-requires : goal.run_pair-requires
run_pair-requires c = run_fits _ _ _ _ (sym c.cast_fits.ensures ∙ c.if-not-cast_fits.false)

pub returns-then-is_gapless-clause-bytes : goal.returns-then-is_gapless-clause-bytes
returns-then-is_gapless-clause-bytes c =
    let f = sym c.cast_fits.ensures ∙ c.if-not-cast_fits.false in
    c.copy_gapless.ensures ∙ stored_is c.args.cast c.args.source.now c.args.target.now (fits-spaced _ _ _ _ f) c.args.n (run_fits _ _ _ _ f)

pub returns-else-is_gapless-clause-bytes : goal.returns-else-is_gapless-clause-bytes
returns-else-is_gapless-clause-bytes c =
    let f = sym c.cast_fits.ensures ∙ c.if-not-cast_fits.false in
    c.run_pair.ensures ∙ stored_is c.args.cast c.args.source.now c.args.target.now (fits-spaced _ _ _ _ f) c.args.n (run_fits _ _ _ _ f)
