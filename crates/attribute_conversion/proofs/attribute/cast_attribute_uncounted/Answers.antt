-- `attribute_conversion::attribute::cast_attribute_uncounted` meets its contract: cast where it fits, else as it was.
use Rattle.common.specs.Logic.{◌∙◌, sym}
use Rattle.attribute_conversion.proofs.Sizes.{fits-codes, fits-bytes}
use Rattle.attribute_conversion.proofs.attribute.cast_attribute_uncounted.Goals as goal

pub cast_into-requires : goal.cast_into-requires
cast_into-requires c = fits-codes c.args.from c.args.to _ _ (sym c.fits-fit.ensures ∙ c.if-fit.true)

pub returns-then-fit-clause-bytes : goal.returns-then-fit-clause-bytes
returns-then-fit-clause-bytes c = rw c.if-fit.true (c.cast_into.ensures ∙ fits-bytes c.args.from c.args.to _ _ (sym c.fits-fit.ensures ∙ c.if-fit.true) c.args.source.now)
