-- `attribute_conversion::attribute::lost_attribute` meets its contract: by codes, where the size is right and the pair has an entry.
use Rattle.common.specs.Logic.{◌∙◌, sym, ap, refl, Bool, cond}
use Rattle.attribute_conversion.specs.Lost.{lost_in}
use Rattle.attribute_conversion.proofs.Lost.{fits-lost}
use Rattle.attribute_conversion.proofs.Sizes.{by-entry, fits-codes}
use Rattle.attribute_conversion.proofs.attribute.lost_attribute.Goals as goal

pub lost_by_codes-requires : goal.lost_by_codes-requires
lost_by_codes-requires c = (fits-codes c.args.from c.args.to _ _ (sym (by-entry c.args.from c.args.to _ _ (c.if-source-size_of.true ∙ c.size_of.ensures) refl) ∙ sym c.has_entry.ensures ∙ c.if-has_entry.true)).source

pub returns-then-has_entry : goal.returns-then-has_entry
returns-then-has_entry c =
    let fit = sym (by-entry c.args.from c.args.to _ _ (c.if-source-size_of.true ∙ c.size_of.ensures) refl) ∙ sym c.has_entry.ensures ∙ c.if-has_entry.true in
    c.lost_by_codes.ensures ∙ fits-lost c.args.from c.args.to _ _ fit c.args.source.now
    ∙ ap (λ (b : Bool). cond b (lost_in c.args.from c.args.to c.args.source.now) 0) (sym fit)
