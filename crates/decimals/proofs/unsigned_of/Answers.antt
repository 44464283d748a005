-- `decimals::unsigned_of` meets its contract: the text is parted at its first point.
use Rattle.std.proofs.Common.{rules, tests}
use Rattle.std.proofs.lemmas.Iterator.{YieldsList-from_slice}
use Rattle.std.proofs.lemmas.Iterator.Search.{position_from_yields_List}
use Rattle.common.specs.Logic.{◌∙◌, ltb-false}
use Rattle.decimals.specs.Decimals.{is_point}
use Rattle.decimals.proofs.Texts.{point_at, stands, nowhere, unsigned-parts, unsigned-whole}
use Rattle.decimals.proofs.unsigned_of.Goals as goal

pub returns-in-Some : goal.returns-in-Some
returns-in-Some c =
    let t = c.args.text.now in
    let p = position_from_yields_List is_point _ _ _ c.in-Some.ensures.ran (YieldsList-from_slice t cc) (λ x b q k. search (rules, tests)) in
    c.decimal_by.ensures ∙ unsigned-parts _ _ _ (stands _ _ _ p ∙ point_at t)

pub returns-in-None : goal.returns-in-None
returns-in-None c =
    let t = c.args.text.now in
    let p = position_from_yields_List is_point _ _ _ c.in-None.ensures.ran (YieldsList-from_slice t cc) (λ x b q k. search (rules, tests)) in
    c.decimal_by-in-None.ensures ∙ unsigned-whole _ _ _ (point_at t) (ltb-false _ _ (nowhere _ _ p))
