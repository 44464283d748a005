-- `raw_attribute_view::RawAttributeView::read` meets its contract.
use Rattle.common.specs.Logic.{◌∙◌, sym, ap, refl, arith, rules}
use Rattle.common.specs.Refusal.{outcome_of}
use Rattle.raw_attribute_view.proofs.Parts.{found, passed, found_part}
use Rattle.raw_attribute_view.proofs.RawAttributeView.read.Goals as goal

pub returns-in_err-part : goal.returns-in_err-part
returns-in_err-part c =
    let h = passed _ _ _ _ _ (sym c.part.ensures ∙ ap outcome_of c.in_err-part.was) in
    record { answers = rw h (search rules); part = search rules }

pub overflow_add-result : goal.overflow_add-result
overflow_add-result c = let h = found _ _ _ _ _ (sym c.part.ensures ∙ ap outcome_of c.in_ok-part.was) in omega (arith, h.1, h.3)

pub slice_bounds-result-end : goal.slice_bounds-result-end
slice_bounds-result-end c = let h = found _ _ _ _ _ (sym c.part.ensures ∙ ap outcome_of c.in_ok-part.was) in omega (arith, h.1, h.3)

pub returns : goal.returns
returns c =
    let e = sym c.part.ensures ∙ ap outcome_of c.in_ok-part.was in
    record {
      answers = sym (found _ _ _ _ _ e).2;
      part = found_part c.args.self.shape.offset c.args.self.shape.stride c.args.self.shape.size c.args.i c.args.self.point_data _ e refl refl;
    }
