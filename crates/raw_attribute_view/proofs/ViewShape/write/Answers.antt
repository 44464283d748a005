-- `raw_attribute_view::ViewShape::write` meets its contract.
use Rattle.common.specs.Logic.{◌∙◌, sym, ap, arith, rules}
use Rattle.common.specs.Refusal.{outcome_of}
use Rattle.raw_attribute_view.proofs.Parts.{found, found-written, none_written}
use Rattle.raw_attribute_view.proofs.ViewShape.write.Goals as goal

pub returns-in_err-part : goal.returns-in_err-part
returns-in_err-part c =
    let h = none_written c.args.self.offset c.args.self.stride c.args.self.size c.args.i c.args.point_data.now c.args.value.now (sym c.part.ensures ∙ ap outcome_of c.in_err-part.was) in
    record { answer = rw (← h.0) (search rules); bytes = h.1 }

pub overflow_add-part : goal.overflow_add-part
overflow_add-part c = let h = found _ _ _ _ _ (sym c.part.ensures ∙ ap outcome_of c.in_ok-part.was) in omega (arith, h.1, h.3)

pub slice_bounds-fill-end : goal.slice_bounds-fill-end
slice_bounds-fill-end c = let h = found _ _ _ _ _ (sym c.part.ensures ∙ ap outcome_of c.in_ok-part.was) in omega (arith, h.1, h.3)

pub returns : goal.returns
returns c =
    let h = found-written c.args.self.offset c.args.self.stride c.args.self.size c.args.i c.args.point_data.now c.args.value.now (sym c.part.ensures ∙ ap outcome_of c.in_ok-part.was) c.fill.ensures in
    record { answer = h.0; bytes = h.1 }
