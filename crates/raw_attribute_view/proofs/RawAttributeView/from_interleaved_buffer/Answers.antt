-- `raw_attribute_view::RawAttributeView::from_interleaved_buffer` meets its contract.
use Rattle.common.specs.Logic.{◌∙◌, sym, ap, refl, length, rules}
use Rattle.common.specs.Refusal.{outcome_of}
use Rattle.layout.specs.Records.{layout_of}
use Rattle.raw_attribute_view.proofs.Points.{fields-accepted, fields-refused}
use Rattle.raw_attribute_view.proofs.RawAttributeView.from_interleaved_buffer.Goals as goal

pub returns-in_err-shape : goal.returns-in_err-shape
returns-in_err-shape c =
    let h = fields-refused (layout_of c.args.layout) c.args.place c.args.count (length c.args.point_data.now) (sym c.of_attribute.ensures ∙ ap outcome_of c.in_err-shape.was) in
    record { answers = rw h (search rules); view = search rules }

pub returns : goal.returns
returns c =
    let e = sym c.of_attribute.ensures ∙ ap outcome_of c.in_ok-shape.was in
    record {
      answers = sym (fields-accepted (layout_of c.args.layout) c.args.place c.args.count (length c.args.point_data.now) e);
      view = record { bytes = refl; lies = refl; shape = e };
    }
