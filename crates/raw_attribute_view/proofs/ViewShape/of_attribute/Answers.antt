-- `raw_attribute_view::ViewShape::of_attribute` meets its contract: line by line.
use Rattle.common.specs.Logic.{◌∙◌, sym, arith, lt-ltb, le-ltb, eq-eqb, ne_eqb}
use Rattle.common.specs.Refusal.{answer, check, outcome}
use Rattle.layout.specs.Layout.{absent}
use Rattle.layout.specs.Records.{definition_of, attribute_of, layout_of}
use Rattle.layout.proofs.Listed.{length-listed, listed_at}
use Rattle.layout.proofs.Soundness.{count-few}
use Rattle.raw_attribute_view.specs.View.{view_lines, fields_of}
use Rattle.raw_attribute_view.proofs.ViewShape.of_attribute.Goals as goal

pub returns-then-layout-place : goal.returns-then-layout-place
unfolding fields_of view_lines answer check outcome layout_of
returns-then-layout-place c = rw (sym c.sound.ensures ∙ c.if-not-sound.false, length-listed c.args.layout.attributes c.args.layout.count, le-ltb _ _ c.if-layout-place.true)

pub returns-then-point_data-count : goal.returns-then-point_data-count
unfolding fields_of view_lines answer check outcome layout_of
returns-then-point_data-count c =
    rw (sym c.sound.ensures ∙ c.if-not-sound.false, length-listed c.args.layout.attributes c.args.layout.count, lt-ltb _ _ c.if-layout-place.false, ne_eqb _ _ c.if-point_data-count.true)

pub bounds-layout-place : goal.bounds-layout-place
bounds-layout-place c = let h = count-few c.args.layout (sym c.sound.ensures ∙ c.if-not-sound.false) in omega (arith, c.if-layout-place.false)

pub returns : goal.returns
unfolding fields_of view_lines answer check outcome layout_of attribute_of definition_of
returns c =
    rw (
      c.size_of.ensures,
      sym c.sound.ensures ∙ c.if-not-sound.false,
      length-listed c.args.layout.attributes c.args.layout.count,
      lt-ltb _ _ c.if-layout-place.false,
      eq-eqb _ _ c.if-point_data-count.false,
      listed_at c.args.layout.attributes c.args.place c.args.layout.count absent c.if-layout-place.false,
    )
