-- `layout::point_layout::place` meets its contract. An end is below 2 ^ 17, so that the next start fits.
use Rattle.common.specs.Logic.{◌∙◌, arith}
use Rattle.datatype.proofs.Alignment.{align-le}
use Rattle.layout.specs.Records.{layout_of}
use Rattle.layout.proofs.point_layout.place.Goals as goal

pub overflow_cast-start : goal.overflow_cast-start
unfolding layout_of
overflow_cast-start c = omega (arith, c.align_to-start.ensures, align-le c.last_end-last.result c.field_alignment-field.result)

pub overflow_add-end : goal.overflow_add-end
unfolding layout_of
overflow_add-end c = omega (arith, c.align_to-start.ensures, align-le c.last_end-last.result c.field_alignment-field.result)

pub returns : goal.returns
unfolding layout_of
returns c =
    record {
      start = c.align_to-start.ensures ∙ rw (c.last_end-last.ensures.0, c.first_of.ensures, c.field_alignment-field.ensures, c.align_of-natural.ensures);
      end = rw c.size_of.ensures;
      alignment = c.layout_alignment-whole.ensures ∙ rw c.align_of-natural.ensures;
      size = c.align_to-size.ensures ∙ rw c.max.ensures;
    }
