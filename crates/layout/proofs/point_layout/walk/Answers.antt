-- `layout::point_layout::walk` meets its contract. The invariant: what it says of the first i attributes.
use Rattle.std.specs.Prelude.{◌≡◌, ◌<◌, ◌+◌}
use Rattle.common.specs.Logic.{◌∙◌, sym, ap, refl, List, flat_map, ℕ, max, arith, length}
use Rattle.common.specs.Lists.{pairwise, greatest}
use Rattle.common.specs.Refusal.{Answer, answer, answered, or_else}
use Rattle.common.proofs.Lists.{flat_map-snoc, greatest-snoc}
use Rattle.common.proofs.Refusals.{answer-append, answered-and}
use Rattle.layout.specs.Layout.{Attribute, attribute_lines, end_of, disjoint, other_name}
use Rattle.layout.specs.Records.{attribute_of}
use Rattle.layout.specs.declared.point_layout.PointAttributeMember.{PointAttributeMember}
use Rattle.layout.proofs.Beside.{at, names-beside, ordered-more}
use Rattle.layout.proofs.Listed.{upto, upto_more, upto-all}
use Rattle.layout.proofs.point_layout.walk.Goals as goal

module _ (ms : List PointAttributeMember) (i : ℕ) (l : i < length ms) where
  definitions-more : {d t a : Answer} → d ≡ answer (flat_map attribute_lines (upto ms i)) → t ≡ answer (attribute_lines (at ms i)) → a ≡ or_else d t → a ≡ answer (flat_map attribute_lines (upto ms (i + 1)))
  definitions-more d t h =
      h ∙ rw (d, t) (sym (answer-append (flat_map attribute_lines (upto ms i)) (attribute_lines (at ms i)))) ∙ ap answer (sym (flat_map-snoc attribute_lines (upto ms i) (at ms i)) ∙ ap (flat_map attribute_lines) (sym (upto_more ms i l)))

  end_more : {e x a : ℕ} → e ≡ greatest end_of (upto ms i) → x ≡ end_of (at ms i) → a ≡ max e x → a ≡ greatest end_of (upto ms (i + 1))
  end_more e x h = h ∙ rw (e, x) (sym (greatest-snoc end_of (upto ms i) (at ms i))) ∙ ap (greatest end_of) (sym (upto_more ms i l))

pub loop-i-init : goal.loop-i-init
unfolding answer pairwise greatest flat_map
loop-i-init c = (refl, refl, λ t. refl, refl, omega arith)

pub loop-i-preserved : goal.loop-i-preserved
unfolding attribute_lines attribute_of
loop-i-preserved c =
    let ms = c.args.attributes.now in
    let i = c.loop-i.i in
    let l = c.loop-i-test.true in
    let v = c.loop-i.invariant in (
      definitions-more ms i l v.0 c.check_definition.ensures (ap answered c.and-definitions.ensures ∙ answered-and _ _),
      names-beside ms i l v.1 c.all_other_names-names.ensures refl,
      ordered-more ms i c.loop-i.end l v.2 v.3 refl,
      end_more ms i l v.3 c.end_of.ensures.0 c.max-end.ensures,
      omega (arith, v.4, c.end_of.ensures.1, c.max-end.ensures),
    )

pub returns : goal.returns
returns c =
    let e = upto-all c.args.attributes.now c.loop-i.i (omega (arith, c.loop-i-test.false, c.loop-i.auto.i-end)) in
    let v = c.loop-i.invariant in
    record {
      definitions = v.0 ∙ ap (λ (xs : List Attribute). answer (flat_map attribute_lines xs)) e;
      names = v.1 ∙ ap (pairwise other_name) e;
      ordered = λ t. ap (pairwise disjoint) (sym e) ∙ v.2 t;
      end = v.3 ∙ ap (greatest end_of) e;
      small = v.4;
    }
