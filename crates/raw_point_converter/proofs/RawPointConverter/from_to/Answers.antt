-- `raw_point_converter::RawPointConverter::from_to` meets its contract. The invariant: the pairs of the source attributes passed.
use Rattle.std.specs.Prelude.{◌≡◌, ◌++◌, ◌+◌}
use Rattle.std.specs.Option.{option_to_list}
use Rattle.common.specs.Logic.{◌∙◌, sym, ap, subst, [], Option, append-nil, flat_map, ℕ, arith, length, get_or}
use Rattle.common.specs.Lists.{first}
use Rattle.common.proofs.Lists.{first-none, flat_map-snoc}
use Rattle.layout.specs.Records.{attribute_of, missing, listed, layout_of}
use Rattle.layout.specs.declared.point_layout.PointLayout.{PointLayout}
use Rattle.layout.proofs.Listed.{listed-none, listed_more}
use Rattle.layout.proofs.Soundness.{count-few, good-at}
use Rattle.strided.specs.Steps.{no_cast}
use Rattle.strided.specs.declared.StridedCast.{StridedCast}
use Rattle.raw_point_converter.specs.Pairs.{pair_for, pairs}
use Rattle.raw_point_converter.specs.Steps.{held, Holds}
use Rattle.raw_point_converter.specs.declared.RawPointConverter.{RawPointConverter}
use Rattle.raw_point_converter.proofs.RawPointConverter.from_to.Invariants.{passed}
use Rattle.raw_point_converter.proofs.RawPointConverter.from_to.Goals.{in-Some, in_default}
use Rattle.raw_point_converter.proofs.RawPointConverter.from_to.Goals as goal

holds-none : (l m : PointLayout) {d : RawPointConverter} → (d.count ≡ 0) × (length d.attribute_converters ≡ 32) → Holds (passed l m 0) 0 d
unfolding flat_map
holds-none l m {d} h =
    record {
      pairs = ap (first no_cast d.attribute_converters) h.0 ∙ first-none no_cast d.attribute_converters ∙ sym (ap (flat_map (pair_for (layout_of m).attributes)) (listed-none l.attributes));
      few = omega (arith, h.0);
      room = h.1;
    }

-- where there is no pair, the ones held stay
as-was : (d : RawPointConverter) → length d.attribute_converters ≡ 32 → Holds (held d ++ []) (d.count + 1) d
as-was d r = record { pairs = sym (append-nil (held d)); few = omega arith; room = r }

-- a turn: the pair of the next source attribute, if it has one, joins
holds_more : (l m : PointLayout) (i : ℕ) (o : Option StridedCast) {d r : RawPointConverter} → Holds (passed l m i) i d → option_to_list o ≡ pair_for (layout_of m).attributes (attribute_of (get_or l.attributes i missing))
    → Holds (held d ++ option_to_list o) (d.count + 1) r → Holds (passed l m (i + 1)) (i + 1) r
holds_more l m i o v e k =
    let more : passed l m (i + 1) ≡ passed l m i ++ pair_for (layout_of m).attributes (attribute_of (get_or l.attributes i missing)) =
    ap (flat_map (pair_for (layout_of m).attributes)) (listed_more l.attributes i) ∙ flat_map-snoc (pair_for (layout_of m).attributes) (listed l.attributes i) (attribute_of (get_or l.attributes i missing)) in
    record {
      pairs = k.pairs ∙ rw (v.pairs, e) (sym more);
      few = omega (arith, v.few, k.few);
      room = k.room;
    }

pub loop-i-init : goal.loop-i-init
loop-i-init c = holds-none c.args.from_layout.now c.args.to_layout.now c.empty-made.ensures

pub offset_bounds-from_layout-i : goal.offset_bounds-from_layout-i
offset_bounds-from_layout-i c = omega (arith, c.loop-i-test.true, count-few c.args.from_layout.now c.requires.0)

pub bounds-from_layout-i : goal.bounds-from_layout-i
bounds-from_layout-i c = omega (arith, c.loop-i-test.true, count-few c.args.from_layout.now c.requires.0)

pub pair_for-requires : goal.pair_for-requires
pair_for-requires c = (c.requires.1, good-at c.args.from_layout.now c.loop-i.i c.requires.0 c.loop-i-test.true)

pub push-requires : goal.push-requires
push-requires c = (omega (arith, c.loop-i-test.true, count-few c.args.from_layout.now c.requires.0, c.loop-i.invariant.few), c.loop-i.invariant.room)

pub loop-i-preserved : goal.loop-i-preserved
loop-i-preserved c =
    let joined : Holds (held c.loop-i.made ++ option_to_list c.pair_for.result) (c.loop-i.made.count + 1) c.match-pair_for.made = elim c.match-pair_for.branch [
      | in-Some w ↦ rw (w.made-is, w.in-Some.is) w.push.ensures
      | in_default w ↦ rw (w.made-is, w.in_default.is) (as-was c.loop-i.made c.loop-i.invariant.room)
    ] in
    holds_more c.args.from_layout.now c.args.to_layout.now c.loop-i.i c.pair_for.result c.loop-i.invariant c.pair_for.ensures joined

pub returns : goal.returns
unfolding pairs layout_of
returns c =
    let l = c.args.from_layout.now in
    let e : c.loop-i.i ≡ l.count = omega (arith, c.loop-i-test.false, c.loop-i.auto.i-end) in
    subst (λ (k : ℕ). Holds (passed l c.args.to_layout.now k) k c.loop-i.made) e c.loop-i.invariant
