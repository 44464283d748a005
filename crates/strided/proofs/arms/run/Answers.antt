-- `strided::arms::run` meets its contract: after i turns the target is `stored`'s after i points.
use Rattle.std.specs.Prelude.{◌≡◌, ◌≤◌, ◌+◌, ◌*◌}
use Rattle.common.specs.Logic.{◌∙◌, sym, refl, true, arith, length, take, drop}
use mathlib.Core.Path.{subst₂}
use Rattle.common.proofs.Stores.{part_length}
use Rattle.datatype.specs.Datatype.{size_of}
use Rattle.datatype.specs.declared.datatype.Datatype.{Datatype}
use Rattle.attribute_conversion.specs.Attributes.{cast_bytes}
use Rattle.pairs.specs.Pairs.{pair_of, has_entry}
use Rattle.strided.specs.Steps.{stored}
use Rattle.strided.specs.Strided.{value_of}
use Rattle.strided.proofs.Runs.{same_code, room, cast-done, one_more}
use Rattle.strided.proofs.arms.run.Goals as goal

pub loop-i-init : goal.loop-i-init
unfolding stored
loop-i-init c = refl

pub loop-i-preserved : goal.loop-i-preserved
unfolding value_of
loop-i-preserved c =
    let k = c.args.cast in
    let src = c.args.source.now in
    let s = k.source.base + c.loop-i.i * k.source.stride in
    let from_is : c.with_code-from.result ≡ k.from = same_code k.from c.args.from c.with_code-from.ensures c.requires.0 in
    let to_is : c.with_code-to.result ≡ k.to = same_code k.to c.args.to c.with_code-to.ensures c.requires.1 in
    let source-room : s + c.size_of-length.result ≤ length src = room s (c.requires.2.source c.loop-i.i c.loop-i-test.true) c.with_code-from.ensures c.requires.0 c.size_of-length.ensures in
    let target_room : k.target.base + c.loop-i.i * k.target.stride + c.size_of-width.result ≤ length c.loop-i.target =
    omega (arith, c.loop-i.auto.target, room _ (c.requires.2.target c.loop-i.i c.loop-i-test.true) c.with_code-to.ensures c.requires.1 c.size_of-width.ensures) in
    let p : has_entry (pair_of c.with_code-from.result c.with_code-to.result) ≡ true = subst₂ (λ (x y : Datatype). has_entry (pair_of x y) ≡ true) (sym from_is) (sym to_is) c.requires.2.pair in
    let v = subst₂ (λ (x y : Datatype). c.cast_attribute_uncounted.new.target ≡ cast_bytes x y (take (size_of x) (drop s src))) from_is to_is
    (cast-done _ _ src _ c.cast_attribute_uncounted.new.target s _ _ _ c.size_of-length.ensures c.size_of-width.ensures source-room (part_length _ _ _ target_room) p c.cast_attribute_uncounted.ensures.answer c.cast_attribute_uncounted.ensures.bytes) in
    one_more k src c.args.target.now c.loop-i.target _ c.loop-i.i _ c.size_of-width.result refl c.loop-i.invariant target_room (c.cast_attribute_uncounted.auto.target ∙ part_length _ _ _ target_room) v
