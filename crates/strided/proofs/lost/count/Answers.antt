-- `strided::lost::count` meets its contract: after i turns it is the sum over the first i points.
use Rattle.std.specs.Prelude.{◌≡◌, ◌<◌, ◌+◌, ◌-◌, ◌*◌}
use Rattle.common.specs.Logic.{sym, refl, subst, cond, List, ℕ, arith, length, take, drop}
use mathlib.Core.Path.{subst₂}
use Rattle.datatype.specs.Datatype.{with_code, size_of}
use Rattle.datatype.specs.declared.datatype.Datatype.{Datatype}
use Rattle.attribute_conversion.specs.Attributes.{cast_fits}
use Rattle.attribute_conversion.specs.Lost.{lost_in}
use Rattle.strided.specs.Steps.{ReadFits}
use Rattle.strided.specs.Strided.{lost_points}
use Rattle.strided.specs.declared.StridedCast.{StridedCast}
use Rattle.strided.proofs.LostPoints.{lost-none, lost-next, lost-points-few}
use Rattle.strided.proofs.Runs.{same_code, room}
use Rattle.strided.proofs.lost.count.Goals as goal

-- the sum over one point more: the datatypes are the cast's, with their own codes written out
next :
    (k : StridedCast) (a b : ℕ) (src : List ℕ) (i : ℕ) {f t : Datatype} {n z l r : ℕ} → f ≡ with_code k.from a → t ≡ with_code k.to b → k.from.code ≡ a → k.to.code ≡ b → ReadFits k n (length src) → i < n → z ≡ size_of f → l ≡ lost_points k src i
    → (let s = k.source.base + i * k.source.stride in let word = take (s + z - s) (drop s src) in r ≡ cond (cast_fits f t (length word) (size_of t)) (lost_in f t word) 0)
    → l + r ≡ lost_points k src (i + 1)
next k a b src i {f} {t} {n} {z} {l} {r} F T A B R I Z L X =
    let from_is = same_code k.from a F A in
    let to_is = same_code k.to b T B in
    let s = k.source.base + i * k.source.stride in
    let word = take (s + z - s) (drop s src) in
    lost-next k src i R.pair L refl (subst (λ (x : Datatype). z ≡ size_of x) from_is Z) (room s (R.source i I) F A Z)
    (subst₂ (λ (x y : Datatype). r ≡ cond (cast_fits x y (length word) (size_of y)) (lost_in x y word) 0) from_is to_is X)

pub loop-i-init : goal.loop-i-init
loop-i-init c = sym (lost-none c.args.cast c.args.source.now)

pub overflow_add-lost : goal.overflow_add-lost
overflow_add-lost c =
    omega (
      arith,
      next c.args.cast _ _ c.args.source.now c.loop-i.i c.with_code-from.ensures c.with_code-to.ensures c.requires.0 c.requires.1 c.requires.2 c.loop-i-test.true c.size_of-size.ensures c.loop-i.invariant c.lost_attribute-lost.ensures,
      lost-points-few c.args.cast c.args.source.now (c.loop-i.i + 1),
      c.requires.2.few,
      c.loop-i-test.true,
    )

pub loop-i-preserved : goal.loop-i-preserved
loop-i-preserved c =
    next c.args.cast _ _ c.args.source.now c.loop-i.i c.with_code-from.ensures c.with_code-to.ensures c.requires.0 c.requires.1 c.requires.2 c.loop-i-test.true c.size_of-size.ensures c.loop-i.invariant c.lost_attribute-lost.ensures
