-- `raw_point_converter::convert` meets its contract: after some turns the target is that of as many pairs.
use Rattle.std.specs.Prelude.{◌≡◌}
use Rattle.common.specs.Logic.{◌∙◌, sym, ap, subst, List, ℕ, arith, length}
use lib.Seq.{take-length}
use Rattle.common.specs.Lists.{first}
use Rattle.common.proofs.Lists.{first-take}
use Rattle.strided.specs.Steps.{no_cast, CastsFit}
use Rattle.strided.specs.Strided.{converted}
use Rattle.strided.specs.declared.StridedCast.{StridedCast}
use Rattle.strided.proofs.Several.{none_yet, next-cast}
use Rattle.raw_point_converter.proofs.convert.Goals as goal

-- all of a list are its first ones
all-first : (cs : List StridedCast) (k : ℕ) → k ≡ length cs → first no_cast cs k ≡ cs
all-first cs k e = ap (first no_cast cs) e ∙ first-take no_cast cs (length cs) (omega arith) ∙ take-length cs

pub loop-pair-init : goal.loop-pair-init
loop-pair-init c = none_yet _ _ _ _

pub loop-pair-preserved : goal.loop-pair-preserved
loop-pair-preserved c =
    let cs = c.args.pairs.now in
    next-cast cs (length cs) 1 _ _ c.loop-pair.pair-index (subst (λ (l : List StridedCast). CastsFit l 1 (length c.args.source.now) (length c.args.target.now)) (sym (all-first cs (length cs) (omega arith))) c.requires)
    c.loop-pair-test.true c.loop-pair.invariant c.cast_strided_uncounted.ensures.answer c.cast_strided_uncounted.ensures.bytes

pub returns : goal.returns
returns c = c.loop-pair.invariant ∙ ap (λ (l : List StridedCast). converted l c.args.source.now 1 c.args.target.now) (all-first c.args.pairs.now _ (omega (arith, c.loop-pair-test.false, c.loop-pair.auto.pair-index-end)))
