-- `buffer_conversion::convert::convert_blocks` meets its contract: after d points the target is as all casts leave it over d points, and after k
-- turns within a block as the first k casts leave it over the block; so too what is lost. One cast passes over all points at once.
use Rattle.std.specs.Prelude.{◌≡◌, ◌≤◌, ◌<◌, ◌+◌, ◌-◌}
use Rattle.common.specs.Logic.{◌∙◌, sym, ap, refl, subst, Bool, cond, List, map, min, ℕ, arith, length, length-set}
use Rattle.common.specs.Lists.{first}
use Rattle.common.proofs.Lists.{first-take}
use Rattle.std.proofs.lemmas.List.{take_all}
use Rattle.strided.specs.Steps.{no_cast, CastsFit}
use Rattle.strided.specs.Strided.{converted, lost_points, points_from, strided_fits}
use Rattle.strided.specs.declared.StridedCast.{StridedCast}
use Rattle.strided.proofs.AsWrites.{no-cast, no-point, length-converted}
use Rattle.strided.proofs.Several.{fit-fewer, fits-at}
use Rattle.buffer_conversion.specs.Casts.{lost_before}
use Rattle.buffer_conversion.proofs.Lists.{fits-later, next-cast, next-block}
use Rattle.buffer_conversion.proofs.LostCounts.{counts, zeros-at, none_before, before-few, whole-lost, within-start, within_end, turn_is, within-turn}
use Rattle.buffer_conversion.proofs.convert.convert_blocks.Goals as goal

-- what fits n points fits fewer, whatever has the target's length
shorter : (cs : List StridedCast) (m n a b t : ℕ) → t ≡ b → m ≤ n → CastsFit cs n a b → CastsFit cs m a t
shorter cs m n a b t e l F = subst (CastsFit cs m a) (sym e) (fit-fewer cs m n a b l F)

-- what a cast of a block lost is what the cast from the block's first point on loses
lost-here : (counted : Bool) (src : List ℕ) (m : ℕ) {x y : StridedCast} {r : ℕ} → r ≡ cond counted (lost_points x src m) 0 → x ≡ y → r ≡ cond counted (lost_points y src m) 0
lost-here counted src m e h = e ∙ ap (λ (x : StridedCast). cond counted (lost_points x src m) 0) h

-- all casts have passed over a block: what they leave, by the points before it and those of the block
first-all : (cs : List StridedCast) (k : ℕ) → k ≡ length cs → first no_cast cs k ≡ cs
first-all cs k e = first-take no_cast cs k (omega arith) ∙ take_all k cs (omega arith)

block-done : (cs : List StridedCast) (src t now exit : List ℕ) (n d m k : ℕ) → CastsFit cs n (length src) (length t) → k ≡ length cs → d < n → m ≡ min (n - d) 256
    → now ≡ converted cs src (min d n) t → exit ≡ converted (map (points_from d) (first no_cast cs k)) src m now → exit ≡ converted cs src (d + m) t
block-done cs src t now exit n d m k F e h b a g =
    let z : min d n ≡ d = omega arith in
    next-block cs src t now exit d m n F (omega arith) (a ∙ ap (λ (x : ℕ). converted cs src x t) z) (g ∙ ap (λ (xs : List StridedCast). converted (map (points_from d) xs) src m now) (first-all cs k e))

pub cast_points-requires : goal.cast_points-requires
cast_points-requires g c = (c.requires.1, sym (fits-at c.args.casts.now c.args.n _ _ c.requires.2 0 (omega (arith, c.if-casts-eq1.true))))

pub returns-then-casts-eq1-clause-lost : goal.returns-then-casts-eq1-clause-lost
returns-then-casts-eq1-clause-lost g c = (refl, whole-lost (counts g.row.COUNTED) c.args.casts.now c.args.source.now c.args.n c.if-casts-eq1.true c.cast_points.ensures.lost)

pub loop-d-init : goal.loop-d-init
loop-d-init g c =
    let z : min 0 c.args.n ≡ 0 = omega arith in
    rw z (refl, no-point c.args.casts.now c.args.source.now c.args.n c.args.target.now (c.requires.2.disjoint c.args.source.now), refl, λ j. zeros-at j ∙ sym (none_before (counts g.row.COUNTED) c.args.casts.now c.args.source.now j))

pub loop-k-init : goal.loop-k-init
unfolding first
loop-k-init g c =
    let z : min c.loop-d.d c.args.n ≡ c.loop-d.d = omega (arith, c.loop-d-test.true) in (
      refl,
      no-cast c.args.source.now c.least-m.result c.loop-d.target,
      c.loop-d.invariant.2,
      λ j. c.loop-d.invariant.3 j ∙ rw z (within-start (counts g.row.COUNTED) c.args.casts.now c.args.source.now c.loop-d.d c.least-m.result j),
    )

pub cast_points-requires-in-loop-k : goal.cast_points-requires-in-loop-k
cast_points-requires-in-loop-k g c =
    let fit = shorter c.args.casts.now (c.loop-d.d + c.least-m.result) c.args.n (length c.args.source.now) (length c.args.target.now) (length c.loop-d.target) c.loop-d.invariant.0 (omega (arith, c.least-m.ensures, c.loop-d-test.true)) c.requires.2 in (
      omega (arith, c.least-m.ensures),
      ap (strided_fits c.points_from.result c.least-m.result (length c.args.source.now)) c.loop-k.invariant.0
          ∙ fits-later c.args.casts.now c.loop-d.d c.least-m.result (length c.args.source.now) (length c.loop-d.target) c.loop-k.k c.points_from.result fit c.loop-k-test.true c.points_from.ensures,
    )

pub overflow_add-lost : goal.overflow_add-lost
overflow_add-lost g c =
    omega (
      arith,
      turn_is (counts g.row.COUNTED) c.args.casts.now c.args.source.now c.loop-d.d c.least-m.result c.loop-k.k c.loop-k.lost (omega (arith, c.requires.0, c.loop-k-test.true, c.loop-k.invariant.2)) c.loop-k.invariant.3 c.loop-k-test.true (lost-here (counts g.row.COUNTED) c.args.source.now c.least-m.result c.cast_points-in-loop-k.ensures.lost c.points_from.ensures),
      before-few (counts g.row.COUNTED) c.args.casts.now c.args.source.now (c.loop-d.d + c.least-m.result) c.loop-k.k,
      c.least-m.ensures,
      c.loop-d-test.true,
      c.requires.1,
    )

pub loop-k-preserved : goal.loop-k-preserved
loop-k-preserved g c =
    let fit = shorter c.args.casts.now (c.loop-d.d + c.least-m.result) c.args.n (length c.args.source.now) (length c.args.target.now) (length c.loop-d.target) c.loop-d.invariant.0 (omega (arith, c.least-m.ensures, c.loop-d-test.true)) c.requires.2 in
    let fits = ap (strided_fits c.points_from.result c.least-m.result (length c.args.source.now)) c.loop-k.invariant.0
    ∙ fits-later c.args.casts.now c.loop-d.d c.least-m.result (length c.args.source.now) (length c.loop-d.target) c.loop-k.k c.points_from.result fit c.loop-k-test.true c.points_from.ensures in
    let next = next-cast c.args.casts.now c.loop-d.d c.least-m.result c.args.source.now c.loop-d.target c.loop-k.target c.cast_points-in-loop-k.new.target c.loop-k.k c.points_from.result
    fit c.loop-k-test.true c.loop-k.invariant.1 c.points_from.ensures fits c.cast_points-in-loop-k.ensures.bytes in (
      ap length next ∙ length-converted _ c.args.source.now _ c.loop-d.target,
      next,
      length-set c.loop-k.lost c.loop-k.k _ ∙ c.loop-k.invariant.2,
      within-turn (counts g.row.COUNTED) c.args.casts.now c.args.source.now c.loop-d.d c.least-m.result c.loop-k.k c.loop-k.lost (omega (arith, c.requires.0, c.loop-k-test.true, c.loop-k.invariant.2)) c.loop-k.invariant.3 c.loop-k-test.true (lost-here (counts g.row.COUNTED) c.args.source.now c.least-m.result c.cast_points-in-loop-k.ensures.lost c.points_from.ensures),
    )

pub loop-d-preserved : goal.loop-d-preserved
loop-d-preserved g c =
    let e : c.loop-k.k ≡ length c.args.casts.now = omega (arith, c.loop-k-test.false, c.loop-k.auto.k-end) in
    let q : min (c.loop-d.d + 256) c.args.n ≡ c.loop-d.d + c.least-m.result = omega (arith, c.least-m.ensures, c.loop-d-test.true) in (
      c.loop-k.invariant.0 ∙ c.loop-d.invariant.0,
      rw q (block-done c.args.casts.now c.args.source.now c.args.target.now c.loop-d.target c.loop-k.target c.args.n c.loop-d.d c.least-m.result c.loop-k.k c.requires.2 e c.loop-d-test.true c.least-m.ensures c.loop-d.invariant.1 c.loop-k.invariant.1),
      c.loop-k.invariant.2,
      λ j. rw q (c.loop-k.invariant.3 j ∙ within_end (counts g.row.COUNTED) c.args.casts.now c.args.source.now c.loop-d.d c.least-m.result c.loop-k.k j e),
    )

pub returns-else-casts-eq1-2-clause-lost : goal.returns-else-casts-eq1-2-clause-lost
returns-else-casts-eq1-2-clause-lost g c =
    let e : c.loop-k.k ≡ length c.args.casts.now = omega (arith, c.loop-k-test.false, c.loop-k.auto.k-end) in
    let q : c.loop-d.d + c.least-m.result ≡ c.args.n = omega (arith, c.least-m.ensures, c.loop-d-test.true) in (
      c.loop-k.invariant.2,
      λ j. c.loop-k.invariant.3 j ∙ within_end (counts g.row.COUNTED) c.args.casts.now c.args.source.now c.loop-d.d c.least-m.result c.loop-k.k j e
          ∙ ap (λ (x : ℕ). lost_before (counts g.row.COUNTED) c.args.casts.now c.args.source.now x j) q,
    )

pub returns-else-casts-eq1-2-clause-bytes : goal.returns-else-casts-eq1-2-clause-bytes
returns-else-casts-eq1-2-clause-bytes g c =
    let e : c.loop-k.k ≡ length c.args.casts.now = omega (arith, c.loop-k-test.false, c.loop-k.auto.k-end) in
    let q : c.loop-d.d + c.least-m.result ≡ c.args.n = omega (arith, c.least-m.ensures, c.loop-d-test.true) in
    block-done c.args.casts.now c.args.source.now c.args.target.now c.loop-d.target c.loop-k.target c.args.n c.loop-d.d c.least-m.result c.loop-k.k c.requires.2 e c.loop-d-test.true c.least-m.ensures c.loop-d.invariant.1 c.loop-k.invariant.1
    ∙ ap (λ (x : ℕ). converted c.args.casts.now c.args.source.now x c.args.target.now) q
