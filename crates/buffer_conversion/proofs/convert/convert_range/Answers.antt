-- `buffer_conversion::convert::convert_range` meets its contract.
use Rattle.std.specs.Prelude.{◌≡◌, ◌≤◌}
use Rattle.common.specs.Logic.{◌∙◌, sym, ap, rules, refl, subst, true, false, Bool, List, ℕ, arith, length, take, get_or, replicate, length-take}
use Rattle.common.specs.Lists.{first}
use Rattle.common.specs.Refusal.{answer, answered, accepts, answer_of, left_by, Outcome, got, Answer}
use Rattle.common.specs.Refusal.{Accepted}
use Rattle.common.proofs.Lists.{first-take}
use Rattle.common.proofs.Refusals.{answer-refused, answer-got}
use Rattle.strided.proofs.AsWrites.{no-point}
use Rattle.strided.proofs.Several.{fit-fewer}
use Rattle.strided.specs.Steps.{no_cast, CastsFit}
use Rattle.strided.specs.Strided.{converted}
use Rattle.strided.specs.declared.StridedCast.{StridedCast}
use Rattle.point_buffer.specs.Places.{length_of}
use Rattle.point_buffer.specs.declared.PointRange.{PointRange}
use Rattle.buffer_conversion.specs.Casts.{casts, lost_before}
use Rattle.buffer_conversion.specs.Claims.{Checked}
use Rattle.buffer_conversion.specs.Conversion.{conversion_lines, convert_into_range}
use Rattle.buffer_conversion.specs.Lost.{converted_answer, lost_counts}
use Rattle.plans.specs.Records.{plan_of}
use Rattle.plans.specs.declared.plan.Plan.{Plan as PlanRecord}
use Rattle.plans.proofs.Facts.{plan-counts}
use Rattle.buffer_conversion.proofs.Casts.{casts-fit}
use Rattle.buffer_conversion.proofs.Checks.{unsound, sound-answer, checked, answer-is, bytes-accepted, bytes-refused}
use Rattle.buffer_conversion.proofs.LostCounts.{blocks-counted, none-counted, done-with, refused-with}
use Rattle.buffer_conversion.proofs.convert.convert_range.Goals as goal

module _ (p : PlanRecord) (src : List ℕ) (from : PointRange) (dst : List ℕ) (to : PointRange) where
  abbrev made : Outcome (List ℕ)
  made = convert_into_range (plan_of p) src from dst to

  -- by what the checks answer
  module _ {r : Answer} (told : r ≡ answer (conversion_lines (plan_of p) (length src) from (length dst) to)) where
    told-answer : r ≡ answer_of made
    told-answer = told ∙ answer-is (plan_of p) src from dst to

    told-refused : accepts r ≡ false → dst ≡ left_by dst made
    told-refused h = bytes-refused (plan_of p) src from dst to (ap accepts (sym told) ∙ h)

    module _ (h : r ≡ Accepted) where
      passed : Checked (plan_of p) src from dst to
      passed = checked (plan_of p) src from dst to (sym told ∙ h)

      made-got : (x : List ℕ) × (made ≡ got x)
      made-got = answer-got made told-answer h

      fit : CastsFit (casts (plan_of p) from to) (length_of to) (length src) (length dst)
      fit = casts-fit (plan_of p) src from dst to passed

      bytes-are : converted (casts (plan_of p) from to) src (length_of to) dst ≡ left_by dst made
      bytes-are = bytes-accepted (plan_of p) src from dst to (sym told ∙ h)

      none-bytes : length_of to ≡ 0 → dst ≡ left_by dst made
      none-bytes e =
          no-point (casts (plan_of p) from to) src (length_of to) dst (fit.disjoint src)
          ∙ ap (λ (m : ℕ). converted (casts (plan_of p) from to) src m dst) (sym e) ∙ bytes-are

      none-lost : length_of to ≡ 0 → ◌≡◌ {A = Outcome (List ℕ)} (got (replicate 32 0)) (converted_answer made (lost_counts (plan_of p) from src))
      none-lost e = ap got (none-counted (plan_of p) from to src (passed.as_long ∙ e)) ∙ done-with (lost_counts (plan_of p) from src) made-got.1

      blocks-lost : (cs : List StridedCast) (lost : List ℕ) → cs ≡ casts (plan_of p) from to → length lost ≡ 32 → ((j : ℕ) → get_or lost j 0 ≡ lost_before true cs src (length_of to) j)
          → ◌≡◌ {A = Outcome (List ℕ)} (got lost) (converted_answer made (lost_counts (plan_of p) from src))
      blocks-lost cs lost e n l = ap got (blocks-counted (plan_of p) from to src cs lost e passed.as_long n l) ∙ done-with (lost_counts (plan_of p) from src) made-got.1

-- the part of the list that is handed on
listed : (list : List StridedCast) (count : ℕ) {cs : List StridedCast} → length list ≡ 32 → count ≤ 32 → first no_cast list count ≡ cs → take count list ≡ cs
listed list count n l e = sym (first-take no_cast list count (omega arith)) ∙ e

pub returns-then-not-sound-clause-answer : goal.returns-then-not-sound-clause-answer
returns-then-not-sound-clause-answer g c =
    sym (unsound (plan_of c.args.plan) (length c.args.source.now) c.args.from (length c.args.target.now) c.args.to (sym c.sound.ensures ∙ c.if-not-sound.true)) ∙ answer-is (plan_of c.args.plan) c.args.source.now c.args.from c.args.target.now c.args.to

pub returns-then-not-sound-clause-lost : goal.returns-then-not-sound-clause-lost
returns-then-not-sound-clause-lost g c t =
    let k = sym (unsound (plan_of c.args.plan) (length c.args.source.now) c.args.from (length c.args.target.now) c.args.to (sym c.sound.ensures ∙ c.if-not-sound.true)) ∙ answer-is (plan_of c.args.plan) c.args.source.now c.args.from c.args.target.now c.args.to in
    refused-with (lost_counts (plan_of c.args.plan) c.args.from c.args.source.now) (answer-refused _ k refl)

pub returns-then-not-sound-clause-bytes : goal.returns-then-not-sound-clause-bytes
returns-then-not-sound-clause-bytes g c =
    told-refused c.args.plan c.args.source.now c.args.from c.args.target.now c.args.to
    (sym (unsound (plan_of c.args.plan) (length c.args.source.now) c.args.from (length c.args.target.now) c.args.to (sym c.sound.ensures ∙ c.if-not-sound.true))) refl

pub returns-in_err-check_buffers-clause-answer : goal.returns-in_err-check_buffers-clause-answer
returns-in_err-check_buffers-clause-answer g c =
    let told = sound-answer c.args.plan (length c.args.source.now) c.args.from (length c.args.target.now) c.args.to (sym c.sound.ensures ∙ c.if-not-sound.false) c.sizes_of-reads.ensures.point.0 c.sizes_of-writes.ensures.point.0 c.check_buffers.ensures in
    rw (← sym (ap answered c.in_err-check_buffers.was) ∙ told-answer c.args.plan c.args.source.now c.args.from c.args.target.now c.args.to told) (search rules)

pub returns-in_err-check_buffers-clause-lost : goal.returns-in_err-check_buffers-clause-lost
returns-in_err-check_buffers-clause-lost g c t =
    let told = sound-answer c.args.plan (length c.args.source.now) c.args.from (length c.args.target.now) c.args.to (sym c.sound.ensures ∙ c.if-not-sound.false) c.sizes_of-reads.ensures.point.0 c.sizes_of-writes.ensures.point.0 c.check_buffers.ensures in
    let k = told-answer c.args.plan c.args.source.now c.args.from c.args.target.now c.args.to told in
    rw (← refused-with (lost_counts (plan_of c.args.plan) c.args.from c.args.source.now) (answer-refused _ k (ap answered c.in_err-check_buffers.was))) (search rules)

pub returns-in_err-check_buffers-clause-bytes : goal.returns-in_err-check_buffers-clause-bytes
returns-in_err-check_buffers-clause-bytes g c =
    let told = sound-answer c.args.plan (length c.args.source.now) c.args.from (length c.args.target.now) c.args.to (sym c.sound.ensures ∙ c.if-not-sound.false) c.sizes_of-reads.ensures.point.0 c.sizes_of-writes.ensures.point.0 c.check_buffers.ensures in
    told-refused c.args.plan c.args.source.now c.args.from c.args.target.now c.args.to told (ap accepts (ap answered c.in_err-check_buffers.was))

pub overflow_sub-n : goal.overflow_sub-n
overflow_sub-n g c =
    let told = sound-answer c.args.plan (length c.args.source.now) c.args.from (length c.args.target.now) c.args.to (sym c.sound.ensures ∙ c.if-not-sound.false) c.sizes_of-reads.ensures.point.0 c.sizes_of-writes.ensures.point.0 c.check_buffers.ensures in
    (passed c.args.plan c.args.source.now c.args.from c.args.target.now c.args.to told (ap answered c.in_ok-check_buffers.was)).target.forward

pub returns-then-n-eq0-clause-answer : goal.returns-then-n-eq0-clause-answer
returns-then-n-eq0-clause-answer g c =
    let told = sound-answer c.args.plan (length c.args.source.now) c.args.from (length c.args.target.now) c.args.to (sym c.sound.ensures ∙ c.if-not-sound.false) c.sizes_of-reads.ensures.point.0 c.sizes_of-writes.ensures.point.0 c.check_buffers.ensures in
    sym (ap answered c.in_ok-check_buffers.was) ∙ told-answer c.args.plan c.args.source.now c.args.from c.args.target.now c.args.to told

pub returns-then-n-eq0-clause-lost : goal.returns-then-n-eq0-clause-lost
returns-then-n-eq0-clause-lost g c t =
    let told = sound-answer c.args.plan (length c.args.source.now) c.args.from (length c.args.target.now) c.args.to (sym c.sound.ensures ∙ c.if-not-sound.false) c.sizes_of-reads.ensures.point.0 c.sizes_of-writes.ensures.point.0 c.check_buffers.ensures in
    none-lost c.args.plan c.args.source.now c.args.from c.args.target.now c.args.to told (ap answered c.in_ok-check_buffers.was) c.if-n-eq0.true

pub returns-then-n-eq0-clause-bytes : goal.returns-then-n-eq0-clause-bytes
returns-then-n-eq0-clause-bytes g c =
    let told = sound-answer c.args.plan (length c.args.source.now) c.args.from (length c.args.target.now) c.args.to (sym c.sound.ensures ∙ c.if-not-sound.false) c.sizes_of-reads.ensures.point.0 c.sizes_of-writes.ensures.point.0 c.check_buffers.ensures in
    none-bytes c.args.plan c.args.source.now c.args.from c.args.target.now c.args.to told (ap answered c.in_ok-check_buffers.was) c.if-n-eq0.true

pub slice_bounds-list-end : goal.slice_bounds-list-end
slice_bounds-list-end g c = omega (arith, c.casts_of-list.ensures.0, (plan-counts c.args.plan (sym c.sound.ensures ∙ c.if-not-sound.false)).0)

pub slice_bounds-casts-end : goal.slice_bounds-casts-end
slice_bounds-casts-end g c =
    omega (arith, length-take c.args.plan.count c.casts_of-list.result, c.casts_of-list.ensures.0, (plan-counts c.args.plan (sym c.sound.ensures ∙ c.if-not-sound.false)).0)

pub convert_blocks-requires : goal.convert_blocks-requires
convert_blocks-requires g c =
    let few = (plan-counts c.args.plan (sym c.sound.ensures ∙ c.if-not-sound.false)).0 in
    let told = sound-answer c.args.plan (length c.args.source.now) c.args.from (length c.args.target.now) c.args.to (sym c.sound.ensures ∙ c.if-not-sound.false) c.sizes_of-reads.ensures.point.0 c.sizes_of-writes.ensures.point.0 c.check_buffers.ensures in (
      omega (arith, length-take c.args.plan.count c.casts_of-list.result, few),
      omega arith,
      fit-fewer _ _ (length_of c.args.to) _ _ (omega arith) (subst (λ (l : List StridedCast). CastsFit l (length_of c.args.to) (length c.args.source.now) (length c.args.target.now)) (sym (listed c.casts_of-list.result c.args.plan.count c.casts_of-list.ensures.0 few c.casts_of-list.ensures.1))
          (fit c.args.plan c.args.source.now c.args.from c.args.target.now c.args.to told (ap answered c.in_ok-check_buffers.was))),
    )

pub returns-clause-answer : goal.returns-clause-answer
returns-clause-answer g c =
    let told = sound-answer c.args.plan (length c.args.source.now) c.args.from (length c.args.target.now) c.args.to (sym c.sound.ensures ∙ c.if-not-sound.false) c.sizes_of-reads.ensures.point.0 c.sizes_of-writes.ensures.point.0 c.check_buffers.ensures in
    sym (ap answered c.in_ok-check_buffers.was) ∙ told-answer c.args.plan c.args.source.now c.args.from c.args.target.now c.args.to told

pub returns-clause-lost : goal.returns-clause-lost
returns-clause-lost g c t =
    let few = (plan-counts c.args.plan (sym c.sound.ensures ∙ c.if-not-sound.false)).0 in
    let told = sound-answer c.args.plan (length c.args.source.now) c.args.from (length c.args.target.now) c.args.to (sym c.sound.ensures ∙ c.if-not-sound.false) c.sizes_of-reads.ensures.point.0 c.sizes_of-writes.ensures.point.0 c.check_buffers.ensures in
    let cs = take c.args.plan.count c.casts_of-list.result in
    blocks-lost c.args.plan c.args.source.now c.args.from c.args.target.now c.args.to told (ap answered c.in_ok-check_buffers.was) cs c.convert_blocks.result
    (listed c.casts_of-list.result c.args.plan.count c.casts_of-list.ensures.0 few c.casts_of-list.ensures.1) c.convert_blocks.ensures.lost.0
    (λ j. c.convert_blocks.ensures.lost.1 j ∙ ap (λ (b : Bool). lost_before b cs c.args.source.now (length_of c.args.to) j) t)

pub returns-clause-bytes : goal.returns-clause-bytes
returns-clause-bytes g c =
    let few = (plan-counts c.args.plan (sym c.sound.ensures ∙ c.if-not-sound.false)).0 in
    let told = sound-answer c.args.plan (length c.args.source.now) c.args.from (length c.args.target.now) c.args.to (sym c.sound.ensures ∙ c.if-not-sound.false) c.sizes_of-reads.ensures.point.0 c.sizes_of-writes.ensures.point.0 c.check_buffers.ensures in
    c.convert_blocks.ensures.bytes
    ∙ ap (λ (x : List StridedCast). converted x c.args.source.now (length_of c.args.to) c.args.target.now) (listed c.casts_of-list.result c.args.plan.count c.casts_of-list.ensures.0 few c.casts_of-list.ensures.1)
    ∙ bytes-are c.args.plan c.args.source.now c.args.from c.args.target.now c.args.to told (ap answered c.in_ok-check_buffers.was)
