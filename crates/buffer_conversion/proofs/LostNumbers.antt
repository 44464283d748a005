-- Document 02, point 8: the number that is reported, and the components of the target that it counts.
use Rattle.std.specs.Prelude.{◌≡◌, ◌<◌, ◌+◌}
use Rattle.common.specs.Logic.{◌∙◌, sym, ap, refl, true, List, [], ℕ, arith, length}
use Rattle.common.specs.Lists.{sum_below, sum}
use Rattle.common.specs.Refusal.{got, left_by}
use Rattle.common.proofs.Sums.{sum_same, sum-zero}
use Rattle.attribute_conversion.specs.Claims.{differing}
use Rattle.attribute_conversion.proofs.Differing.{lost-in-claim}
use Rattle.datatype.specs.Datatype.{same_datatype}
use Rattle.plans.specs.Claims.{mapping_at}
use Rattle.plans.specs.Plan.{Plan}
use Rattle.plans.specs.declared.plan.Mapping.{Mapping}
use Rattle.plans.proofs.Facts.{sound-facts}
use Rattle.plans.proofs.Mappings.{plan-has, few-mappings}
use Rattle.point_buffer.specs.Places.{datatype_at, bytes_at, length_of}
use Rattle.point_buffer.specs.declared.PointRange.{PointRange}
use Rattle.buffer_conversion.specs.Claims.{Checked, differing_at_point, LostClaim}
use Rattle.buffer_conversion.specs.Conversion.{convert_into_range}
use Rattle.buffer_conversion.specs.Lost.{lost_at_point, lost_of, lost_over, lost_counts, converted_answer}
use Rattle.buffer_conversion.proofs.Checks.{checked-claim}
use Rattle.buffer_conversion.proofs.Demand.{source-long, conversion-claim}
use Rattle.buffer_conversion.proofs.LostCounts.{counts-sum, done-with}

module _ (p : Plan) (src : List ℕ) (from : PointRange) (t : List ℕ) (to : PointRange) where
  summed : Checked p src from t to → (counts : List ℕ) × (converted_answer (convert_into_range p src from t to) (lost_counts p from src) ≡ got counts) × (sum counts ≡ lost_over p from src)
  summed C =
      (lost_counts p from src, sym (done-with (lost_counts p from src) (conversion-claim p src from t to C).1.done), counts-sum p from to src (few-mappings p (plan-has p C.sound)))

  module _ (C : Checked p src from t to) (k : ℕ) (h : k < length p.mappings) where
    abbrev result : List ℕ
    result = (conversion-claim p src from t to C).0

    point-differs : (i : ℕ) → i < length_of from → lost_at_point p from src (mapping_at p k) i ≡ differing_at_point p src from result to (mapping_at p k) i
    unfolding lost_at_point differing_at_point
    point-differs i l =
        let x = mapping_at p k in
        let a = datatype_at p.source x.source in
        let b = datatype_at p.target x.target in
        let s = bytes_at p.source from x.source (from.start + i) src in
        let m : i < length_of to = omega (arith, C.as_long) in
        lost-in-claim.differing a b s ((sound-facts p C.sound).pair k h) (source-long p src from t to C k h i m)
        ∙ ap (differing a b s) (sym ((conversion-claim p src from t to C).1.cast i x.target x.source m (record { by = k; listed = h; target_is = refl; source_is = refl })))

    mapping-differs : lost_of p from src (mapping_at p k) ≡ sum_below (differing_at_point p src from result to (mapping_at p k)) (length_of to)
    unfolding lost_of
    mapping-differs =
        sum_same (lost_at_point p from src (mapping_at p k)) (differing_at_point p src from result to (mapping_at p k)) (length_of from) point-differs
        ∙ ap (sum_below (differing_at_point p src from result to (mapping_at p k))) C.as_long

  -- the target that the call gives is the one of the claim
  the_result : (C : Checked p src from t to) (r : List ℕ) → convert_into_range p src from t to ≡ got r → (conversion-claim p src from t to C).0 ≡ r
  unfolding left_by
  the_result C r e = ap (left_by []) (sym (conversion-claim p src from t to C).1.done ∙ e)

copy-loses-none : (p : Plan) (src : List ℕ) (from : PointRange) (x : Mapping) → same_datatype (datatype_at p.source x.source) (datatype_at p.target x.target) ≡ true → lost_of p from src x ≡ 0
unfolding lost_of lost_at_point
copy-loses-none p src from x e = sum-zero (lost_at_point p from src x) (length_of from) (λ i. lost-in-claim.copied _ _ _ e)

pub lost-claim : LostClaim
lost-claim =
    record {
      reported = λ p src from t to C. sym (done-with (lost_over p from src) (conversion-claim p src from t to C).1.done);
      summed = summed;
      differ = λ p src from t to r e k h.
          let C = checked-claim p src from t to r e in
          mapping-differs p src from t to C k h
          ∙ ap (λ (u : List ℕ). sum_below (differing_at_point p src from u to (mapping_at p k)) (length_of to)) (the_result p src from t to C r e);
      copied = copy-loses-none;
    }
