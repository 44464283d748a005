-- Between two layouts with the same attributes each plan copies every attribute, so that the second conversion undoes the first.
use Rattle.std.specs.Prelude.{◌≡◌, ◌<◌, ◌+◌}
use Rattle.common.specs.Logic.{◌∙◌, sym, List, ℕ, arith, length, get_or}
use Rattle.common.specs.Refusal.{got}
use Rattle.layout.specs.Layout.{Layout}
use Rattle.layout.proofs.Same.{Alike, alike-back, Same, same_back, compared_same, same-itself}
use Rattle.point_buffer.specs.Claims.{RangeOf}
use Rattle.point_buffer.specs.Places.{bytes_at, LiesAt, length_of}
use Rattle.point_buffer.specs.declared.PointRange.{PointRange}
use Rattle.plans.specs.Makers.{for_layouts}
use Rattle.plans.specs.Plan.{Plan}
use Rattle.plans.proofs.Accepted.{makers-claim}
use Rattle.plans.proofs.ByName.{by_name-claim}
use Rattle.plans.proofs.Copies.{plan-given, its-source}
use Rattle.buffer_conversion.specs.Claims.{IsMapped}
use Rattle.buffer_conversion.specs.Conversion.{convert_into_range}
use Rattle.buffer_conversion.proofs.Demand.{conversion-claim}
use Rattle.round_trip.specs.Claims.{Restored, RoundTripClaim, ItselfClaim}

-- ---- one way

-- each attribute of m has in the target the bytes that the same attribute of l has in the source; every other byte is kept
record Copied (l m : Layout) (src : List ℕ) (from : PointRange) (t : List ℕ) (to : PointRange) : Type 0 where
  plan : Plan
  plan-is : for_layouts l m ≡ got plan
  result : List ℕ
  done : convert_into_range plan src from t to ≡ got result
  same_length : length result ≡ length t
  bytes : (e i j : ℕ) → e < length_of to → Alike l m i j → bytes_at m to j (to.start + e) result ≡ bytes_at l from i (from.start + e) src
  kept :
      (y : ℕ) → ((e j : ℕ) → e < length_of to → j < length m.attributes → LiesAt m to j (to.start + e) y → ⊥)
      → get_or result y 0 ≡ get_or t y 0

copies : (l m : Layout) (src : List ℕ) (from : PointRange) (t : List ℕ) (to : PointRange) → Same l m
    → RangeOf l from src → RangeOf m to t → length_of from ≡ length_of to → Copied l m src from t to
copies l m src from t to s A B long =
    let g = plan-given l m s.one s.other s.among_one in
    let p : Plan = g.0 in
    let v = by_name-claim.mapped l m p g.1 in
    let o = makers-claim.all l m p g.1 in
    let c = conversion-claim p src from t to (record { sound = o; source = rw v.source A; target = rw v.target B; as_long = long }) in
    record {
      plan = p;
      plan-is = g.1;
      result = c.0;
      done = c.1.done;
      same_length = c.1.same_length;
      bytes = λ e i j h a.
          let k = a.other-listed in
          let its = its-source l m p s.one v i j a in
          let x : IsMapped p j i = record { by = j; listed = rw v.count k; target_is = v.in-turn j k; source_is = its } in
          rw (v.source, v.target) at (c.1.copied e j i h x (rw (v.source, v.target) a.datatype));
      kept = λ y out.
          c.1.kept y (λ e j i h x lies.
          let k : x.by < length m.attributes = rw v.count at x.listed in
          let n : x.by ≡ j = sym (v.in-turn x.by k) ∙ x.target_is in
          out e j h (rw (← n) k) (rw v.target at lies));
    }

-- ---- there and back

restored : (l k : Layout) (src : List ℕ) (from : PointRange) (mid : List ℕ) (via : PointRange) (t : List ℕ) (to : PointRange) → Same l k
    → RangeOf l from src → RangeOf k via mid → RangeOf l to t → length_of from ≡ length_of via → length_of via ≡ length_of to
    → Restored l k src from mid via t to
restored l k src from mid via t to s A B C there back =
    let g = copies l k src from mid via s A B there in
    let D : RangeOf k via g.result = record { long = g.same_length ∙ B.long; forward = B.forward; inside = B.inside } in
    let d = copies k l g.result via t to (same_back s) D C back in
    record {
      there = g.plan;
      back = d.plan;
      there-is = g.plan-is;
      back_is = d.plan-is;
      sent = g.result;
      returned = d.result;
      goes = g.done;
      comes = d.done;
      same_length = d.same_length;
      bytes = λ i j h listed.
          let x = s.among-other j listed in
          d.bytes i x.0 j (omega arith) x.1 ∙ g.bytes i j x.0 (omega arith) (alike-back x.1);
      kept = d.kept;
    }

pub round-trip-claim : RoundTripClaim
round-trip-claim l k src from mid via t to same = restored l k src from mid via t to (compared_same l k same)

pub itself-claim : ItselfClaim
itself-claim l src from mid via t to sound = restored l l src from mid via t to (same-itself l sound)
