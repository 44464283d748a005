-- The proofs of the claims on points and on one block.
use Rattle.std.specs.Prelude.{◌≡◌, ◌*◌, ◌/◌}
use Rattle.common.specs.Logic.{◌∙◌, sym, ap, refl, subst, true, Bool, false, cond, List, None, Some, ℕ, suc, zero, max, min-eq_left, zero-add, mul-zero, arith, eqb-true, eqb, length, get_or, length-replicate}
use native.Mathlib.Nat.{mul-div_left}
use Rattle.buffer_conversion.specs.Claims.{Checked}
use Rattle.buffer_conversion.proofs.Demand.{conversion-claim}
use Rattle.plans.specs.Plan.{Plan, is_sound_plan}
use Rattle.point_buffer.specs.Places.{point_bytes, LiesAt}
use Rattle.point_buffer.specs.declared.Storage.{Storage}
use Rattle.point_buffer.proofs.Apart.{sum-within, point-small}
use Rattle.point_blocks.specs.Blocks.{points_in, point_size_of, points_per_block, zeros, whole}
use Rattle.point_blocks.specs.Claims.{PointsClaim, PerBlockClaim, PointSizeClaim, BlockClaim}
use Rattle.point_blocks.proofs.FilePoints.{whole-points, some-points, fits_by}

-- ---- the points of a file

counted : (b : Bool) (m n : ℕ) → cond b (Some m) None ≡ Some n → (b ≡ true) × (m ≡ n)
counted true m n h = (refl, (cc))
counted false m n h = absurd (let z : ◌≡◌ {A = ℕ} 0 1 = cc in omega arith)

whole-claimed : (l s n : ℕ) → points_in l s ≡ Some n → n * s ≡ l
unfolding points_in
whole-claimed l s n h = let c = counted (eqb (l / s * s) l) (l / s) n h in ap (λ (m : ℕ). m * s) (sym c.1) ∙ eqb-true (l / s * s) l c.0

-- a product is its own quotient's
divided : (n s : ℕ) → n * s / s * s ≡ n * s
divided n zero = mul-zero (n * 0 / 0) ∙ sym (mul-zero n)
divided n (suc s) = ap (λ (m : ℕ). m * suc s) (mul-div_left n (omega arith))

broken-claimed : (l s n : ℕ) → points_in l s ≡ None → n * s ≡ l → ⊥
broken-claimed l s n h e =
    let w = whole-points l s (subst (λ (m : ℕ). m / s * s ≡ m) e (divided n s)) in
    let z : ◌≡◌ {A = ℕ} 0 1 = cc in omega arith

pub points-claim : PointsClaim
points-claim = record { whole = whole-claimed; broken = broken-claimed }

-- ---- the points of a block

pub per-block-claim : (s t : ℕ) → PerBlockClaim s t
unfolding points_per_block
per-block-claim s t =
    record {
      some = some-points s t;
      source_fits = fits_by (262144 / max (max s t) 1) s (max (max s t) 1) (omega arith) (omega arith);
      target_fits = fits_by (262144 / max (max s t) 1) t (max (max s t) 1) (omega arith) (omega arith);
    }

pub point-size-claim : PointSizeClaim
unfolding point_size_of point_bytes
point-size-claim = record { is = λ l s h. min-eq_left (point-small l h s); columns = λ l h. sum-within l h }

-- ---- a block

pub getD-zeros : (n k : ℕ) → get_or (zeros n) k 0 ≡ 0
getD-zeros zero k = refl
getD-zeros (suc n) zero = refl
getD-zeros (suc n) (suc k) = getD-zeros n k

-- all of n points of both sides pass the checks
pub whole-checked : (p : Plan) (a b : Storage) (n : ℕ) (source : List ℕ) → is_sound_plan p ≡ true → length source ≡ n * point_bytes p.source a
    → Checked p source (whole a n) (zeros (n * point_bytes p.target b)) (whole b n)
whole-checked p a b n source s e =
    record {
      sound = s;
      source = record { long = e; forward = omega arith; inside = omega arith };
      target = record { long = length-replicate {A = ℕ} (n * point_bytes p.target b) 0; forward = omega arith; inside = omega arith };
      as_long = refl;
    }

pub block-claim : BlockClaim
block-claim p a b n source s e =
    let z = zeros (n * point_bytes p.target b) in
    let c = conversion-claim p source (whole a n) z (whole b n) (whole-checked p a b n source s e) in (
      c.0,
      record {
        carried-out = c.1;
        zero = λ k out.
            c.1.kept k (λ i target from hi m h. out i target from (omega arith) m (subst (λ (j : ℕ). LiesAt p.target (whole b n) target j k) (zero-add i) h))
            ∙ getD-zeros (n * point_bytes p.target b) k;
      },
    )
