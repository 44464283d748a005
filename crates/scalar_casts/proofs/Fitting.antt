-- A cast fits its target, whichever scalars they are.
use Rattle.std.specs.Prelude.{◌≡◌, ◌<◌, ◌^◌}
use Rattle.common.specs.Logic.{subst, true, false, ⊎_elim, ℕ, eqb-true, eqb}
use Rattle.numbers.specs.Casts.{cast_of}
use Rattle.scalar_casts.specs.Scalars.{code_of, kind_of, bits_of, cast_scalar}
use Rattle.scalar_casts.specs.declared.scalar.Scalar.{Scalar}
use Rattle.common.proofs.Lists.{decide}
use Rattle.numbers.proofs.Fitting.{cast_fits_lem}
use Rattle.scalar_casts.proofs.Scalars.{same-scalar, kind-bits}

pub cast-in-range : (from to : Scalar) (x : ℕ) → x < 2 ^ bits_of from → cast_scalar from to x < 2 ^ bits_of to
unfolding cast_scalar
cast-in-range from to x h =
    ⊎_elim
    (λ (e : eqb (code_of from) (code_of to) ≡ true). rw e (subst (λ (s : Scalar). x < 2 ^ bits_of s) (same-scalar from to (eqb-true (code_of from) (code_of to) e)) h))
    (λ (e : eqb (code_of from) (code_of to) ≡ false). rw e (subst (λ (w : ℕ). cast_of (kind_of from) (kind_of to) x < 2 ^ w) (kind-bits to) (cast_fits_lem (kind_of from) (kind_of to) x)))
    (decide (eqb (code_of from) (code_of to)))
