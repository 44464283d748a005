-- The claims of specs/Claims.antt, proved.
use Rattle.common.specs.Logic.{inl}
use lib.Ieee.{binary32, binary64}
use Rattle.scalar_casts.specs.Claims.{CastInRange, ScalarNanClaim, KeptClaim, KeptCasesClaim}
use Rattle.scalar_casts.specs.Scalars.{cast_scalar}
use Rattle.numbers.proofs.Nan.{nan-claim}
use Rattle.scalar_casts.proofs.Fitting as fitting
use Rattle.scalar_casts.proofs.Numbers as numbers
use Rattle.scalar_casts.proofs.Scalars.{copied}

pub cast-in-range : CastInRange
cast-in-range = fitting.cast-in-range

pub scalar-nan-claim : ScalarNanClaim
unfolding cast_scalar
scalar-nan-claim = record { narrowed = nan-claim.kept binary64 binary32; widened = nan-claim.kept binary32 binary64; copied = copied }

pub kept-claim : KeptClaim
kept-claim = numbers.kept-claim

pub kept-cases-claim : KeptCasesClaim
kept-cases-claim =
    record {
      nan_to_float = λ from to x L n F. (kept-claim from to x L).1 (inl (n, F));
      nan_to_integer = numbers.nan-lost;
      minus_zero32 = λ to. (numbers.minus-zero to).0;
      minus_zero64 = λ to. (numbers.minus-zero to).1;
      infinity = numbers.infinity-kept;
      copied = numbers.copy-kept;
    }
