-- `truncation_casts::truncation::in_halves` meets its contract: `InHalves.antt` has the sum, for both formats.
use Rattle.std.specs.Prelude.{◌≡◌, ◌-◌, ◌^◌, ◌%◌, ◌/◌}
use Rattle.common.specs.Logic.{sym, subst}
use lib.Ieee.{binary32, binary64, prec, of_bits, add, to_bits}
use Rattle.numbers.specs.Casts.{format_of}
use Rattle.numbers.specs.declared.format.Format.{Format}
use Rattle.truncation_casts.specs.Truncation.{whole_of}
use Rattle.truncation_casts.proofs.Powers.{Between}
use Rattle.truncation_casts.proofs.InHalves.{pattern, no_nan, total-number, total-fits, total-whole}
use Rattle.truncation_casts.proofs.truncation.in_halves.Goals.{In-Binary32, In-Binary64}
use Rattle.truncation_casts.proofs.truncation.in_halves.Goals as goal

-- the bounds at the format of the arm
in32 : (c : In-Binary32) → Between binary32 c.args.c
in32 c = subst (λ (f : Format). Between (format_of f) c.args.c) c.in-Binary32.is c.requires

in64 : (c : In-Binary64) → Between binary64 c.args.c
in64 c = subst (λ (f : Format). Between (format_of f) c.args.c) c.in-Binary64.is c.requires

pub float_from_bits-result : goal.float_from_bits-result
float_from_bits-result c = no_nan binary32 c.args.c (in32 c)

pub float_to_bits-result : goal.float_to_bits-result
float_to_bits-result c = total-number binary32 c.args.c (in32 c)

pub overflow_cast-result-in-Binary32 : goal.overflow_cast-result-in-Binary32
overflow_cast-result-in-Binary32 c = record { fits = total-fits binary32 c.args.c (in32 c) }

pub float_from_bits-result-in-Binary64 : goal.float_from_bits-result-in-Binary64
float_from_bits-result-in-Binary64 c = no_nan binary64 c.args.c (in64 c)

pub float_to_bits-result-in-Binary64 : goal.float_to_bits-result-in-Binary64
float_to_bits-result-in-Binary64 c = total-number binary64 c.args.c (in64 c)

pub returns-in-Binary32 : goal.returns-in-Binary32
returns-in-Binary32 c =
    subst (λ (f : Format). to_bits binary32 (add binary32 (of_bits binary32 c.args.c) (of_bits binary32 (pattern binary32))) / 2 % 2 ^ (prec (format_of f) - 2) ≡ whole_of (format_of f) c.args.c)
    (sym c.in-Binary32.is) (total-whole binary32 c.args.c (in32 c))

pub returns-in-Binary64 : goal.returns-in-Binary64
returns-in-Binary64 c =
    subst (λ (f : Format). to_bits binary64 (add binary64 (of_bits binary64 c.args.c) (of_bits binary64 (pattern binary64))) / 2 % 2 ^ (prec (format_of f) - 2) ≡ whole_of (format_of f) c.args.c)
    (sym c.in-Binary64.is) (total-whole binary64 c.args.c (in64 c))
