-- The claims of specs/Claims.antt.
use Rattle.common.specs.Logic.{refl}
use lib.Ieee.{add, mul, is_nan, of_bits, to_bits}
use Rattle.transformation.specs.Claims.{WorkedExamples}
use Rattle.transformation.specs.Transformation.{stored_bits}

pub worked-examples : WorkedExamples
unfolding stored_bits is_nan add mul of_bits to_bits
worked-examples = record { in_order = refl; not-grouped = refl; no_number = refl; payload = refl; zero-shift = refl }
