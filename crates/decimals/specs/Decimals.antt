-- Decimal numbers in text, and their values as F64. A decimal is an optional sign, - or +, then digits with at most one point among them: at least
-- one digit and at most 15. There is no exponent.
use Rattle.std.specs.Prelude.{◌&&◌, ◌∷◌, ◌++◌, ◌+◌, ◌-◌, ◌*◌, ◌^◌, Float, Option, None, Some}
use Rattle.common.specs.Logic.{true, Bool, false, cond, List, [], ℕ, eqb, leb, length}
use Rattle.common.specs.Lists.{all}
use Rattle.std.specs.Float.{binary64}
use Rattle.std.specs.Float.Ieee.{round}

-- ---- bytes

-- from 0 to 9
unfoldable pub is_digit : ℕ → Bool
is_digit b = leb 0x30 b && leb b 0x39

abbrev pub is_point : ℕ → Bool
is_point b = eqb b 0x2e

-- what stands before the first point, and what stands after it; with no point all stands before it
unfoldable pub before_point : List ℕ → List ℕ
before_point [] = []
before_point (b ∷ bs) = cond (is_point b) [] (b ∷ before_point bs)

unfoldable pub after_point : List ℕ → List ℕ
after_point [] = []
after_point (b ∷ bs) = cond (is_point b) bs (after_point bs)

-- ---- values

-- the number whose decimal digits are those of n and then these
unfoldable pub number_from : ℕ → List ℕ → ℕ
number_from n [] = n
number_from n (d ∷ ds) = number_from (n * 10 + (d - 0x30)) ds

-- plus or minus m / 10 ^ k, rounded once to F64: to the nearest, ties to even
unfoldable pub value_of : Bool → ℕ → ℕ → Float
value_of negative m k = round binary64 negative m (10 ^ k)

-- there are digits alone before and after the point, from 1 to 15 in all
unfoldable pub are_digits : List ℕ → List ℕ → Bool
are_digits whole fraction = all is_digit (whole ++ fraction) && (leb 1 (length whole + length fraction) && leb (length whole + length fraction) 15)

-- a sign, and what stands before and after the point
unfoldable pub decimal_by : Bool → List ℕ → List ℕ → Option Float
decimal_by negative whole fraction =
    cond (are_digits whole fraction) (Some (value_of negative (number_from 0 (whole ++ fraction)) (length fraction))) None

unfoldable pub unsigned_of : Bool → List ℕ → Option Float
unsigned_of negative text = decimal_by negative (before_point text) (after_point text)

-- the value of a whole text that is a decimal
unfoldable pub decimal_of : List ℕ → Option Float
decimal_of [] = None
decimal_of (b ∷ bs) = cond (eqb b 0x2d) (unsigned_of true bs) (cond (eqb b 0x2b) (unsigned_of false bs) (unsigned_of false (b ∷ bs)))
