-- The pair rule of document 01, section Cast, and of document 02, point 9.
use Rattle.std.specs.Prelude.{◌&&◌, ◌||◌, ◌+◌, ◌%◌, ◌/◌}
use Rattle.common.specs.Logic.{true, Bool, false, cond, not, ℕ, suc, zero, eqb, leb, ltb}
use Rattle.common.specs.Refusal.{passes}
use Rattle.datatype.specs.Datatype.{with_code, same_datatype, datatype_lines}
use Rattle.datatype.specs.declared.datatype.Datatype.{Datatype}
use Rattle.pairs.specs.declared.pair.Pair.{Pair}
use Rattle.pairs.specs.declared.pair.Pair.TheVariants.{Copy, Cast, Nothing}

-- "cast between two different codes of 0 to 9 or two of 10 to 14"
abbrev pub castable : ℕ → ℕ → Bool
castable a b = not (eqb a b) && ((ltb a 10 && ltb b 10) || ((leb 10 a && ltb a 15) && (leb 10 b && ltb b 15)))

-- neither of the lines 5 and 6 holds: a listed code, and no ByteArray or Custom of size 0
abbrev pub is_known : Datatype → Bool
is_known d = passes (datatype_lines d)

-- "copy on the diagonal (for ByteArray only with equal n), cast between two different codes of 0 to 9 or two of 10 to 14, nothing elsewhere";
-- document 02: "Code 17 pairs with no other code", and with its own where the two are equal. A datatype that is not known has nothing, also
-- with itself.
unfoldable pub pair_of : Datatype → Datatype → Pair
pair_of from to =
    cond (is_known from && is_known to) (cond (same_datatype from to) Copy (cond (castable from.code to.code) Cast Nothing)) Nothing

-- there is a copy or a cast
abbrev pub has_entry : Pair → Bool
has_entry Copy = true
has_entry Cast = true
has_entry Nothing = false

-- ---- the table, row after row of eighteen

-- the pair at a place of the table, where both ByteArrays have the size of d, and both Customs its size, alignment and name
abbrev pub pair_at : Datatype → ℕ → Pair
pair_at d k = pair_of (with_code d (k / 18)) (with_code d (k % 18))

-- a number for each pair, by which two are told apart
abbrev pub number_of_pair : Pair → ℕ
number_of_pair Copy = 0
number_of_pair Cast = 1
number_of_pair Nothing = 2

-- how many of the first k entries are p
unfoldable pub count_of : Datatype → Pair → ℕ → ℕ
count_of d p zero = 0
count_of d p (suc k) = cond (eqb (number_of_pair (pair_at d k)) (number_of_pair p)) 1 0 + count_of d p k
