-- How many components a run lost. A count is held at the largest number of 64 bits.
use Rattle.std.specs.Prelude.{◌≡◌, ◌&&◌, ◌+◌}
use Rattle.common.specs.Logic.{Bool, List, ℕ, min, ltb, get_or}
use Rattle.common.specs.Lists.{first, tabulate, sum}

abbrev pub held : ℕ → ℕ
held n = min n 18446744073709551615

unfoldable pub held_sum : ℕ → ℕ → ℕ
held_sum a b = held (a + b)

-- 32 counts, and those of one block more
unfoldable pub added_at : List ℕ → List ℕ → ℕ → ℕ
added_at xs ys i = held_sum (get_or xs i 0) (get_or ys i 0)

unfoldable pub added_counts : List ℕ → List ℕ → List ℕ
added_counts xs ys = tabulate (added_at xs ys) 32

-- all of the 32
unfoldable pub held_total : List ℕ → ℕ
held_total xs = held (sum (first 0 xs 32))

-- where nothing may be lost, and something was, no target is made
unfoldable pub forbids : Bool → List ℕ → Bool
forbids whole xs = whole && ltb 0 (held_total xs)

-- held at every sum, what is added up one after the other is what is held of all
abbrev pub HeldClaim : Type 0
HeldClaim = (a b : ℕ) → held_sum (held a) b ≡ held (a + b)
