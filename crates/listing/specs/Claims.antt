-- What a reader has to believe of the digits of numbers, each claim whole, with its conditions; the proofs are in proofs/.
use Rattle.std.specs.Prelude.{◌≡◌, ◌&&◌, ◌∷◌, ◌<◌, ◌+◌, ◌-◌, ◌*◌}
use Rattle.common.specs.Logic.{true, Bool, List, [], ℕ, leb, get_or}
use Rattle.common.specs.Lists.{all}
use Rattle.listing.specs.Text.{digits}

-- the number that v and then the digits spell
unfoldable pub value_from : ℕ → List ℕ → ℕ
value_from v [] = v
value_from v (d ∷ ds) = value_from (v * 10 + (d - 0x30)) ds

-- `0` to `9`
unfoldable pub is_digit : ℕ → Bool
is_digit d = leb 0x30 d && leb d 0x39

-- read back, the digits of a number are that number; all are digits; 0 is `0`, and no other number begins with `0`
pub record DigitsClaim : Type 0 where
  pub value : (n : ℕ) → value_from 0 (digits n) ≡ n
  pub only : (n : ℕ) → all is_digit (digits n) ≡ true
  pub zero : digits 0 ≡ 0x30 ∷ []
  pub front : (n : ℕ) → 0 < n → 0x30 < get_or (digits n) 0 0
