-- Document 01, section Sheets: fields packed, most significant bit first.
use Rattle.std.specs.Prelude.{◌&&◌, ◌∷◌, ◌<◌, ◌+◌, ◌-◌, ◌*◌, ◌^◌, ◌%◌, ◌/◌}
use Rattle.common.specs.Logic.{Bool, List, [], ℕ, suc, zero, eqb, ltb, length, get_or}
use Rattle.common.specs.Refusal.{line, Outcome, check}

-- each element is a byte
abbrev pub Bytes : List ℕ → Type 0
Bytes s = (i : ℕ) → i < length s → get_or s i 0 < 256

-- the bit at a position, counted from the first byte's most significant bit
abbrev pub bit_at : List ℕ → ℕ → ℕ
bit_at s p = get_or s (p / 8) 0 / 2 ^ (7 - p % 8) % 2

-- the number that w bits spell
unfoldable pub number_at : List ℕ → ℕ → ℕ → ℕ
number_at s p zero = 0
number_at s p (suc w) = number_at s p w * 2 + bit_at s (p + w)

-- what was read, and the position of the bit after it
pub record Read (X : Type 0) : Type 0 where
  pub value : X
  pub next : ℕ

abbrev pub read : {X : Type 0} → X → ℕ → Read X
read x p = record { value = x; next = p }

-- a field of w bits; 2 where the sheet ends inside it
unfoldable pub field : ℕ → List ℕ → ℕ → Outcome (Read ℕ)
field w s p = check (line 2 (ltb (8 * length s) (p + w)) ∷ []) (read (number_at s p w) (p + w))

-- zero bits alone up to the end of the byte, and no byte after it
unfoldable pub zero_fill : List ℕ → ℕ → Bool
zero_fill s p = eqb (length s) ((p + 7) / 8) && eqb (number_at s p (8 * length s - p)) 0
