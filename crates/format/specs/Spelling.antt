-- Document 01, section Sheets: the sheet that spells the values of a format's fields, and the first defect of any other.
use Rattle.std.specs.Prelude.{◌≡◌, ◌∷◌, ◌++◌, ◌≤◌, ◌<◌, ◌+◌, ◌-◌, ◌*◌, ◌^◌, ◌%◌, ◌/◌}
use Rattle.common.specs.Logic.{false, List, [], ℕ, suc, zero, length}
use Rattle.format.specs.Bits.{number_at, zero_fill}
use Rattle.format.specs.Format.{Format, end, refuse, next}

-- ---- fields

pub record Field : Type 0 where
  pub width : ℕ
  pub value : ℕ

-- values, each within the width of its field, lead through the format to what is left of it
pub data Leads {X : Type 0} : Format X → List ℕ → Format X → Type 0 where
  stop : {f : Format X} → Leads f [] f
  step : {w v : ℕ} {f : ℕ → Format X} {vs : List ℕ} {g : Format X} → v < 2 ^ w → Leads (f v) vs g → Leads (next w f) (v ∷ vs) g

-- the fields that have these values
unfoldable pub spell : {X : Type 0} → Format X → List ℕ → List Field
spell f [] = []
spell (end x) (v ∷ vs) = []
spell (refuse n) (v ∷ vs) = []
spell (next w f) (v ∷ vs) = record { width = w; value = v } ∷ spell (f v) vs

unfoldable pub width_of : List Field → ℕ
width_of [] = 0
width_of (f ∷ fs) = f.width + width_of fs

-- the number that the fields' bits spell
unfoldable pub number_of : List Field → ℕ
number_of [] = 0
number_of (f ∷ fs) = f.value * 2 ^ width_of fs + number_of fs

-- ---- the sheet of fields

-- the last n bytes of a number, most significant first
unfoldable pub bytes_of : ℕ → ℕ → List ℕ
bytes_of zero v = []
bytes_of (suc n) v = bytes_of n (v / 256) ++ (v % 256 ∷ [])

-- w bits that spell v, as bytes; zero bits fill the last byte
unfoldable pub packed : ℕ → ℕ → List ℕ
packed w v = let n : ℕ = (w + 7) / 8 in bytes_of n (v * 2 ^ (8 * n - w))

unfoldable pub sheet_of : List Field → List ℕ
sheet_of fs = packed (width_of fs) (number_of fs)

-- the values lead to x, and s is the sheet of their fields
pub record Spells {X : Type 0} (f : Format X) (vs : List ℕ) (x : X) (s : List ℕ) : Type 0 where
  pub leads : Leads f vs (end x)
  pub sheet : s ≡ sheet_of (spell f vs)

-- ---- the first defect

-- the bits of s from p on are those of the fields, and all are there
pub record Bits (s : List ℕ) (p : ℕ) (fs : List Field) : Type 0 where
  pub inside : p + width_of fs ≤ 8 * length s
  pub number : number_at s p (width_of fs) ≡ number_of fs

-- the defect that a sheet has at a position, by what is left of the format there
pub data Defect {X : Type 0} (s : List ℕ) (p : ℕ) : Format X → ℕ → Type 0 where
  -- the sheet ends inside a field
  cut : {w : ℕ} {f : ℕ → Format X} → 8 * length s < p + w → Defect s p (next w f) 2
  -- the value before is refused
  outside : {n : ℕ} → Defect s p (refuse n) n
  -- fill bits are not zero, or a byte follows
  unfilled : {x : X} → zero_fill s p ≡ false → Defect s p (end x) 7

-- the fields before it are spelled as the format has them
pub record FirstDefect {X : Type 0} (f : Format X) (s : List ℕ) (n : ℕ) : Type 0 where
  pub values : List ℕ
  pub left : Format X
  pub leads : Leads f values left
  pub spelled : Bits s 0 (spell f values)
  pub defect : Defect s (width_of (spell f values)) left n
