-- Document 01: "Little-endian". A number in bytes, the lowest first.
use Rattle.std.specs.Prelude.{◌≡◌, ◌∷◌, ◌<◌, ◌+◌, ◌*◌, ◌^◌, ◌%◌, ◌/◌}
use Rattle.common.specs.Logic.{List, [], ℕ, suc, zero}

-- the number in the bytes
unfoldable pub le_value : List ℕ → ℕ
le_value [] = 0
le_value (b ∷ bs) = b + 256 * le_value bs

-- the n low bytes of a number
unfoldable pub le_bytes : ℕ → ℕ → List ℕ
le_bytes zero x = []
le_bytes (suc n) x = x % 256 ∷ le_bytes n (x / 256)

-- ---- for the proofs inside the crate: no public contract cites these

-- r is the number in the n bytes of s, and these are its bytes
pub record Loaded (n : ℕ) (s : List ℕ) (r : ℕ) : Type 0 where
  pub value : r ≡ le_value s
  pub back : le_bytes n r ≡ s
  pub fits : r < 256 ^ n
