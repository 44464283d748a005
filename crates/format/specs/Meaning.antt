-- What sheets mean, whatever their format.
use Rattle.std.specs.Prelude.{◌≡◌, ◌↔◌}
use Rattle.common.specs.Logic.{List, ℕ}
use Rattle.common.specs.Refusal.{Outcome, got, refused}
use Rattle.format.specs.Bits.{Bytes}

-- the meaning of a reading: which sheets say x, and which are refused with n
pub record Meaning {X : Type 0} (reading : List ℕ → Outcome X) (Says : X → List ℕ → Type 0) (Lacks : List ℕ → ℕ → Type 0) : Type 0 where
  pub reads : (s : List ℕ) (x : X) → Bytes s → (reading s ≡ got x) ↔ Says x s
  pub refuses : (s : List ℕ) (n : ℕ) → (reading s ≡ refused n) ↔ Lacks s n
  -- two sheets with the same contents are equal
  pub same : (s t : List ℕ) (x : X) → Bytes s → Bytes t → reading s ≡ got x → reading t ≡ got x → s ≡ t
