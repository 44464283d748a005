-- Document 01, section Sheets: the format of a sheet, and the reading of a sheet by its format.
use Rattle.std.specs.Prelude.{◌≡◌, ◌&&◌, ◌∷◌}
use Rattle.common.specs.Logic.{cond, not, List, [], ℕ, suc, zero, leb}
use Rattle.common.specs.Refusal.{line, Outcome, got, refused, check, and_then}
use Rattle.format.specs.Bits.{Read, read, field, zero_fill}

-- ---- formats

pub data Format (X : Type 0) : Type 0 where
  -- no field more, and what the fields say
  end : X → Format X
  -- a refusal, by its number
  refuse : ℕ → Format X
  -- a field of so many bits, and what follows its value
  next : ℕ → (ℕ → Format X) → Format X

infixl 20 ◌>>=◌
-- one after the other
unfoldable pub ◌>>=◌ : {X Y : Type 0} → Format X → (X → Format Y) → Format Y
end x >>= g = g x
refuse n >>= g = refuse n
next w f >>= g = next w (λ v. f v >>= g)

-- a field of w bits
unfoldable pub bits : ℕ → Format ℕ
bits w = next w end

-- a field of w bits whose value lies from low to high; the number n where it does not
unfoldable pub bits_from : ℕ → ℕ → ℕ → ℕ → Format ℕ
bits_from n low high w = next w (λ v. cond (leb low v && leb v high) (end v) (refuse n))

-- k of them, one after the other
unfoldable pub times : {X : Type 0} → Format X → ℕ → Format (List X)
times f zero = end []
times f (suc k) = do
  x ← f
  xs ← times f k
  end (x ∷ xs)

-- ---- reading

-- from a position on, front to back to the first refusal; 2 where the sheet ends inside a field
unfoldable pub read_by : {X : Type 0} → Format X → List ℕ → ℕ → Outcome (Read X)
read_by (end x) s p = got (read x p)
read_by (refuse n) s p = refused n
read_by (next w f) s p = and_then (field w s p) (λ v. read_by (f v.value) s v.next)

-- up to the sheet's end; 7 where fill bits are not zero, or a byte follows
unfoldable pub to_end : {X : Type 0} → Format X → List ℕ → ℕ → Outcome (Read X)
to_end f s p = and_then (read_by f s p) (λ r. check (line 7 (not (zero_fill s r.next)) ∷ []) r)

-- what the rest of a sheet says
unfoldable pub rest_by : {X : Type 0} → Format X → List ℕ → ℕ → Outcome X
rest_by f s p = and_then (to_end f s p) (λ r. got r.value)

-- what a whole sheet says
abbrev pub sheet_by : {X : Type 0} → Format X → List ℕ → Outcome X
sheet_by f s = rest_by f s 0

-- ---- formats that accept more

-- where the first accepts, the second gives the same
pub record Extends {X : Type 0} (f g : Format X) : Type 0 where
  pub gives : (s : List ℕ) (p : ℕ) (r : Read X) → read_by f s p ≡ got r → read_by g s p ≡ got r

-- ---- the start of a sheet

-- what a sheet says as far as the format reads; what follows is not looked at
unfoldable pub start_by : {X : Type 0} → Format X → List ℕ → ℕ → Outcome X
start_by f s p = and_then (read_by f s p) (λ r. got r.value)
