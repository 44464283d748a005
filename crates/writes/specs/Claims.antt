-- What `written` says, write by write; the proofs are in proofs/.
use Rattle.std.specs.Prelude.{◌≡◌, ◌∷◌, ◌++◌, ◌≤◌, ◌<◌, ◌+◌}
use Rattle.common.specs.Logic.{List, [], map, ℕ, length, get_or, take, drop}
use Rattle.std.proofs.lemmas.List.Edits.{sets}
use Rattle.writes.specs.Writes.{Write, begins, written, write_from}

-- what stands past the end of a list of writes
abbrev pub no_write : Write
no_write = record { place = record { base = 0; stride = 0 }; size = 0; value = λ i. [] }

abbrev pub write_at : List Write → ℕ → Write
write_at ws j = get_or ws j no_write

-- byte k of the buffer is byte b of the bytes of point i, one of n
pub record Hits (w : Write) (n k i b : ℕ) : Type 0 where
  pub point : i < n
  pub byte : b < w.size
  pub place : k ≡ begins w.place i + b

-- no byte lies in two points' bytes, of one write or of two, and all lie within len bytes
pub record DisjointWrites (ws : List Write) (n len : ℕ) : Type 0 where
  pub spaced : (j : ℕ) → j < length ws → (write_at ws j).size ≤ (write_at ws j).place.stride
  pub unshared : (j l k i b e d : ℕ) → j < length ws → l < length ws → Hits (write_at ws j) n k i b → Hits (write_at ws l) n k e d → j ≡ l
  pub inside : (j k i b : ℕ) → j < length ws → Hits (write_at ws j) n k i b → k < len

-- r is t with each value of each of the n points stored, and every other byte as before
pub record Written (ws : List Write) (n : ℕ) (t r : List ℕ) : Type 0 where
  pub same_length : length r ≡ length t
  pub holds : (j k i b : ℕ) → j < length ws → Hits (write_at ws j) n k i b → get_or r k 0 ≡ get_or ((write_at ws j).value i) b 0
  pub kept : (k : ℕ) → ((j i b : ℕ) → j < length ws → Hits (write_at ws j) n k i b → ⊥) → get_or r k 0 ≡ get_or t k 0

pub record WrittenClaim : Type 0 where
  -- `written` is, and nothing else is
  pub is : (ws : List Write) (n : ℕ) (t : List ℕ) → DisjointWrites ws n (length t) → Written ws n t (written ws n t)
  pub only : (ws : List Write) (n : ℕ) (t : List ℕ) → DisjointWrites ws n (length t) → (r : List ℕ) → Written ws n t r → r ≡ written ws n t
  -- each point's bytes hold its value
  pub value :
      (ws : List Write) (n : ℕ) (t : List ℕ) → DisjointWrites ws n (length t) → (j i : ℕ) → j < length ws → i < n → length ((write_at ws j).value i) ≡ (write_at ws j).size
      → take (write_at ws j).size (drop (begins (write_at ws j).place i) (written ws n t)) ≡ (write_at ws j).value i
  -- the writes ws and then w; d points and then n more
  pub then-write :
      (ws : List Write) (w : Write) (n : ℕ) (t : List ℕ) → DisjointWrites (ws ++ (w ∷ [])) n (length t)
      → written (w ∷ []) n (written ws n t) ≡ written (ws ++ (w ∷ [])) n t
  pub then-points :
      (ws : List Write) (d n : ℕ) (t : List ℕ) → DisjointWrites ws (d + n) (length t)
      → written (map (write_from d) ws) n (written ws d t) ≡ written ws (d + n) t
  -- n points of one write and then its next, stored
  pub then-point :
      (w : Write) (n : ℕ) (t : List ℕ) → DisjointWrites (w ∷ []) (n + 1) (length t) → length (w.value n) ≡ w.size
      → sets (written (w ∷ []) n t) (begins w.place n) (w.value n) ≡ written (w ∷ []) (n + 1) t
