-- How a loop makes `written`: one point more of one write is its value stored where its bytes begin.
use Rattle.std.specs.Prelude.{◌≡◌, ◌∷◌, ◌≤◌, ◌<◌, ◌+◌, ◌-◌}
use Rattle.common.specs.Logic.{◌∙◌, sym, ap, subst, List, [], ⊎_elim, ℕ, suc, zero, zero-mul, arith, length, get_or}
use lib.Seq.{sets, length-sets}
use Rattle.common.proofs.Lists.{order}
use Rattle.common.proofs.Stores.{sets-before, sets-after, sets-in}
use Rattle.writes.specs.Claims.{write_at, Hits, DisjointWrites}
use Rattle.writes.specs.Writes.{Write, begins, written, write_from}
use Rattle.writes.proofs.Whole.{unique, then-points, disjoint-later, length-written}

-- one write alone
pub disjoint-one : (w : Write) (n len : ℕ) → w.size ≤ w.place.stride → ((i : ℕ) → i < n → begins w.place i + w.size ≤ len) → DisjointWrites (w ∷ []) n len
disjoint-one w n len s room =
    record { spaced = spaced; unshared = λ j l k i b e d hj hl g h. omega arith; inside = inside }
  where
    spaced : (j : ℕ) → j < 1 → (write_at (w ∷ []) j).size ≤ (write_at (w ∷ []) j).place.stride
    spaced zero h = s
    spaced (suc j) h = absurd (omega arith)

    inside : (j k i b : ℕ) → j < 1 → Hits (write_at (w ∷ []) j) n k i b → k < len
    inside zero k i b hj h = omega (arith, h.place, h.byte, room i h.point)
    inside (suc j) k i b hj h = absurd (omega arith)

one-point : (w : Write) (t : List ℕ) → DisjointWrites (w ∷ []) 1 (length t) → length (w.value 0) ≡ w.size → sets t w.place.base (w.value 0) ≡ written (w ∷ []) 1 t
one-point w t A long =
    unique (w ∷ []) 1 t A (sets t w.place.base (w.value 0)) (record { same_length = length-sets t w.place.base (w.value 0); holds = holds; kept = kept })
  where
    holds : (j k i b : ℕ) → j < 1 → Hits (write_at (w ∷ []) j) 1 k i b → get_or (sets t w.place.base (w.value 0)) k 0 ≡ get_or ((write_at (w ∷ []) j).value i) b 0
    holds zero k zero b hj h =
        let e : k ≡ w.place.base + b = omega (arith, h.place, zero-mul w.place.stride) in
        ap (λ (x : ℕ). get_or (sets t w.place.base (w.value 0)) x 0) e
        ∙ sets-in (w.value 0) t w.place.base b (omega (arith, h.byte)) (omega (arith, A.inside 0 k 0 b hj h))
    holds zero k (suc i) b hj h = absurd (omega (arith, h.point))
    holds (suc j) k i b hj h = absurd (omega arith)

    kept : (k : ℕ) → ((j i b : ℕ) → j < 1 → Hits (write_at (w ∷ []) j) 1 k i b → ⊥) → get_or (sets t w.place.base (w.value 0)) k 0 ≡ get_or t k 0
    kept k out =
        ⊎_elim
        (λ h. ⊎_elim (λ g. sets-after (w.value 0) t w.place.base k (omega arith))
        (λ g. absurd (out 0 0 (k - w.place.base) (omega arith) (record { point = omega arith; byte = omega arith; place = omega (arith, zero-mul w.place.stride) })))
        (order (w.place.base + w.size) k))
        (λ h. sets-before (w.value 0) t w.place.base k h)
        (order w.place.base k)

-- the point after the first n
pub then-point : (w : Write) (n : ℕ) (t : List ℕ) → DisjointWrites (w ∷ []) (n + 1) (length t) → length (w.value n) ≡ w.size
    → sets (written (w ∷ []) n t) (begins w.place n) (w.value n) ≡ written (w ∷ []) (n + 1) t
then-point w n t A long =
    let z : n + 0 ≡ n = omega arith in
    let r : List ℕ = written (w ∷ []) n t in
    ap (λ (m : ℕ). sets r (begins w.place n) (w.value m)) (sym z)
    ∙ one-point (write_from n w) r (subst (DisjointWrites (write_from n w ∷ []) 1) (sym (length-written (w ∷ []) n t)) (disjoint-later (w ∷ []) n 1 (length t) A)) (ap (λ (m : ℕ). length (w.value m)) z ∙ long)
    ∙ then-points (w ∷ []) n 1 t A
