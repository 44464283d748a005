-- A ByteArray in a sheet: written out. Each length from 1 to 65,535 has one spelling.
use Rattle.std.specs.Prelude.{◌≡◌, ◌∷◌, ◌↔◌, ◌≤◌, ◌<◌, ◌^◌}
use Rattle.common.specs.Logic.{sym, ap, refl, true, false, cond, [], append-nil, ⊎_elim, ℕ, suc, arith, lt-ltb, le-ltb, ne_eqb, eqb-true, eqb-false, eqb, ltb}
use Rattle.common.proofs.Lists.{decide, order}
use Rattle.datatype.specs.Datatype.{byte_array}
use Rattle.datatype.specs.declared.datatype.Datatype.{Datatype}
use Rattle.format.proofs.Written.{Inside, bounds, inside, Written, written-end, written-bits, written_from, written_either, written_as, written-bind}
use Rattle.layout_sheets.specs.Sheet.{array_length, array_format}
use Rattle.layout_sheets.specs.Values.{length_values}

-- the first field of a length, and what may follow it
abbrev first_of : ℕ → ℕ
first_of m = cond (ltb m 256) m 0

abbrev Follows : ℕ → ℕ → Type 0
Follows v m = cond (eqb v 0) (Inside 256 65535 m) (v ≡ m)

first-is : (v m : ℕ) → v < 2 ^ 8 → Follows v m → first_of m ≡ v
first-is v m g h =
    ⊎_elim
    (λ (e : eqb v 0 ≡ true). let k : Inside 256 65535 m = rw e at h in rw (le-ltb m 256 (bounds 256 65535 m k).0) (sym (eqb-true v 0 e)))
    (λ (e : eqb v 0 ≡ false). let k : v ≡ m = rw e at h in rw (lt-ltb m 256 (omega arith)) (sym k))
    (decide (eqb v 0))

short : (m : ℕ) → m < 256 → ((m < 2 ^ 8) × Follows m m) ↔ Inside 1 65535 m
short m l =
    ⊎_elim
    (λ (e : eqb m 0 ≡ true). let z = eqb-true m 0 e in rw e (λ k. absurd (omega (arith, bounds 256 65535 m k.1)), λ k. absurd (omega (arith, bounds 1 65535 m k))))
    (λ (e : eqb m 0 ≡ false). let z = eqb-false m 0 e in rw e (λ k. inside 1 65535 m (omega arith) (omega arith), λ k. (l, refl)))
    (decide (eqb m 0))

long : (m : ℕ) → 256 ≤ m → ((0 < 2 ^ 8) × Inside 256 65535 m) ↔ Inside 1 65535 m
long m l = (λ k. inside 1 65535 m (omega arith) (bounds 256 65535 m k.1).1, λ k. (omega arith, inside 256 65535 m l (bounds 1 65535 m k).1))

same : (m : ℕ) → ((first_of m < 2 ^ 8) × Follows (first_of m) m) ↔ Inside 1 65535 m
same m = ⊎_elim (λ (l : m < 256). rw (lt-ltb m 256 l) (short m l)) (λ (l : 256 < suc m). rw (le-ltb m 256 (omega arith)) (long m (omega arith))) (order (suc m) 256)

out : (m : ℕ) → Inside 1 65535 m → first_of m ∷ cond (eqb (first_of m) 0) (m ∷ []) [] ≡ cond (ltb m 256) (m ∷ []) (0 ∷ m ∷ [])
out m k =
    ⊎_elim
    (λ (l : m < 256). let z : eqb m 0 ≡ false = ne_eqb m 0 (λ e. omega (arith, bounds 1 65535 m k)) in rw (lt-ltb m 256 l, z))
    (λ (l : 256 < suc m). rw (le-ltb m 256 (omega arith)))
    (order (suc m) 256)

pub length-written : Written array_length (Inside 1 65535) length_values
unfolding array_length length_values
length-written = written_as same out (written-bind first_of first-is (written-bits 8) (λ n. written_either (eqb n 0) (written_from 6 256 65535 16 (omega arith)) (written-end n)))

-- ---- the ByteArray

abbrev pub SaidArray : Datatype → Type 0
SaidArray d = Inside 1 65535 d.n × (byte_array d.n ≡ d)

pub array_written : Written (array_format array_length) SaidArray (λ d. length_values d.n)
unfolding array_format
array_written =
    written_as (λ d. (λ k. k, λ k. k)) (λ d k. append-nil _)
    (written-bind (λ (d : Datatype). d.n) (λ n d g h. ap (λ (d : Datatype). d.n) (sym h)) length-written (λ n. written-end (byte_array n)))
