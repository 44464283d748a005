-- What is read, the bits spell; and what bits spell, is read. Any format, from any position.
use Rattle.std.specs.Prelude.{◌≡◌, ◌∷◌, ◌≤◌, ◌<◌, ◌+◌, ◌*◌, ◌^◌}
use Rattle.common.specs.Logic.{◌∙◌, sym, ap, refl, List, [], ⊎_elim, ℕ, add-zero, add_assoc, arith, length}
use Rattle.common.specs.Refusal.{got, refused}
use Rattle.common.proofs.Lists.{order}
use Rattle.common.proofs.Refusals.{got-then, refused-then, then-got}
use Rattle.format.specs.Bits.{Read, read, field, number_at}
use Rattle.format.specs.Format.{Format, end, refuse, next, read_by}
use Rattle.format.specs.Spelling.{Leads, stop, step, Field, spell, width_of, number_of, Bits, Defect, cut, outside}
use Rattle.format.proofs.Fields.{never, number_small, field-got, field-inside, field-ends}
use Rattle.format.proofs.Numbers.{number-add, parts, joined_small}

-- values that lead through a format are small
pub spell-small : {X : Type 0} {f g : Format X} {vs : List ℕ} → Leads f vs g → number_of (spell f vs) < 2 ^ width_of (spell f vs)
unfolding spell width_of number_of
spell-small stop = omega arith
spell-small (step {w} {v} {f} {vs} h l) = joined_small w (width_of (spell (f v) vs)) h (spell-small l)

-- no bits
bits_none : (s : List ℕ) (p : ℕ) → p ≤ 8 * length s → Bits s p []
unfolding width_of number_of number_at
bits_none s p h = record { inside = omega arith; number = refl }

-- a field, and those that follow it
bits-cons : (s : List ℕ) (p w : ℕ) {v q : ℕ} (fs : List Field) → v ≡ number_at s p w → q ≡ p + w → Bits s q fs → Bits s p (record { width = w; value = v } ∷ fs)
unfolding width_of number_of
bits-cons s p w fs h e b = record { inside = omega (arith, b.inside); number = number-add s p w (width_of fs) ∙ rw (← h, ← e, b.number) }

-- ---- what bits spell

-- where the bits spell values, what is left of the format is read after them
pub leads-read : {X : Type 0} {f g : Format X} {vs : List ℕ} (s : List ℕ) (p : ℕ) → Leads f vs g → Bits s p (spell f vs) → read_by f s p ≡ read_by g s (p + width_of (spell f vs))
unfolding read_by spell width_of number_of
leads-read s p stop b = rw add-zero
leads-read s p (step {w} {v} {f} {vs} h l) b =
    let fs = spell (f v) vs in
    let q = parts (width_of fs) (number_small s (p + w) (width_of fs)) (spell-small l) (sym (number-add s p w (width_of fs)) ∙ b.number) in
    let e : field w s p ≡ got (read v (p + w)) = sym (field-inside w s p (omega (arith, b.inside))) ∙ rw q.0 in
    then-got _ e ∙ leads-read s (p + w) l (record { inside = omega (arith, b.inside); number = q.1 }) ∙ rw add_assoc

-- ---- what is read

-- the bits from p to q spell values that lead to g
pub record Spelled {X : Type 0} (f : Format X) (s : List ℕ) (p : ℕ) (g : Format X) (q : ℕ) : Type 0 where
  pub values : List ℕ
  pub leads : Leads f values g
  pub bits : Bits s p (spell f values)
  pub next : q ≡ p + width_of (spell f values)

module _ {X : Type 0} (s : List ℕ) where
  spelled_none : (f : Format X) (p : ℕ) → p ≤ 8 * length s → Spelled f s p f p
  unfolding spell width_of
  spelled_none f p h = record { values = []; leads = stop; bits = bits_none s p h; next = omega arith }

  spelled-more : (w : ℕ) (f : ℕ → Format X) (p : ℕ) {v n q : ℕ} {g : Format X} → got (read v n) ≡ field w s p → Spelled (f v) s n g q → Spelled (next w f) s p g q
  unfolding spell width_of
  spelled-more w f p {v} e r =
      let k = field-got w s p e in
      record {
        values = v ∷ r.values;
        leads = step k.small r.leads;
        bits = bits-cons s p w (spell (f v) r.values) k.value k.next r.bits;
        next = omega (arith, r.next, k.next);
      }

  pub read-spelled : (f : Format X) (p : ℕ) {x : X} {q : ℕ} → p ≤ 8 * length s → read_by f s p ≡ got (read x q) → Spelled f s p (end x) q
  unfolding read_by
  read-spelled (end y) p {x} {q} h e =
      let g : read y p ≡ read x q = cc in
      rw (← ap (λ (r : Read X). r.value) g, ← ap (λ (r : Read X). r.next) g) (spelled_none (end y) p h)
  read-spelled (refuse n) p h e = never (sym e) refl
  read-spelled (next w f) p h e =
      let g = got-then _ (field w s p) e in
      spelled-more w f p (sym g.1) (read-spelled (f g.0.value) g.0.next (omega (arith, (field-got w s p (sym g.1)).inside, (field-got w s p (sym g.1)).next)) g.2)

-- ---- what is refused

-- the bits from p on spell values up to the first defect
pub record Found {X : Type 0} (f : Format X) (s : List ℕ) (p n : ℕ) : Type 0 where
  pub left : Format X
  pub at : ℕ
  pub before : Spelled f s p left at
  pub defect : Defect s at left n

module _ {X : Type 0} (s : List ℕ) where
  here : (w : ℕ) (f : ℕ → Format X) (p n : ℕ) → p ≤ 8 * length s → field w s p ≡ refused n → Found (next w f) s p n
  here w f p n h r =
      ⊎_elim (λ (i : p + w ≤ 8 * length s). never (field-inside w s p i) (sym r))
      (λ (i : 8 * length s < p + w).
      let k : ◌≡◌ {A = ℕ} 2 n = let q = field-ends w s p i in cc in
      record { left = next w f; at = p; before = spelled_none s (next w f) p h; defect = rw (← k) (cut i) }) (order (p + w) (8 * length s))

  later : (w : ℕ) (f : ℕ → Format X) (p n : ℕ) (r : Read ℕ) → field w s p ≡ got r → Found (f r.value) s r.next n → Found (next w f) s p n
  later w f p n r g t = record { left = t.left; at = t.at; before = spelled-more s w f p (sym g) t.before; defect = t.defect }

  pub read_found : (f : Format X) (p : ℕ) {n : ℕ} → p ≤ 8 * length s → read_by f s p ≡ refused n → Found f s p n
  unfolding read_by
  read_found (end x) p h e = never refl (sym e)
  read_found (refuse m) p {n} h e =
      let k : m ≡ n = cc in
      record { left = refuse m; at = p; before = spelled_none s (refuse m) p h; defect = rw (← k) outside }
  read_found (next w f) p {n} h e =
      ⊎_elim (here w f p n h)
      (λ g. let i = field-got w s p (sym g.1) in later w f p n g.0 g.1 (read_found (f g.0.value) g.0.next (omega (arith, i.inside, i.next)) g.2))
      (refused-then _ (field w s p) e)
