-- What sheets mean, for any format whose values are written out of what they say.
use Rattle.std.specs.Prelude.{◌≡◌, ◌∷◌, ◌+◌, ◌/◌}
use Rattle.common.specs.Logic.{◌∙◌, sym, ap, refl, true, not, List, [], ⊎_elim, ℕ, zero-add, arith, length}
use Rattle.common.specs.Refusal.{line, got, refused, check}
use Rattle.common.proofs.Lists.{decide}
use Rattle.common.proofs.Refusals.{check-holds, check-passes, refused-then, got-then, then-refused}
use Rattle.format.specs.Bits.{Bytes, Read, read, zero_fill}
use Rattle.format.specs.Format.{Format, end, read_by, to_end, rest_by, sheet_by}
use Rattle.format.specs.Meaning.{Meaning}
use Rattle.format.specs.Spelling.{spell, width_of, number_of, sheet_of, Spells, Defect, cut, outside, unfilled, FirstDefect}
use Rattle.format.proofs.Fields.{never, field-ends, fill-true, fill_holds}
use Rattle.format.proofs.Packing.{length-packed, packed-spells, packed-is}
use Rattle.format.proofs.Reading.{end-stops, end-other, end-here, end-got, rest-is, rest-stops}
use Rattle.format.proofs.Spelled.{spell-small, leads-read, read-spelled, Found, read_found}
use Rattle.format.proofs.Written.{Written}

module _ {X : Type 0} (f : Format X) where
  -- ---- accepted sheets

  -- some values lead to x, and the sheet spells them
  pub record Sheet (s : List ℕ) (x : X) : Type 0 where
    pub values : List ℕ
    pub spells : Spells f values x s

  found : (s : List ℕ) (x : Read X) → Bytes s → read_by f s 0 ≡ got x → zero_fill s x.next ≡ true → Sheet s x.value
  unfolding sheet_of
  found s x b h z =
      let r = read-spelled s f 0 (omega arith) h in
      let w = width_of (spell f r.values) in
      let e : x.next ≡ w = r.next ∙ zero-add w in
      let k = fill-true s w (rw e at z) in
      record { values = r.values; spells = record { leads = r.leads; sheet = packed-is w s b k.0 k.1 ∙ rw r.bits.number } }

  pub sheet-got : (s : List ℕ) {x : X} → Bytes s → sheet_by f s ≡ got x → Sheet s x
  unfolding rest_by
  sheet-got s {x} b h =
      let g = got-then _ (to_end f s 0) h in
      let e : g.0.value ≡ x = cc in
      let k = end-got f s 0 g.1 in
      rw e at (found s g.0 b k.0 k.1)

  pub sheet-reads : {vs : List ℕ} {x : X} {s : List ℕ} → Spells f vs x s → sheet_by f s ≡ got x
  unfolding sheet_of read_by
  sheet-reads {vs} {x} {s} l =
      let fs = spell f vs in
      let w = width_of fs in
      let n : length s ≡ (w + 7) / 8 = rw l.sheet (length-packed w (number_of fs)) in
      let k = rw (← l.sheet) at (packed-spells w (number_of fs) (spell-small l.leads)) in
      let e : read_by f s 0 ≡ got (read x w) = leads-read s 0 l.leads (record { inside = omega arith; number = k.0 }) ∙ rw zero-add in
      rest-is f s 0 (end-here f s 0 e refl (fill_holds s w n (rw n k.1)))

  -- ---- refused sheets

  rest-found : (s : List ℕ) {n : ℕ} → sheet_by f s ≡ refused n → Found f s 0 n
  unfolding rest_by to_end
  rest-found s {n} h = ⊎_elim (λ e. ⊎_elim (λ k. read_found s f 0 (omega arith) k) (λ g. filled g.0 g.1 g.2) (refused-then _ (read_by f s 0) e)) (λ g. never refl (sym g.2)) (refused-then _ (to_end f s 0) h)
    where
      filled : (r : Read X) → read_by f s 0 ≡ got r → check (line 7 (not (zero_fill s r.next)) ∷ []) r ≡ refused n → Found f s 0 n
      filled r e k =
          ⊎_elim (λ z. never (sym (check-passes 7 r (ap not z))) (sym k))
          (λ z.
          let q : ◌≡◌ {A = ℕ} 7 n = let c = check-holds 7 r (ap not z) in cc in
          record { left = end r.value; at = r.next; before = read-spelled s f 0 (omega arith) e; defect = rw (← q) (unfilled z) }) (decide (zero_fill s r.next))

  pub first-defect : (s : List ℕ) (n : ℕ) → sheet_by f s ≡ refused n → FirstDefect f s n
  first-defect s n h =
      let t = rest-found s h in
      let e : t.at ≡ width_of (spell f t.before.values) = t.before.next ∙ zero-add _ in
      record { values = t.before.values; left = t.left; leads = t.before.leads; spelled = t.before.bits; defect = rw e at t.defect }

  refusal : (s : List ℕ) (p : ℕ) {g : Format X} {n : ℕ} → read_by f s 0 ≡ read_by g s p → Defect s p g n → sheet_by f s ≡ refused n
  unfolding read_by
  refusal s p h (cut {w} i) = rest-stops f s 0 (end-stops f s 0 (h ∙ then-refused _ (sym (field-ends w s p i))))
  refusal s p h outside = rest-stops f s 0 (end-stops f s 0 h)
  refusal s p h (unfilled z) = rest-stops f s 0 (end-other f s 0 h refl z)

  pub defect-refuses : (s : List ℕ) (n : ℕ) → FirstDefect f s n → sheet_by f s ≡ refused n
  defect-refuses s n d = refusal s _ (leads-read s 0 d.leads d.spelled ∙ rw zero-add) d.defect

  -- ---- the meaning

  module _ {Good : X → Type 0} {out : X → List ℕ} (i : Written f Good out) where
    pub sheet-spells : (s : List ℕ) (x : X) → Bytes s → sheet_by f s ≡ got x → Spells f (out x) x s
    sheet-spells s x b h = let r = sheet-got s b h in rw (← (i.own r.spells.leads).1) r.spells

    pub meaning : Meaning (sheet_by f) (λ x s. Spells f (out x) x s) (FirstDefect f)
    meaning =
        record {
          reads = λ s x b. (sheet-spells s x b, sheet-reads);
          refuses = λ s n. (first-defect s n, defect-refuses s n);
          same = λ s t x b d h k. (sheet-spells s x b h).sheet ∙ sym (sheet-spells t x d k).sheet;
        }
