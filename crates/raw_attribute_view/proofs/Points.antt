-- One attribute of one point: the claim that a view that is made and read shows the part that `read_point` gives.
use Rattle.std.specs.Prelude.{◌≡◌, ◌≤◌, ◌+◌, Result, Ok, Err}
use Rattle.common.specs.Logic.{◌∙◌, sym, ap, refl, List, ⊎_elim, ℕ, arith, length}
use denote.Ref.{Bor}
use Rattle.common.specs.declared.Refusal.{Refusal}
use Rattle.common.specs.Refusal.{got, refused, number_of, answered, answer, Accepted, Refused}
use Rattle.common.proofs.Refusals.{passes-accepted, check-got, check-refused, then-got, got-then, refused-then}
use Rattle.layout.specs.Layout.{Layout}
use Rattle.raw_attribute_view.specs.Claims.{IsReadOf, ShownBy, PointClaim}
use Rattle.raw_attribute_view.specs.Records.{IsRead, IsViewOf, IsView}
use Rattle.raw_attribute_view.specs.View.{Numbers, read_lines, view_lines, part_bytes, part_place, fields_of, part_in, point_part}
use Rattle.raw_attribute_view.specs.declared.Part.{Part}
use Rattle.raw_attribute_view.specs.declared.RawAttributeView.{RawAttributeView}
use Rattle.raw_attribute_view.proofs.Parts.{found, passed}
use Rattle.raw_attribute_view.proofs.Written.{point-part}

within : (l : Layout) (place count n i : ℕ) (p : Part) → point_part l place count n i ≡ got p → p.start + p.size ≤ n
unfolding point_part
within l place count n i p h =
    let a = got-then _ (fields_of l place count n) h in
    let f = found n a.0.offset a.0.stride a.0.size i a.2 in
    omega (arith, f.1, f.3)

-- the numbers of a view, by the answer of the lines
pub fields-accepted : (l : Layout) (place count n : ℕ) {v : Numbers} → fields_of l place count n ≡ got v → answer (view_lines l place count n) ≡ Accepted
unfolding fields_of
fields-accepted l place count n h = passes-accepted _ (check-got _ _ _ h).0

pub fields-refused : (l : Layout) (place count n : ℕ) {m : ℕ} → fields_of l place count n ≡ refused m → answer (view_lines l place count n) ≡ Refused m
unfolding fields_of
fields-refused l place count n h = check-refused _ _ h

-- a result that was accepted is no refusal
not-refused : (P : Type 0) (e : Refusal) → Refused (number_of e) ≡ Accepted → P
not-refused P e h = absurd (let z : ◌≡◌ {A = ℕ} 0 1 = cc in omega arith)

module _ (l : Layout) (place count i : ℕ) (s : Bor (List ℕ)) where
  abbrev n : ℕ
  n = length s.now

  -- what point i of a view that was made shows is the point's part
  of-view : (v : RawAttributeView) → IsViewOf l place count s v → point_part l place count n i ≡ part_in n v.shape.offset v.shape.stride v.shape.size i
  unfolding point_part
  of-view v d = then-got _ d.shape

  read_answer : (v : RawAttributeView) (r : Result (Bor (List ℕ)) Refusal) → IsViewOf l place count s v → IsRead v i r → answered r ≡ answer (read_lines n v.shape.offset v.shape.stride v.shape.size i)
  read_answer v r d e = e.answers ∙ rw d.bytes

  shown : (m : Result RawAttributeView Refusal) (r : Result (Bor (List ℕ)) Refusal) (p : Part) → IsView l place count s m → IsReadOf m i r → point_part l place count n i ≡ got p → ShownBy s m r p
  unfolding point_part IsReadOf part_bytes part_place
  shown (Err x) r p d e h = not-refused (ShownBy s (Err x) r p) x (d.answers ∙ fields-accepted l place count n (got-then _ (fields_of l place count n) h).1)
  shown (Ok v) (Err x) p d e h =
      let f = found n v.shape.offset v.shape.stride v.shape.size i (sym (of-view v d.view) ∙ h) in
      not-refused (ShownBy s (Ok v) (Err x) p) x (read_answer v (Err x) d.view e ∙ f.2)
  shown (Ok v) (Ok b) p d e h =
      let f = found n v.shape.offset v.shape.stride v.shape.size i (sym (of-view v d.view) ∙ h) in
      record {
        made = refl;
        read = refl;
        bytes = e.part.bytes ∙ rw (d.view.bytes, f.0, f.1);
        place = e.part.place ∙ rw (d.view.bytes, f.0, d.view.lies);
      }

  refuses : (m : Result RawAttributeView Refusal) (r : Result (Bor (List ℕ)) Refusal) (k : ℕ) → IsView l place count s m → IsReadOf m i r → point_part l place count n i ≡ refused k → answered r ≡ Refused k
  unfolding point_part IsReadOf
  refuses (Err x) r k d e h =
      ap answered e ∙ d.answers
      ∙ ⊎_elim (λ a. fields-refused l place count n a) (λ a. not-refused (answer (view_lines l place count n) ≡ Refused k) x (d.answers ∙ fields-accepted l place count n a.1))
      (refused-then _ (fields_of l place count n) h)
  refuses (Ok v) r k d e h = read_answer v r d.view e ∙ passed n v.shape.offset v.shape.stride v.shape.size i (sym (of-view v d.view) ∙ h)

pub point-claim : PointClaim
point-claim = record { within = within; shown = shown; refused = refuses; written = point-part }
