-- One cast, point after point: what the loop leaves is what `converted` says, where the points fit and do not overlap.
use Rattle.std.specs.Prelude.{◌≡◌, ◌∷◌, ◌≤◌, ◌<◌, ◌+◌, ◌-◌}
use Rattle.common.specs.Logic.{◌∙◌, sym, ap, true, Bool, cond, List, [], ℕ, suc, zero, arith, length, take, drop, length-take, length-drop}
use native.Mathlib.Numerals.{add-one}
use borrow.Rule.Slice.PartMut.{put_mid}
use lib.Seq.{sets}
use Rattle.common.proofs.Stores.{part_length, put-sets}
use Rattle.datatype.specs.Datatype.{with_code, size_of}
use Rattle.datatype.specs.declared.datatype.Datatype.{Datatype}
use Rattle.attribute_conversion.specs.Attributes.{cast_bytes, cast_fits}
use Rattle.pairs.specs.Pairs.{pair_of, has_entry}
use Rattle.pairs.proofs.PairRule.{has-entry}
use Rattle.attribute_conversion.proofs.Sizes.{length-cast, by-entry}
use Rattle.writes.specs.Claims.{DisjointWrites}
use Rattle.writes.proofs.Stores.{disjoint-one, then-point}
use Rattle.writes.proofs.Whole.{no-point}
use Rattle.strided.specs.Steps.{stored, RunFits}
use Rattle.writes.specs.Writes.{begins}
use Rattle.strided.specs.Strided.{value_of, as_write, converted}
use Rattle.strided.specs.declared.StridedCast.{StridedCast}
use Rattle.strided.proofs.Fits.{fewer-fit}

-- ---- the loop

-- the datatype with its own code written out
pub same_code : (d : Datatype) (x : ℕ) {f : Datatype} → f ≡ with_code d x → d.code ≡ x → f ≡ d
same_code d x h e = h ∙ ap (λ (y : ℕ). with_code d y) (sym e)

-- and what has room for an attribute of the datatype has room for one of that size
pub room : (k : ℕ) {d f : Datatype} {code size len : ℕ} → k + size_of d ≤ len → f ≡ with_code d code → d.code ≡ code → size ≡ size_of f → k + size ≤ len
room k {d} {f} {code} r F C s = omega (arith, r, s, ap size_of (same_code d code F C))

-- one attribute: where its bytes are as many as its datatypes ask for, it is cast
pub cast-done : (f t : Datatype) (src old exit : List ℕ) (s z w : ℕ) (r : Bool) → z ≡ size_of f → w ≡ size_of t → s + z ≤ length src → length old ≡ w → has_entry (pair_of f t) ≡ true
    → r ≡ cast_fits f t (length (take (s + z - s) (drop s src))) (length old) → exit ≡ cond r (cast_bytes f t (take (s + z - s) (drop s src))) old
    → exit ≡ cast_bytes f t (take (size_of f) (drop s src))
cast-done f t src old exit s z w r ez ew room el h answer bytes =
    let e : s + z - s ≡ size_of f = omega (arith, ez) in
    let y : r ≡ true = answer ∙ sym (by-entry f t _ _ (part_length s z src room ∙ ez) (el ∙ ew)) ∙ h in
    bytes
    ∙ ap (λ (b : Bool). cond b (cast_bytes f t (take (s + z - s) (drop s src))) old) y
    ∙ ap (λ (k : ℕ). cast_bytes f t (take k (drop s src))) e

module _ (c : StridedCast) (src : List ℕ) where
  -- one more point
  pub one_more : (t₀ t last : List ℕ) (i k w : ℕ) → k ≡ begins c.target i → t ≡ stored c src i t₀ → k + w ≤ length t → length last ≡ w → last ≡ value_of c src i
      → put_mid k (k + w - k) t last ≡ stored c src (i + 1) t₀
  unfolding stored
  one_more t₀ t last i k w ek et room el ev = put-sets k w t last el room ∙ rw add-one (cc)

  -- a value has the target's size
  pub long : (n b : ℕ) → RunFits c n (length src) b → (i : ℕ) → i < n → length (value_of c src i) ≡ size_of c.to
  unfolding value_of
  long n b F i h =
      let r = F.source i h in
      length-cast c.from c.to (take (size_of c.from) (drop (begins c.source i) src)) (has-entry F.pair) (simp (length-take, length-drop) (omega (arith, r)))

  module _ (t : List ℕ) (spaced : size_of c.to ≤ c.target.stride) where
    one-disjoint : (n : ℕ) → RunFits c n (length src) (length t) → DisjointWrites (as_write src c ∷ []) n (length t)
    one-disjoint n F = disjoint-one (as_write src c) n (length t) spaced F.target

    pub stored_is : (n : ℕ) → RunFits c n (length src) (length t) → stored c src n t ≡ converted (c ∷ []) src n t
    unfolding stored converted
    stored_is zero F = no-point (as_write src c ∷ []) 0 t (one-disjoint 0 F)
    stored_is (suc n) F =
        ap (λ (r : List ℕ). sets r (begins c.target n) (value_of c src n)) (stored_is n (fewer-fit c n (suc n) (length src) (length t) (omega arith) F))
        ∙ rw (← add-one n) (then-point (as_write src c) n t (one-disjoint (n + 1) (rw add-one F)) (long (suc n) (length t) F n (omega arith)))
