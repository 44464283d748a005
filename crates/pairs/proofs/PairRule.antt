-- The pair of two datatypes, from the table's entry of their codes.
use Rattle.std.specs.Prelude.{◌≡◌, ◌&&◌, ◌||◌, ◌≤◌, ◌<◌, ◌%◌, ◌/◌}
use Rattle.common.specs.Logic.{◌∙◌, sym, ap, refl, true, Bool, false, cond, not, and-true, ⊎_elim, ℕ, suc, zero, arith, le-ltb, eq-eqb, ne_eqb, eqb-true, ltb-false, eqb, ltb}
use mathlib.Core.Bool.{and-false}
use Rattle.common.specs.Lists.{all}
use Rattle.common.specs.Refusal.{not_holding, passes}
use Rattle.common.proofs.Lists.{and_left, clash, decide}
use Rattle.common.proofs.Refusals.{passes-cons}
use Rattle.datatype.specs.Datatype.{byte_array, with_code, same_custom, same_datatype, datatype_lines, size_of}
use Rattle.datatype.specs.declared.datatype.Datatype.{Datatype}
use Rattle.datatype.proofs.Properties.{listed-sized, unlisted-size}
use Rattle.pairs.specs.Pairs.{castable, is_known, pair_of, has_entry, pair_at, count_of}
use Rattle.pairs.specs.declared.pair.Pair.{Pair}
use Rattle.pairs.specs.declared.pair.Pair.TheVariants.{Copy, Cast, Nothing}

pub same_codes : (f t : Datatype) → same_datatype f t ≡ true → f.code ≡ t.code
unfolding same_datatype
same_codes f t h = eqb-true f.code t.code (and_left (eqb f.code t.code) _ h)

-- a pair that is copy or cast is not nothing
pub has-entry : {p : Pair} → has_entry p ≡ true → p ≡ Nothing → ⊥
has-entry h e = clash {b = has_entry Nothing} (ap has_entry (sym e) ∙ h) refl

-- ---- a datatype has a size where it is known, and there alone

module _ (d : Datatype) where
  pub sized : is_known d ≡ not (eqb (size_of d) 0)
  sized =
      ⊎_elim (λ h. h ∙ sym (rw (ne_eqb (size_of d) 0 (λ e. omega (arith, listed-sized d h))))) (λ h. h ∙ sym (rw (unlisted-size d h))) (decide (is_known d))

  pub below-known : d.code < 16 → is_known d ≡ true
  unfolding datatype_lines passes all not_holding
  below-known h = rw (le-ltb 17 d.code (omega arith), ne_eqb d.code 16 (λ e. omega arith), ne_eqb d.code 17 (λ e. omega arith))

  pub known-code : is_known d ≡ true → d.code ≤ 17
  unfolding datatype_lines
  known-code h = ltb-false 17 d.code (passes-cons 5 (ltb 17 d.code) _ h).0

-- ---- the table's entry, by the two codes

-- datatypes that differ in the code alone
module _ (d : Datatype) (a b : ℕ) where
  same-with : same_datatype (with_code d a) (with_code d b) ≡ eqb a b
  unfolding same_datatype same_custom
  same-with =
      rw (eq-eqb d.n d.n refl, eq-eqb d.alignment d.alignment refl, eq-eqb d.name_high d.name_high refl, eq-eqb d.name_low d.name_low refl)
      (go (eqb a b) (eqb a 16) (eqb a 17))
    where
      go : (x y z : Bool) → (x && cond y true (cond z true true)) ≡ x
      go false y z = refl
      go true true z = refl
      go true false true = refl
      go true false false = refl

  known-with : 0 < d.n → is_known (with_code d a) ≡ not (ltb 17 a)
  unfolding datatype_lines passes all not_holding
  known-with h = rw (ne_eqb d.n 0 (λ e. omega arith), and-false (eqb a 16 || eqb a 17), and-true (not (ltb 17 a)))

module _ (d : Datatype) (a b : ℕ) (h : 0 < d.n) where
  pair-with : pair_of (with_code d a) (with_code d b) ≡ cond (not (ltb 17 a) && not (ltb 17 b)) (cond (eqb a b) Copy (cond (castable a b) Cast Nothing)) Nothing
  unfolding pair_of
  pair-with = rw (known-with d a b h, known-with d b a h, same-with d a b)

  pub at-codes : a ≤ 17 → b ≤ 17 → pair_of (with_code d a) (with_code d b) ≡ cond (eqb a b) Copy (cond (castable a b) Cast Nothing)
  at-codes A B = pair-with ∙ rw (le-ltb 17 a A, le-ltb 17 b B)

-- whichever the ByteArrays and the Customs are
pub any-datatype : (d : Datatype) (k : ℕ) → 0 < d.n → pair_at d k ≡ pair_at (byte_array 1) k
any-datatype d k h = pair-with d (k / 18) (k % 18) h ∙ sym (pair-with (byte_array 1) (k / 18) (k % 18) (omega arith))

pub any-count : (d : Datatype) (p : Pair) (k : ℕ) → 0 < d.n → count_of d p k ≡ count_of (byte_array 1) p k
unfolding count_of
any-count d p zero h = refl
any-count d p (suc k) h = rw (any-datatype d k h, any-count d p k h)

-- ---- by the code's tests: x and y are the two sizes
module _ (f t : Datatype) {x y : ℕ} (X : x ≡ size_of f) (Y : y ≡ size_of t) where
  pub none_left : x ≡ 0 → Nothing ≡ pair_of f t
  unfolding pair_of
  none_left e = rw (sized f, ← X, e)

  pub none_right : y ≡ 0 → Nothing ≡ pair_of f t
  unfolding pair_of
  none_right e = rw (sized t, ← Y, e, and-false (is_known f))

  module _ (G : x ≡ 0 → ⊥) (H : y ≡ 0 → ⊥) where
    known-left : is_known f ≡ true
    known-left = sized f ∙ ap (λ (s : ℕ). not (eqb s 0)) (sym X) ∙ ap not (ne_eqb x 0 G)

    known-right : is_known t ≡ true
    known-right = sized t ∙ ap (λ (s : ℕ). not (eqb s 0)) (sym Y) ∙ ap not (ne_eqb y 0 H)

    pub codes-listed : (f.code ≤ 17) × (t.code ≤ 17)
    codes-listed = (known-code f known-left, known-code t known-right)

    both-known : pair_of f t ≡ cond (same_datatype f t) Copy (cond (castable f.code t.code) Cast Nothing)
    unfolding pair_of
    both-known = rw (known-left, known-right)

    pub is-copy : same_datatype f t ≡ true → Copy ≡ pair_of f t
    is-copy s = sym (both-known ∙ rw s)

    -- p is the entry of the two codes
    module _ {p : Pair} (N : p ≡ pair_of (with_code (byte_array 1) f.code) (with_code (byte_array 1) t.code)) (s : same_datatype f t ≡ false) where
      by-codes : p ≡ cond (eqb f.code t.code) Copy (cond (castable f.code t.code) Cast Nothing)
      by-codes = N ∙ at-codes (byte_array 1) f.code t.code (omega arith) codes-listed.0 codes-listed.1

      pub is-cast : p ≡ Cast → Cast ≡ pair_of f t
      is-cast z = go (eqb f.code t.code) (castable f.code t.code) by-codes ∙ sym (both-known ∙ rw s)
        where
          go : (e k : Bool) → p ≡ cond e Copy (cond k Cast Nothing) → Cast ≡ cond k Cast Nothing
          go true k n = let c : Copy ≡ Cast = sym n ∙ z in absurd (let z : ◌≡◌ {A = ℕ} 0 1 = cc in omega arith)
          go false k n = sym z ∙ n

      pub is-nothing : (p ≡ Cast → ⊥) → Nothing ≡ pair_of f t
      is-nothing z = go (eqb f.code t.code) (castable f.code t.code) by-codes (λ e. simp e) ∙ sym (both-known ∙ rw s)
        where
          go : (e k : Bool) → p ≡ cond e Copy (cond k Cast Nothing) → (e ≡ true → k ≡ false) → Nothing ≡ cond k Cast Nothing
          go true k n u = rw (u refl)
          go false true n u = absurd (z n)
          go false false n u = refl
