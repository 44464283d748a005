-- An attribute beside those before it: what a loop's turn says of the list with it.
use Rattle.std.specs.Prelude.{◌≡◌, ◌&&◌, ◌∷◌, ◌≤◌, ◌<◌, ◌+◌}
use Rattle.common.specs.Logic.{◌∙◌, ap, sym, refl, true, Bool, List, [], ℕ, min, max, arith, le-ltb, leb-true, leb, length, get_or}
use Rattle.common.specs.Lists.{all, pairwise, against, greatest}
use Rattle.common.proofs.Lists.{and_left, and_right, pairwise-snoc, pairwise-join}
use Rattle.layout.specs.Layout.{Attribute, end_of, shares_byte, disjoint, other_name}
use Rattle.layout.specs.Records.{attribute_of, missing}
use Rattle.layout.specs.Steps.{meet, other_named, clear_of}
use Rattle.layout.specs.declared.point_layout.PointAttributeMember.{PointAttributeMember}
use Rattle.layout.proofs.Listed.{upto, upto_more}

abbrev pub at : List PointAttributeMember → ℕ → Attribute
at ms i = attribute_of (get_or ms i missing)

module _ (ms : List PointAttributeMember) (i : ℕ) (h : i < length ms) where
  beside : (r : Attribute → Attribute → Bool) {b t a : Bool} → b ≡ pairwise r (upto ms i) → t ≡ all (against r (at ms i)) (upto ms i) → a ≡ (b && t) → a ≡ pairwise r (upto ms (i + 1))
  beside r p q e = e ∙ rw (p, q) (sym (ap (pairwise r) (upto_more ms i h) ∙ pairwise-snoc r (upto ms i) (at ms i)))

  pub names-beside : {b t a : Bool} → b ≡ pairwise other_name (upto ms i) → t ≡ all (other_named (at ms i).definition) (upto ms i) → a ≡ (b && t) → a ≡ pairwise other_name (upto ms (i + 1))
  unfolding against other_name other_named
  names-beside p q e = beside other_name p q e

  pub disjoint-beside : {b t a : Bool} {e : ℕ} → e ≡ end_of (at ms i) → b ≡ pairwise disjoint (upto ms i) → t ≡ all (clear_of (at ms i).offset e) (upto ms i) → a ≡ (b && t) → a ≡ pairwise disjoint (upto ms (i + 1))
  unfolding against disjoint shares_byte clear_of meet
  disjoint-beside x p q k = beside disjoint p (q ∙ rw x) k

-- ---- in the order of their offsets

-- an attribute that begins at or past the ends of all others shares no byte with them
past_all : (a : Attribute) (xs : List Attribute) → greatest end_of xs ≤ a.offset → all (against disjoint a) xs ≡ true
unfolding all against greatest disjoint shares_byte
past_all a [] h = refl
past_all a (x ∷ xs) h =
    rw (le-ltb (max x.offset a.offset) (min (end_of x) (end_of a)) (omega (arith, h)), past_all a xs (omega (arith, h)))

pub ordered-more : (ms : List PointAttributeMember) (i e : ℕ) → i < length ms → {b r : Bool} → (b ≡ true → pairwise disjoint (upto ms i) ≡ true) → e ≡ greatest end_of (upto ms i) → r ≡ (b && leb e (at ms i).offset) → r ≡ true → pairwise disjoint (upto ms (i + 1)) ≡ true
ordered-more ms i e l {b} v g h t =
    let both = sym h ∙ t in
    let begins = leb-true e (at ms i).offset (and_right b (leb e (at ms i).offset) both) in
    rw (upto_more ms i l) (sym (pairwise-join disjoint (upto ms i) (at ms i) (v (and_left b (leb e (at ms i).offset) both)) (sym (past_all (at ms i) (upto ms i) (omega (arith, g, begins))))))
