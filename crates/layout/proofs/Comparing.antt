-- `compare_without_offsets` says what the Rust's lookups by name say, since names are distinct.
use Rattle.std.specs.Prelude.{◌≡◌, ◌&&◌, ◌<◌}
use Rattle.common.specs.Logic.{◌∙◌, sym, ap, refl, true, Bool, false, List, ⊎_elim, None, Some, Option, ℕ, arith, not-true, eqb, length}
use Rattle.common.specs.Lists.{pairwise, place_from, same_bytes}
use Rattle.common.proofs.Lists.{and_left, and_right, clash, order, all-agree, pairwise-at, place_found, place-misses, same-eq, same_refl}
use Rattle.datatype.specs.Datatype.{same_datatype}
use Rattle.layout.specs.Claims.{same_at, found_same, CompareClaim}
use Rattle.layout.specs.Layout.{Attribute, absent, at, other_name}
use Rattle.layout.specs.Lookup.{named, defined, is_found, is_among, same_attributes}
use Rattle.layout.proofs.Soundness.{sound-has}

pub same_names : (a b : Attribute) → a.definition.name ≡ b.definition.name → other_name a b ≡ true → ⊥
unfolding other_name
same_names a b e h = clash {b = same_bytes a.definition.name b.definition.name} (rw e (same_refl b.definition.name)) (not-true _ h)

-- in a list of distinct names, two attributes of one name stand at one place
pub one_place : (ys : List Attribute) (i j : ℕ) → pairwise other_name ys ≡ true → i < length ys → j < length ys → (at ys i).definition.name ≡ (at ys j).definition.name → i ≡ j
one_place ys i j h p q e =
    ⊎_elim
    (λ l. ⊎_elim (λ m. omega arith) (λ m. absurd (apart i j m q e)) (order j i))
    (λ l. absurd (apart j i l p (sym e))) (order i j)
  where
    apart : (i j : ℕ) → i < j → j < length ys → (at ys i).definition.name ≡ (at ys j).definition.name → ⊥
    apart i j l q e = same_names (at ys i) (at ys j) e (pairwise-at other_name ys i j absent h l q)

-- found by name and datatype, or found by name with that datatype
found-same : (ys : List Attribute) (a : Attribute) → pairwise other_name ys ≡ true → is_among ys a ≡ found_same ys a
unfolding is_among found_same is_found same_at defined named
found-same ys a h = go (place_from 0 (named a.definition.name) ys) (place_from 0 (defined a.definition) ys) refl refl
  where
    go : (o p : Option ℕ) → place_from 0 (named a.definition.name) ys ≡ o → place_from 0 (defined a.definition) ys ≡ p → is_found p ≡ same_at ys a o
    go None None e f = refl
    go None (Some j) e f =
        let r = place_found (defined a.definition) ys j absent f in
        clash (and_left (named a.definition.name (at ys j)) _ r.1) (place-misses 0 (named a.definition.name) ys j absent e r.0)
    go (Some i) None e f =
        let r = place_found (named a.definition.name) ys i absent e in
        let m : (named a.definition.name (at ys i) && same_datatype (at ys i).definition.datatype a.definition.datatype) ≡ false = place-misses 0 (defined a.definition) ys i absent f r.0 in
        sym (rw r.1 at m)
    go (Some i) (Some j) e f =
        let r = place_found (named a.definition.name) ys i absent e in
        let q = place_found (defined a.definition) ys j absent f in
        let k = one_place ys i j h r.0 q.0 (same-eq _ _ r.1 ∙ sym (same-eq _ _ (and_left (named a.definition.name (at ys j)) _ q.1))) in
        rw k (sym (and_right (named a.definition.name (at ys j)) _ q.1))

pub compare-claim : CompareClaim
unfolding same_attributes
compare-claim l m s =
    ap (λ (b : Bool). eqb (length l.attributes) (length m.attributes) && b)
    (all-agree (is_among m.attributes) (found_same m.attributes) l.attributes (λ a. found-same m.attributes a (sound-has m s).names))
