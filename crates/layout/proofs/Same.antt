-- Two layouts with the same attributes: each attribute of the one is, by name and datatype, one of the other's, whichever is the one.
use Rattle.std.specs.Prelude.{◌≡◌, ◌⊎◌, ◌≤◌, ◌<◌}
use Rattle.common.specs.Logic.{◌∙◌, sym, ap, refl, subst, true, not, inl, inr, None, Some, Option, ℕ, arith, not-false, eqb-true, eqb, length}
use Rattle.common.specs.Lists.{all, place_from, same_bytes}
use Rattle.common.specs.Refusal.{got}
use Rattle.common.proofs.Lists.{and_left, and_right, clash, order, all-at, place_found, place-misses, same-eq, same_refl}
use Rattle.common.proofs.Refusals.{passes-cons, check-got}
use Rattle.common.proofs.Pigeonhole.{pigeonhole}
use Rattle.datatype.specs.Datatype.{same_datatype}
use Rattle.datatype.proofs.Properties.{same_self, same-turned}
use Rattle.layout.specs.Layout.{absent, at, Layout, is_sound}
use Rattle.layout.specs.Lookup.{named, defined, is_found, is_among, same_attributes, compare_without_offsets}
use Rattle.layout.proofs.Comparing.{one_place}
use Rattle.layout.proofs.Soundness.{sound-has}

-- the attribute at place i of l and that at place j of m have one name and one datatype
pub record Alike (l m : Layout) (i j : ℕ) : Type 0 where
  pub one-listed : i < length l.attributes
  pub other-listed : j < length m.attributes
  pub name : (at l.attributes i).definition.name ≡ (at m.attributes j).definition.name
  pub datatype : same_datatype (at l.attributes i).definition.datatype (at m.attributes j).definition.datatype ≡ true

pub alike-back : {l m : Layout} {i j : ℕ} → Alike l m i j → Alike m l j i
alike-back a =
    record {
      one-listed = a.other-listed;
      other-listed = a.one-listed;
      name = sym a.name;
      datatype = same-turned _ _ a.datatype;
    }

-- each attribute of m is one of l's
abbrev pub Among : Layout → Layout → Type 0
Among l m = (j : ℕ) → j < length m.attributes → (i : ℕ) × Alike l m i j

-- two sound layouts with the same attributes
pub record Same (l m : Layout) : Type 0 where
  pub one : is_sound l ≡ true
  pub other : is_sound m ≡ true
  pub among_one : Among l m
  pub among-other : Among m l

pub same_back : {l m : Layout} → Same l m → Same m l
same_back s = record { one = s.other; other = s.one; among_one = s.among-other; among-other = s.among_one }

-- ---- what the search of `is_among` finds

module _ (l m : Layout) (j : ℕ) (h : j < length m.attributes) where
  abbrev search-place : Option ℕ
  search-place = place_from 0 (defined (at m.attributes j).definition) l.attributes

  found : (i : ℕ) → search-place ≡ Some i → Alike l m i j
  unfolding defined named
  found i e =
      let f = place_found (defined (at m.attributes j).definition) l.attributes i absent e in
      let n : same_bytes (at l.attributes i).definition.name (at m.attributes j).definition.name ≡ true = and_left _ _ f.1 in
      record { one-listed = f.0; other-listed = h; name = same-eq _ _ n; datatype = and_right (same_bytes _ _) _ f.1 }

  missed : (i : ℕ) → Alike l m i j → search-place ≡ None → ⊥
  unfolding defined named
  missed i a e =
      clash (rw (a.name, same_refl (at m.attributes j).definition.name) a.datatype)
      (place-misses 0 (defined (at m.attributes j).definition) l.attributes i absent e a.one-listed)

-- ---- where the lists are equally long, the other way round too

module _ (l m : Layout) (s : is_sound l ≡ true) (long : length l.attributes ≡ length m.attributes) (among : Among m l)
    (j : ℕ) (h : j < length m.attributes) where
  abbrev Listed : ℕ → Type 0
  Listed i = (length l.attributes ≤ i) ⊎ (i < length l.attributes)

  -- the place of m where the attribute at place i of l is; past the end, j
  leads : (i : ℕ) → Listed i → ℕ
  leads i (inl p) = j
  leads i (inr p) = (among i p).0

  lower : (i : ℕ) (d : Listed i) → leads i d < length l.attributes
  unfolding leads
  lower i (inl p) = omega arith
  lower i (inr p) = omega (arith, (among i p).1.one-listed)

  module _ (missing : (i : ℕ) → Alike l m i j → ⊥) where
    never : (i : ℕ) (p : i < length l.attributes) → (among i p).0 ≡ j → ⊥
    never i p e = missing i (subst (Alike l m i) e (alike-back (among i p).1))

    apart : (i k : ℕ) → i ≤ length l.attributes → k ≤ length l.attributes → (d : Listed i) (e : Listed k)
        → leads i d ≡ leads k e → i ≡ k
    unfolding leads
    apart i k a b (inl p) (inl q) e = omega arith
    apart i k a b (inl p) (inr q) e = absurd (never k q (sym e))
    apart i k a b (inr p) (inl q) e = absurd (never i p e)
    apart i k a b (inr p) (inr q) e =
        one_place l.attributes i k (sound-has l s).names p q
        (sym (among i p).1.name ∙ ap (λ (n : ℕ). (at m.attributes n).definition.name) e ∙ (among k q).1.name)

    not-missing : ⊥
    not-missing =
        let n = length l.attributes in
        pigeonhole n (λ i. leads i (order n i)) (λ i a. lower i (order n i)) (λ i k a b. apart i k a b (order n i) (order n k))

  among-back : (i : ℕ) × Alike l m i j
  among-back = go (search-place l m j h) refl
    where
      go : (o : Option ℕ) → search-place l m j h ≡ o → (i : ℕ) × Alike l m i j
      go None e = absurd (not-missing (λ i a. missed l m j h i a e))
      go (Some i) e = (i, found l m j h i e)

-- ---- what `compare_without_offsets` finds the same; a sound layout and itself

among_of : (l m : Layout) → all (is_among l.attributes) m.attributes ≡ true → Among l m
unfolding is_among is_found
among_of l m a j h = go (search-place l m j h) refl (all-at (is_among l.attributes) m.attributes j absent a h)
  where
    go : (o : Option ℕ) → search-place l m j h ≡ o → is_found o ≡ true → (i : ℕ) × Alike l m i j
    go None e t = clash t refl
    go (Some i) e t = (i, found l m j h i e)

pub compared_same : (l m : Layout) → compare_without_offsets l m ≡ got true → Same l m
unfolding compare_without_offsets same_attributes
compared_same l m h =
    let g = check-got _ (same_attributes l.attributes m.attributes) true h in
    let a = passes-cons 1 (not (is_sound l)) _ g.0 in
    let b = passes-cons 1 (not (is_sound m)) _ a.1 in
    let s = not-false _ a.0 in
    let long = eqb-true _ _ (and_left (eqb (length l.attributes) (length m.attributes)) _ g.1) in
    let among = among_of m l (and_right (eqb (length l.attributes) (length m.attributes)) _ g.1) in
    record { one = s; other = not-false _ b.0; among_one = among-back l m s long among; among-other = among }

pub same-itself : (l : Layout) → is_sound l ≡ true → Same l l
same-itself l s = record { one = s; other = s; among_one = itself; among-other = itself }
  where
    itself : Among l l
    itself j h = (j, record { one-listed = h; other-listed = h; name = refl; datatype = same_self _ })
