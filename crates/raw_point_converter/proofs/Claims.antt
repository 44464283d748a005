-- The claim of specs/Claims.antt, proved.
use Rattle.std.specs.Prelude.{◌≡◌, ◌≤◌, ◌<◌, ◌+◌, ◌*◌}
use Rattle.common.specs.Logic.{◌∙◌, sym, ap, refl, subst, true, Bool, false, List, map, ⊎_elim, None, Some, Option, ℕ, arith, not-false, le-leb, eqb-true, eqb-false, eqb, length, get_or, take, drop, length-take, length-drop}
use lib.Seq.{get_or-take, get_or-drop, ext_get_or}
use Rattle.common.specs.Lists.{all, pairwise, place_from}
use Rattle.common.specs.Refusal.{got, outcome, check, not_holding, passes}
use Rattle.common.proofs.Lists.{clash, decide, all-fails, place_found, place-misses, same-eq, same_refl}
use Rattle.common.proofs.Refusals.{passes-cons, passes-accepted, check-got}
use Rattle.datatype.specs.Datatype.{size_of}
use Rattle.layout.specs.Layout.{Attribute, absent, at, end_of, HasByte, other_name, Layout, is_sound}
use Rattle.layout.specs.Lookup.{named}
use Rattle.layout.proofs.Bytes.{unshared}
use Rattle.layout.proofs.Comparing.{one_place}
use Rattle.layout.proofs.Soundness.{sound-has}
use Rattle.pairs.specs.Pairs.{has_entry}
use Rattle.pairs.specs.declared.pair.Pair.{Pair}
use Rattle.pairs.specs.declared.pair.Pair.TheVariants.{Copy, Cast, Nothing}
use Rattle.attribute_conversion.specs.Attributes.{cast_bytes}
use Rattle.writes.specs.Claims.{Hits, Written}
use Rattle.writes.proofs.Mapped.{value-of, by-each}
use Rattle.writes.proofs.Whole.{claimed}
use Rattle.strided.specs.Steps.{no_cast, cast_at, CastsFit}
use Rattle.writes.specs.Writes.{begins}
use Rattle.strided.specs.Strided.{value_of, as_write, converted}
use Rattle.strided.specs.declared.StridedCast.{StridedCast}
use Rattle.strided.proofs.Runs.{long}
use Rattle.raw_point_converter.specs.Claims.{bytes_of, Namesakes, PointConverted, Convertible, ConvertClaim}
use Rattle.raw_point_converter.specs.Convert.{point_lines, convert_point}
use Rattle.raw_point_converter.specs.Pairs.{single, pair_of_two, pairs, has_cast, ends_within}
use Rattle.raw_point_converter.proofs.Disjoint.{Found, made, pair_made, comes, among}
use Rattle.raw_point_converter.proofs.Fits.{hit-byte, pairs-fit}

-- in a list of distinct names, an attribute of the name is found at its place
at_its_place : (ys : List Attribute) (a : Attribute) (j : ℕ) → pairwise other_name ys ≡ true → j < length ys → a.definition.name ≡ (at ys j).definition.name → place_from 0 (named a.definition.name) ys ≡ Some j
unfolding named
at_its_place ys a j distinct l e = go (place_from 0 (named a.definition.name) ys) refl
  where
    here : named a.definition.name (at ys j) ≡ true
    here = rw e (same_refl (at ys j).definition.name)

    go : (o : Option ℕ) → place_from 0 (named a.definition.name) ys ≡ o → o ≡ Some j
    go None h = clash here (place-misses 0 (named a.definition.name) ys j absent h l)
    go (Some i) h = let f = place_found (named a.definition.name) ys i absent h in ap Some (one_place ys i j distinct f.0 l (same-eq _ _ f.1 ∙ e))

-- ---- a part of the target

bytes-at : (a : Attribute) (u : List ℕ) (b : ℕ) → b < size_of a.definition.datatype → get_or (bytes_of a u) b 0 ≡ get_or u (a.offset + b) 0
unfolding bytes_of
bytes-at a u b h = get_or-take (size_of a.definition.datatype) (drop a.offset u) b 0 h ∙ get_or-drop a.offset u b 0

-- two targets whose bytes agree in an attribute
same_bytes_lem : (a : Attribute) (u t : List ℕ) → length u ≡ length t → ((k : ℕ) → HasByte a k → get_or u k 0 ≡ get_or t k 0) → bytes_of a u ≡ bytes_of a t
unfolding bytes_of end_of
same_bytes_lem a u t e h =
    let size = size_of a.definition.datatype in
    let n : length (take size (drop a.offset u)) ≤ size = simp (length-take, length-drop) (omega arith) in
    ext_get_or 0 (bytes_of a u) (bytes_of a t) (simp (length-take, length-drop) (omega arith))
    (λ b l. bytes-at a u b (omega arith) ∙ h (a.offset + b) (omega arith, omega arith) ∙ sym (bytes-at a t b (omega arith)))

-- ---- an accepted call

module _ (l m : Layout) (s t : List ℕ) (x : is_sound l ≡ true) (y : is_sound m ≡ true) (c : all has_cast (pairs l m) ≡ true) (w : all (ends_within (length s) (length t)) (pairs l m) ≡ true) where
  -- what a pair's target attribute is to hold
  value : (i j : ℕ) → value_of (pair_of_two (at l.attributes i) (at m.attributes j)) s 0 ≡ cast_bytes (at l.attributes i).definition.datatype (at m.attributes j).definition.datatype (bytes_of (at l.attributes i) s)
  unfolding value_of pair_of_two single bytes_of
  value i j =
      let a = at l.attributes i in
      let z : a.offset + 0 * size_of a.definition.datatype ≡ a.offset = omega arith in
      ap (λ (o : ℕ). cast_bytes a.definition.datatype (at m.attributes j).definition.datatype (take (size_of a.definition.datatype) (drop o s))) z

  -- two namesakes of unequal datatype are a pair
  abbrev found : (i j : ℕ) → Namesakes l m false i j → Found m.attributes (at l.attributes i)
  found i j n =
      record {
        place = j;
        listed = n.target-listed;
        name = sym n.names;
        unequal = n.datatypes;
        is = pair_made m.attributes (at l.attributes i) (at_its_place m.attributes (at l.attributes i) j (sound-has m y).names n.target-listed n.names) n.datatypes;
      }

  abbrev after : List ℕ
  after = converted (pairs l m) s 1 t

  fit : CastsFit (pairs l m) 1 (length s) (length t)
  fit = pairs-fit l m (length s) (length t) x y c w

  done : Written (map (as_write s) (pairs l m)) 1 t after
  unfolding converted
  done = claimed (map (as_write s) (pairs l m)) 1 t (fit.disjoint s)

  -- a pair's target attribute holds its value
  pair-holds : (q : ℕ) (p : StridedCast) → q < length (pairs l m) → cast_at (pairs l m) q ≡ p → take (size_of p.to) (drop (begins p.target 0) after) ≡ value_of p s 0
  unfolding converted
  pair-holds q p h e =
      subst (λ (c : StridedCast). take (size_of c.to) (drop (begins c.target 0) after) ≡ value_of c s 0) e
      (value-of (as_write s) (pairs l m) no_cast 1 t q h (fit.disjoint s) 0 (omega arith) (long (cast_at (pairs l m) q) s 1 (length t) (fit.fits q h) 0 (omega arith)))

  cast : (i j : ℕ) → Namesakes l m false i j
      → bytes_of (at m.attributes j) after ≡ cast_bytes (at l.attributes i).definition.datatype (at m.attributes j).definition.datatype (bytes_of (at l.attributes i) s)
  unfolding pairs pair_of_two single bytes_of
  cast i j n =
      let b = at m.attributes j in
      let q = among m.attributes l.attributes i n.source-listed (found i j n) in
      let z : b.offset ≡ b.offset + 0 * size_of b.definition.datatype = omega arith in
      ap (λ (o : ℕ). take (size_of b.definition.datatype) (drop o after)) z ∙ pair-holds q.0 (pair_of_two (at l.attributes i) b) q.1 q.2 ∙ value i j

  rest : (k : ℕ) → ((i j : ℕ) → Namesakes l m false i j → HasByte (at m.attributes j) k → ⊥) → get_or after k 0 ≡ get_or t k 0
  unfolding pairs pair_of_two single end_of
  rest k h =
      (by-each (as_write s) (pairs l m) no_cast 1 t after done).kept k (λ q i b hq g.
      let f = comes m.attributes l.attributes q hq in
      h f.place f.found.place (record { source-listed = f.listed; target-listed = f.found.listed; names = sym f.found.name; datatypes = f.found.unequal })
      (hit-byte s (made m.attributes (at l.attributes f.place) f.found) k (subst (λ (z : StridedCast). Hits (as_write s z) 1 k i b) f.is g)))

  -- no byte of an attribute whose namesake has its datatype lies in one that was cast
  skipped-apart : (i j k : ℕ) → Namesakes l m true i j → HasByte (at m.attributes j) k → (a b : ℕ) → Namesakes l m false a b → HasByte (at m.attributes b) k → ⊥
  skipped-apart i j k n h a b o g = ⊎_elim same other (decide (eqb b j))
    where
      same : eqb b j ≡ true → ⊥
      same e =
          let q : b ≡ j = eqb-true b j e in
          let r : a ≡ i = one_place l.attributes a i (sound-has l x).names o.source-listed n.source-listed (o.names ∙ ap (λ (z : ℕ). (at m.attributes z).definition.name) q ∙ sym n.names) in
          clash n.datatypes (rw (q, r) at o.datatypes)

      other : eqb b j ≡ false → ⊥
      other e = unshared m.attributes (sound-has m y).disjoint j b k n.target-listed o.target-listed (λ q. eqb-false b j e (sym q)) h g

  point-converted : PointConverted l m s t after
  point-converted =
      record {
        as_long = done.same_length;
        cast = cast;
        skipped = λ i j n. same_bytes_lem (at m.attributes j) after t done.same_length (λ k h. rest k (skipped-apart i j k n h));
        rest = rest;
      }

is-converted : (l m : Layout) (s t u : List ℕ) → convert_point l m s t ≡ got u → PointConverted l m s t u
unfolding convert_point point_lines
is-converted l m s t u h =
    let g = check-got _ _ _ h in
    let a = passes-cons _ _ _ g.0 in
    let b = passes-cons _ _ _ a.1 in
    let c = passes-cons _ _ _ b.1 in
    let d = passes-cons _ _ _ c.1 in
    subst (PointConverted l m s t) g.1 (point-converted l m s t (not-false _ a.0) (not-false _ b.0) (not-false _ c.0) (not-false _ d.0))

-- ---- when there is a conversion

-- a test that every pair of namesakes of unequal datatype passes
each-pair : (l m : Layout) (p : StridedCast → Bool) → ((i j : ℕ) → Namesakes l m false i j → p (pair_of_two (at l.attributes i) (at m.attributes j)) ≡ true) → all p (pairs l m) ≡ true
unfolding pairs
each-pair l m p ok =
    ⊎_elim (λ e. e)
    (λ e.
    let f = all-fails p (pairs l m) no_cast e in
    let c = comes m.attributes l.attributes f.0 f.1 in
    let n : Namesakes l m false c.place c.found.place = record { source-listed = c.listed; target-listed = c.found.listed; names = sym c.found.name; datatypes = c.found.unequal } in
    clash (ap p c.is ∙ ok c.place c.found.place n) f.2)
    (decide (all p (pairs l m)))

module _ (l m : Layout) (s t : List ℕ) (x : is_sound l ≡ true) (y : is_sound m ≡ true) (ok : (i j : ℕ) → Namesakes l m false i j → Convertible l m s t i j) where
  pair-cast : (i j : ℕ) → Namesakes l m false i j → has_cast (pair_of_two (at l.attributes i) (at m.attributes j)) ≡ true
  unfolding has_cast pair_of_two
  pair-cast i j n = entry _ (ok i j n).pair
    where
      entry : (q : Pair) → (q ≡ Nothing → ⊥) → has_entry q ≡ true
      entry Copy h = refl
      entry Cast h = refl
      entry Nothing h = absurd (h refl)

  pair-within : (i j : ℕ) → Namesakes l m false i j → ends_within (length s) (length t) (pair_of_two (at l.attributes i) (at m.attributes j)) ≡ true
  unfolding ends_within pair_of_two single end_of
  pair-within i j n = rw (le-leb _ _ (ok i j n).source, le-leb _ _ (ok i j n).target)

  lines-pass : passes (point_lines l m (length s) (length t)) ≡ true
  unfolding point_lines passes all not_holding
  lines-pass = rw (x, y, each-pair l m has_cast pair-cast, each-pair l m (ends_within (length s) (length t)) pair-within)

  is-got : (u : List ℕ) × (convert_point l m s t ≡ got u)
  unfolding convert_point check outcome
  is-got = (converted (pairs l m) s 1 t, rw (passes-accepted (point_lines l m (length s) (length t)) lines-pass))

pub convert-claim : ConvertClaim
convert-claim = record { converted = is-converted; accepted = is-got }
