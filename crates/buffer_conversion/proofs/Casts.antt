-- The strided casts that the code makes of a checked conversion: they are its writes, and they fit.
use Rattle.std.specs.Prelude.{◌≡◌, ◌∷◌, ◌≤◌, ◌<◌, ◌+◌}
use Rattle.common.specs.Logic.{sym, ap, refl, subst, ap₂, true, List, [], map, ℕ, arith, length, take, drop, length-map}
use Rattle.common.proofs.Lists.{all-at, map_at}
use Rattle.attribute_conversion.specs.Attributes.{cast_bytes}
use Rattle.writes.proofs.Hits.{starts-at}
use Rattle.writes.specs.Claims.{DisjointWrites}
use Rattle.writes.specs.Writes.{begins, starting_at, Write, written}
use Rattle.strided.specs.Steps.{no_cast, cast_at, RunFits, CastsFit}
use Rattle.strided.specs.Strided.{value_of, as_write, converted}
use Rattle.buffer_conversion.specs.Casts.{mapping_cast, casts}
use Rattle.plans.specs.Claims.{mapping_at}
use Rattle.buffer_conversion.specs.Claims.{Checked}
use Rattle.buffer_conversion.specs.Conversion.{write_of}
use Rattle.point_buffer.specs.Claims.{RangeOf}
use Rattle.point_buffer.specs.Places.{datatype_at, size_at, place_in, length_of}
use Rattle.point_buffer.specs.declared.PointRange.{PointRange}
use Rattle.point_buffer.proofs.Laid.{storage-claim}
use Rattle.layout.specs.Layout.{Layout, is_sound}
use Rattle.plans.specs.Plan.{Plan, has_pair}
use Rattle.plans.specs.Records.{no_mapping}
use Rattle.plans.specs.declared.plan.Mapping.{Mapping}
use Rattle.plans.proofs.Facts.{sound-facts}
use Rattle.plans.proofs.Mappings.{plan-has}
use Rattle.buffer_conversion.proofs.Written.{writes-disjoint}

-- ---- they are its writes

module _ (p : Plan) (src : List ℕ) (from to : PointRange) where
  write-is : (x : Mapping) → as_write src (mapping_cast p from to x) ≡ write_of p src from to x
  unfolding mapping_cast write_of value_of
  write-is x =
      let a = place_in p.source from x.source in
      let values : (i : ℕ) → value_of (mapping_cast p from to x) src i ≡ (write_of p src from to x).value i =
      λ i. ap (λ (m : ℕ). cast_bytes (datatype_at p.source x.source) (datatype_at p.target x.target) (take (size_at p.source x.source) (drop m src))) (starts-at a from.start i) in
      ap (λ (f : ℕ → List ℕ). record { place = starting_at to.start (place_in p.target to x.target); size = size_at p.target x.target; value = f })
      (λ j. λ i. values i j)

  all-writes : (xs : List Mapping) → map (as_write src) (map (mapping_cast p from to) xs) ≡ map (write_of p src from to) xs
  all-writes [] = refl
  all-writes (x ∷ xs) = ap₂ (λ (w : Write) (ws : List Write). w ∷ ws) (write-is x) (all-writes xs)

  pub writes_are : map (as_write src) (casts p from to) ≡ map (write_of p src from to) p.mappings
  unfolding casts
  writes_are = all-writes p.mappings

  pub casts-write : (n : ℕ) (t : List ℕ) → converted (casts p from to) src n t ≡ written (map (write_of p src from to) p.mappings) n t
  unfolding converted
  casts-write n t = ap (λ (ws : List Write). written ws n t) writes_are

-- ---- they fit

module _ (p : Plan) (from to : PointRange) where
  pub length-casts : length (casts p from to) ≡ length p.mappings
  unfolding casts
  length-casts = length-map p.mappings (mapping_cast p from to)

  pub cast-at : (k : ℕ) → k < length p.mappings → cast_at (casts p from to) k ≡ mapping_cast p from to (mapping_at p k)
  unfolding casts
  cast-at k h = map_at (mapping_cast p from to) p.mappings k no_mapping no_cast h

-- an attribute of a range's points lies within the buffer
in_buffer : (l : Layout) (r : PointRange) (bytes : List ℕ) → is_sound l ≡ true → RangeOf l r bytes → (j i : ℕ) → j < length l.attributes → i < length_of r
    → begins (starting_at r.start (place_in l r j)) i + size_at l j ≤ length bytes
in_buffer l r bytes s R j i hj hi =
    omega (arith, R.long, starts-at (place_in l r j) r.start i, (storage-claim l r.storage r.count s).within j (r.start + i) hj (omega (arith, R.inside)))

module _ (p : Plan) (src : List ℕ) (from : PointRange) (t : List ℕ) (to : PointRange) (C : Checked p src from t to) where
  run_fits : (k : ℕ) → k < length p.mappings → RunFits (mapping_cast p from to (mapping_at p k)) (length_of to) (length src) (length t)
  unfolding mapping_cast has_pair
  run_fits k h =
      let f = sound-facts p C.sound in
      record {
        pair = all-at (has_pair p.source p.target) p.mappings k no_mapping (plan-has p C.sound).pairs h;
        source = λ i l. in_buffer p.source from src f.source C.source (mapping_at p k).source i (f.source-listed k h) (omega (arith, C.as_long));
        target = λ i l. in_buffer p.target to t f.target C.target (mapping_at p k).target i (f.target-listed k h) l;
      }

  pub casts-fit : CastsFit (casts p from to) (length_of to) (length src) (length t)
  casts-fit =
      record {
        disjoint = λ s. subst (λ (ws : List Write). DisjointWrites ws (length_of to) (length t)) (sym (writes_are p s from to)) (writes-disjoint p C.sound from to t C.target s);
        fits = λ k h.
            let l : k < length p.mappings = omega (arith, length-casts p from to) in
            rw (cast-at p from to k l) (run_fits k l);
      }
