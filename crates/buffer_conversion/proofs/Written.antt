-- The writes of a sound plan share no byte of the target and lie within it, whatever the source holds.
use Rattle.std.specs.Prelude.{◌≡◌, ◌≤◌, ◌<◌, ◌+◌}
use Rattle.common.specs.Logic.{true, List, map, ℕ, arith, length}
use Rattle.common.proofs.Lists.{equal}
use Rattle.writes.proofs.Hits.{starts-at}
use Rattle.writes.specs.Claims.{Hits, DisjointWrites}
use Rattle.writes.proofs.Mapped.{disjoint_map}
use Rattle.point_buffer.specs.Claims.{InAttribute, Laid, RangeOf}
use Rattle.point_buffer.specs.Places.{place_in, LiesAt, length_of}
use Rattle.point_buffer.specs.declared.PointRange.{PointRange}
use Rattle.point_buffer.proofs.Laid.{spaced, storage-claim}
use Rattle.plans.specs.Claims.{mapping_at, Facts}
use Rattle.buffer_conversion.specs.Conversion.{write_of}
use Rattle.plans.specs.Plan.{Plan, is_sound_plan}
use Rattle.plans.specs.Records.{no_mapping}
use Rattle.plans.proofs.Facts.{sound-facts}

module _ (p : Plan) (sound : is_sound_plan p ≡ true) (from to : PointRange) (t : List ℕ) (R : RangeOf p.target to t) (src : List ℕ) where
  facts : Facts p
  facts = sound-facts p sound

  laid : Laid p.target to.storage to.count
  laid = storage-claim p.target to.storage to.count facts.target

  -- a byte of a mapping's write is one of its target attribute's
  pub lies : (k y i b : ℕ) → Hits (write_of p src from to (mapping_at p k)) (length_of to) y i b → LiesAt p.target to (mapping_at p k).target (to.start + i) y
  unfolding write_of
  lies k y i b g =
      let a = place_in p.target to (mapping_at p k).target in
      let e = starts-at a to.start i in
      (omega (arith, g.place, e), omega (arith, g.place, g.byte, e))

  in-attribute : (k y i b : ℕ) → k < length p.mappings → Hits (write_of p src from to (mapping_at p k)) (length_of to) y i b
      → InAttribute p.target to.storage to.count (mapping_at p k).target (to.start + i) y
  in-attribute k y i b h g =
      let l = lies k y i b g in
      record { place = facts.target-listed k h; point = omega (arith, R.inside, g.point); first = l.0; last = l.1 }

  spaced-at : (k : ℕ) → k < length p.mappings → (write_of p src from to (mapping_at p k)).size ≤ (write_of p src from to (mapping_at p k)).place.stride
  unfolding write_of
  spaced-at k h = spaced p.target facts.target to.storage to.count (mapping_at p k).target (facts.target-listed k h)

  pub writes-disjoint : DisjointWrites (map (write_of p src from to) p.mappings) (length_of to) (length t)
  writes-disjoint =
      disjoint_map (write_of p src from to) p.mappings no_mapping (length_of to) (length t) spaced-at
      (λ a b y i c e d ha hb g h. equal a b (λ n. facts.distinct a b ha hb n (laid.same_place _ _ _ _ y (in-attribute a y i c ha g) (in-attribute b y e d hb h))))
      (λ a y i b ha g.
      let x = in-attribute a y i b ha g in
      omega (arith, R.long, x.last, laid.within _ (to.start + i) x.place x.point))
