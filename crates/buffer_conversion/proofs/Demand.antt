-- Demand 3: a checked conversion is carried out, and the whole target buffer is then what the demand says.
use Rattle.std.specs.Prelude.{◌≡◌, ◌<◌, ◌+◌}
use Rattle.common.specs.Logic.{◌∙◌, refl, List, map, ℕ, arith, le-ltb, eq-eqb, length, length-take, length-drop}
use Rattle.common.specs.Refusal.{got, answer, outcome, check}
use Rattle.common.specs.Refusal.{Accepted}
use Rattle.attribute_conversion.specs.Attributes.{cast_bytes}
use Rattle.attribute_conversion.proofs.Claims.{copied}
use Rattle.attribute_conversion.proofs.Sizes.{length-cast}
use Rattle.writes.proofs.Hits.{starts-at}
use Rattle.writes.specs.Claims.{DisjointWrites, Written}
use Rattle.writes.specs.Writes.{Write, written}
use Rattle.writes.proofs.Mapped.{value-of, by-each}
use Rattle.writes.proofs.Whole.{claimed}
use Rattle.plans.specs.Claims.{mapping_at, Facts}
use Rattle.buffer_conversion.specs.Claims.{Checked, IsMapped, CarriedOut, ConversionClaim}
use Rattle.buffer_conversion.specs.Conversion.{write_of, buffer_lines, conversion_lines, convert_into_range}
use Rattle.point_buffer.specs.Places.{datatype_at, size_at, place_in, bytes_at, length_of}
use Rattle.point_buffer.specs.declared.PointRange.{PointRange}
use Rattle.point_buffer.proofs.Laid.{storage-claim}
use Rattle.plans.specs.Plan.{Plan}
use Rattle.plans.specs.Records.{no_mapping}
use Rattle.plans.proofs.Facts.{sound-facts}
use Rattle.buffer_conversion.proofs.Written.{lies, writes-disjoint}

module _ (p : Plan) (src : List ℕ) (from : PointRange) (t : List ℕ) (to : PointRange) (C : Checked p src from t to) where
  abbrev write : ℕ → Write
  write k = write_of p src from to (mapping_at p k)

  abbrev result : List ℕ
  result = written (map (write_of p src from to) p.mappings) (length_of to) t

  facts : Facts p
  facts = sound-facts p C.sound

  disjoint : DisjointWrites (map (write_of p src from to) p.mappings) (length_of to) (length t)
  disjoint = writes-disjoint p C.sound from to t C.target src

  holds : Written (map (write_of p src from to) p.mappings) (length_of to) t result
  holds = claimed (map (write_of p src from to) p.mappings) (length_of to) t disjoint

  module _ (k : ℕ) (h : k < length p.mappings) (i : ℕ) (hi : i < length_of to) where
    pub source-long : length (bytes_at p.source from (mapping_at p k).source (from.start + i) src) ≡ size_at p.source (mapping_at p k).source
    source-long =
        simp (length-take, length-drop)
        (omega (arith, C.source.long, (storage-claim p.source from.storage from.count facts.source).within (mapping_at p k).source (from.start + i) (facts.source-listed k h) (omega (arith, C.source.inside, C.as_long))))

    value-long : length ((write k).value i) ≡ (write k).size
    unfolding write_of
    value-long =
        length-cast (datatype_at p.source (mapping_at p k).source) (datatype_at p.target (mapping_at p k).target) _ (facts.pair k h) source-long

    cast-holds : bytes_at p.target to (mapping_at p k).target (to.start + i) result ≡ (write k).value i
    unfolding write_of
    cast-holds =
        let a = place_in p.target to (mapping_at p k).target in
        rw (← starts-at a to.start i) (value-of (write_of p src from to) p.mappings no_mapping (length_of to) t k h disjoint i hi value-long)

  cast-mapped : (i target source : ℕ) → i < length_of to → IsMapped p target source
      → bytes_at p.target to target (to.start + i) result ≡ cast_bytes (datatype_at p.source source) (datatype_at p.target target) (bytes_at p.source from source (from.start + i) src)
  unfolding write_of
  cast-mapped i target source hi m = rw (← m.target_is, ← m.source_is) (cast-holds m.by m.listed i hi)

  passes : answer (conversion_lines p (length src) from (length t) to) ≡ Accepted
  unfolding conversion_lines buffer_lines answer
  passes =
      simp (C.sound, eq-eqb _ _ C.source.long, eq-eqb _ _ C.target.long, le-ltb _ _ C.source.forward, le-ltb _ _ C.target.forward, eq-eqb _ _ C.as_long, le-ltb _ _ C.source.inside, le-ltb _ _ C.target.inside)

  done : convert_into_range p src from t to ≡ got result
  unfolding convert_into_range check outcome
  done = rw passes

  carried-out : CarriedOut p src from t to result
  carried-out =
      record {
        done = done;
        same_length = holds.same_length;
        cast = cast-mapped;
        copied = λ i target source hi m e. cast-mapped i target source hi m ∙ copied _ _ _ e;
        kept = λ y out.
            (by-each (write_of p src from to) p.mappings no_mapping (length_of to) t result holds).kept y
            (λ k i b hk g.
            out i (mapping_at p k).target (mapping_at p k).source g.point (record { by = k; listed = hk; target_is = refl; source_is = refl })
            (lies p C.sound from to t C.target src k y i b g));
      }

pub conversion-claim : ConversionClaim
conversion-claim p src from t to C = (result p src from t to C, carried-out p src from t to C)
