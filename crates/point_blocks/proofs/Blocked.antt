-- A file that is converted block after block is converted as if in one: the block of what the whole file gives holds what each write of the
-- block's own conversion stores, and zeros elsewhere, and nothing else does.
use Rattle.std.specs.Prelude.{◌≡◌, ◌≤◌, ◌<◌, ◌+◌, ◌-◌, ◌*◌}
use Rattle.common.specs.Logic.{◌∙◌, sym, ap, subst, true, List, map, ⊎_elim, ℕ, zero-add, arith, length, get_or, length-replicate, get_or-eq_default}
use Rattle.common.specs.Refusal.{got, answer, outcome, check, answer_of}
use Rattle.common.specs.Refusal.{Accepted}
use Rattle.common.proofs.Lists.{order}
use Rattle.attribute_conversion.specs.Attributes.{cast_bytes}
use Rattle.writes.specs.Claims.{Hits, DisjointWrites}
use Rattle.writes.specs.Writes.{Write, begins, written}
use Rattle.writes.proofs.Mapped.{WrittenBy, by-each, of-each}
use Rattle.writes.proofs.Whole.{claimed, unique, length-written}
use Rattle.plans.specs.Claims.{mapping_at, Facts}
use Rattle.plans.specs.Plan.{Plan, is_sound_plan}
use Rattle.plans.specs.Records.{no_mapping}
use Rattle.plans.proofs.Facts.{sound-facts}
use Rattle.buffer_conversion.specs.Conversion.{write_of, conversion_lines, convert_into_range}
use Rattle.buffer_conversion.proofs.Checks.{answer-is}
use Rattle.buffer_conversion.proofs.Demand.{conversion-claim}
use Rattle.buffer_conversion.proofs.Written.{writes-disjoint}
use Rattle.point_buffer.specs.Claims.{InAttribute}
use Rattle.point_buffer.specs.Places.{datatype_at, point_bytes, located, length_of}
use Rattle.point_buffer.specs.declared.Storage.{Storage}
use Rattle.point_blocks.specs.Blocks.{zeros, whole, block_of}
use Rattle.point_blocks.specs.Claims.{BlockWith, BlocksClaim}
use Rattle.point_blocks.specs.Parts.{part_at, block_in}
use Rattle.point_blocks.proofs.BlockBytes.{block-length, block-byte, in-part, same_byte, same_bytes_lem, SameBlock, told}
use Rattle.point_blocks.proofs.Claimed.{getD-zeros, whole-checked}
use Rattle.point_blocks.proofs.Covered.{back}
use Rattle.point_blocks.proofs.LostInBlocks.{lost-in-blocks}

-- ---- the conversion of all of n points

module _ (p : Plan) (sound : is_sound_plan p ≡ true) (a b : Storage) where
  facts : Facts p
  facts = sound-facts p sound

  abbrev none : ℕ → List ℕ
  none n = zeros (n * point_bytes p.target b)

  abbrev write : ℕ → List ℕ → ℕ → Write
  write n s k = write_of p s (whole a n) (whole b n) (mapping_at p k)

  abbrev result : ℕ → List ℕ → List ℕ
  result n s = written (map (write_of p s (whole a n) (whole b n)) p.mappings) (length_of (whole b n)) (none n)

  module _ (n : ℕ) (s : List ℕ) (long : length s ≡ n * point_bytes p.source a) where
    passes : answer (conversion_lines p (length s) (whole a n) (length (none n)) (whole b n)) ≡ Accepted
    unfolding answer_of
    passes = answer-is p s (whole a n) (none n) (whole b n) ∙ ap answer_of (conversion-claim p s (whole a n) (none n) (whole b n) (whole-checked p a b n s sound long)).1.done

    done : block_of p a b n s (n * point_bytes p.target b) ≡ got (result n s)
    unfolding block_of convert_into_range check outcome
    done = rw passes

    disjoint : DisjointWrites (map (write_of p s (whole a n) (whole b n)) p.mappings) (length_of (whole b n)) (length (none n))
    disjoint = writes-disjoint p sound (whole a n) (whole b n) (none n) (whole-checked p a b n s sound long).target s

    stored : WrittenBy (write_of p s (whole a n) (whole b n)) p.mappings no_mapping (length_of (whole b n)) (none n) (result n s)
    stored = by-each _ _ no_mapping _ _ _ (claimed _ _ _ disjoint)

  -- a byte of a write is one of its attribute's
  module _ (n : ℕ) (s : List ℕ) (k : ℕ) (hk : k < length p.mappings) {z i : ℕ} where
    hit-in : {c : ℕ} → Hits (write n s k) (length_of (whole b n)) z i c → InAttribute p.target b n (mapping_at p k).target i z
    unfolding write_of
    hit-in H = record { place = facts.target-listed k hk; point = omega (arith, H.point); first = omega (arith, H.place); last = omega (arith, H.place, H.byte) }

    in-hit : InAttribute p.target b n (mapping_at p k).target i z → Hits (write n s k) (length_of (whole b n)) z i (z - begins (located p.target b n (mapping_at p k).target) i)
    unfolding write_of
    in-hit I = record { point = omega (arith, I.point); byte = omega (arith, I.first, I.last); place = omega (arith, I.first) }

  -- ---- a block of it
  module _ (points first count : ℕ) (h : first + count ≤ points) (src : List ℕ) (long : length src ≡ points * point_bytes p.source a) where
    abbrev inner : List ℕ
    inner = block_in p.source a points first count src

    abbrev outer : List ℕ
    outer = result points src

    abbrev block : List ℕ
    block = block_in p.target b points first count outer

    inner-long : length inner ≡ count * point_bytes p.source a
    inner-long = block-length p.source facts.source a points first count h src long

    outer-long : length outer ≡ points * point_bytes p.target b
    outer-long = length-written _ _ (none points) ∙ length-replicate {A = ℕ} (points * point_bytes p.target b) 0

    values : (k i : ℕ) → k < length p.mappings → i < count → (write points src k).value (first + i) ≡ (write count inner k).value i
    unfolding write_of
    values k i hk hi =
        rw (zero-add i, zero-add (first + i))
        (ap (cast_bytes (datatype_at p.source (mapping_at p k).source) (datatype_at p.target (mapping_at p k).target))
        (sym (same_bytes_lem p.source facts.source a points first count h src long (mapping_at p k).source i (facts.source-listed k hk) hi)))

    holds : (k z i c : ℕ) → k < length p.mappings → Hits (write count inner k) (length_of (whole b count)) z i c → get_or block z 0 ≡ get_or ((write count inner k).value i) c 0
    unfolding write_of
    holds k z i c hk H =
        let j = (mapping_at p k).target in
        let I = hit-in count inner k hk H in
        let e : z ≡ begins (located p.target b count j) i + c = omega (arith, H.place) in
        ap (λ (y : ℕ). get_or block y 0) e
        ∙ same_byte p.target facts.target b points first count h outer outer-long j i c I.place I.point H.byte
        ∙ (stored points src long).holds k (begins (located p.target b points j) (first + i) + c) (first + i) c hk
        (record { point = omega (arith, I.point); byte = H.byte; place = omega arith })
        ∙ ap (λ (v : List ℕ). get_or v c 0) (values k i hk I.point)

    kept : (z : ℕ) → ((k i c : ℕ) → k < length p.mappings → Hits (write count inner k) (length_of (whole b count)) z i c → ⊥) → get_or block z 0 ≡ get_or (none count) z 0
    kept z out =
        ⊎_elim (λ (g : length block ≤ z). get_or-eq_default block 0 g)
        (λ (g : z < length block).
        let f = in-part p.target facts.target b points first count h outer outer-long z g in
        ap (λ (y : ℕ). get_or block y 0) f.is
        ∙ block-byte p.target facts.target b points first count h outer outer-long f.k f.y f.listed f.inside
        ∙ (stored points src long).kept ((part_at p.target b points first count f.k).at + f.y)
        (λ k i c hk H.
        let r = back p.target facts.target points first count h b f.k f.y (mapping_at p k).target i f.listed f.inside (hit-in points src k hk H) in
        out k (i - first) _ hk (in-hit count inner k hk (subst (InAttribute p.target b count (mapping_at p k).target (i - first)) (sym f.is) r.1)))
        ∙ getD-zeros (points * point_bytes p.target b) ((part_at p.target b points first count f.k).at + f.y))
        (order (length block) z)
        ∙ sym (getD-zeros (count * point_bytes p.target b) z)

    block-is : block ≡ result count inner
    block-is =
        unique _ _ _ (disjoint count inner inner-long) block
        (of-each (write_of p inner (whole a count) (whole b count)) p.mappings no_mapping (length_of (whole b count)) (none count) block
        (record {
          same_length = block-length p.target facts.target b points first count h outer outer-long ∙ sym (length-replicate {A = ℕ} (count * point_bytes p.target b) 0);
          holds = holds;
          kept = kept;
        }))

    pub in_one : (r : List ℕ) → block_of p a b points src (points * point_bytes p.target b) ≡ got r
        → block_of p a b count inner (count * point_bytes p.target b) ≡ got (block_in p.target b points first count r)
    in_one r e =
        let d = done points src long in
        let q : outer ≡ r = cc in
        done count inner inner-long ∙ ap got (sym block-is ∙ ap (block_in p.target b points first count) q)

-- ---- all of them

module _ (p : Plan) (sound : is_sound_plan p ≡ true) (a b : Storage) (points : ℕ) (src t : List ℕ) (long : length src ≡ points * point_bytes p.source a) where
  same_block : (e : ℕ) → BlockWith p a b points src t e → SameBlock p.target b points e (result p sound a b points src) t
  same_block e w =
      let d = in_one p sound a b points w.first w.count w.inside src long (result p sound a b points src) (done p sound a b points src long) in
      record { first = w.first; count = w.count; from = w.from; to = w.to; inside = w.inside; same = cc w.converted }

  pub all_blocks : length t ≡ points * point_bytes p.target b → ((e : ℕ) → e < points → BlockWith p a b points src t e) → block_of p a b points src (points * point_bytes p.target b) ≡ got t
  all_blocks g w =
      done p sound a b points src long
      ∙ ap got (told p.target (sound-facts p sound).target b points (result p sound a b points src) t
      (length-written _ _ (zeros (points * point_bytes p.target b)) ∙ length-replicate {A = ℕ} (points * point_bytes p.target b) 0) g (λ e q. same_block e (w e q)))

pub blocks-claim : BlocksClaim
blocks-claim p a b points source s e =
    record {
      each = λ first count t h g. in_one p s a b points first count h source e t g;
      all = λ t g w. all_blocks p s a b points source t e g w;
      lost = lost-in-blocks p s a points source e;
    }
