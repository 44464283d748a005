-- What a sound plan says of each mapping, and that a plan of which it holds is sound.
use Rattle.std.specs.Prelude.{◌≡◌, ◌&&◌, ◌≤◌, ◌<◌}
use Rattle.common.specs.Logic.{sym, refl, true, Bool, List, ⊎_elim, ℕ, arith, lt-ltb, eq-eqb, ne_eqb, not-true, ltb-true, ltb, length, get_or}
use Rattle.common.specs.Lists.{all, pairwise}
use Rattle.common.proofs.Lists.{and_left, and_right, clash, decide, order, all-at, all-fails, pairwise-at, pairwise-fails, first-at}
use Rattle.datatype.proofs.Properties.{same-datatype-claim}
use Rattle.layout.specs.Layout.{at}
use Rattle.layout.proofs.Soundness.{count-few}
use Rattle.pairs.specs.Pairs.{pair_of, has_entry}
use Rattle.pairs.specs.declared.pair.Pair.{Pair}
use Rattle.pairs.specs.declared.pair.Pair.TheVariants.{Copy, Cast, Nothing}
use Rattle.pairs.proofs.PairRule.{has-entry}
use Rattle.pairs.proofs.Castable.{custom-same}
use Rattle.plans.specs.Claims.{mapping_at, Facts, SoundClaim, CustomMappingClaim}
use Rattle.plans.specs.Plan.{Plan, is_listed, has_pair, other_target, is_sound_plan}
use Rattle.plans.specs.Records.{no_mapping, mapped, plan_of}
use Rattle.plans.specs.declared.plan.Plan.{Plan as PlanRecord}
use Rattle.plans.proofs.Mappings.{SoundPlan, plan-has, plan-from, few-mappings}
use Rattle.plans.proofs.Slots.{length-mapped}

module _ (p : Plan) (s : SoundPlan p) where
  listed-both : (k : ℕ) → k < length p.mappings → (ltb (mapping_at p k).source (length p.source.attributes) && ltb (mapping_at p k).target (length p.target.attributes)) ≡ true
  unfolding is_listed
  listed-both k h = all-at (is_listed p.source p.target) p.mappings k no_mapping s.listed h

  two-targets : (i k : ℕ) → i < k → k < length p.mappings → (mapping_at p i).target ≡ (mapping_at p k).target → ⊥
  unfolding other_target
  two-targets i k l h e =
      clash (eq-eqb (mapping_at p i).target (mapping_at p k).target e) (not-true _ (pairwise-at other_target p.mappings i k no_mapping s.distinct l h))

  pair-entry : (k : ℕ) → k < length p.mappings
      → pair_of (at p.source.attributes (mapping_at p k).source).definition.datatype (at p.target.attributes (mapping_at p k).target).definition.datatype ≡ Nothing → ⊥
  unfolding has_pair
  pair-entry k h = has-entry (all-at (has_pair p.source p.target) p.mappings k no_mapping s.pairs h)

  facts : Facts p
  facts =
      record {
        source = s.source;
        target = s.target;
        source-listed = λ k h. ltb-true _ _ (and_left (ltb (mapping_at p k).source (length p.source.attributes)) (ltb (mapping_at p k).target (length p.target.attributes)) (listed-both k h));
        target-listed = λ k h. ltb-true _ _ (and_right (ltb (mapping_at p k).source (length p.source.attributes)) (ltb (mapping_at p k).target (length p.target.attributes)) (listed-both k h));
        distinct = λ i k a b n e. ⊎_elim (λ l. two-targets i k (omega arith) b e) (λ l. two-targets k i l a (sym e)) (order i k);
        pair = pair-entry;
      }

pub sound-facts : (p : Plan) → is_sound_plan p ≡ true → Facts p
sound-facts p h = facts p (plan-has p h)

-- ---- and from them

-- a test that no element fails
pub all_from : {A : Type 0} (t : A → Bool) (xs : List A) (d : A) → ((i : ℕ) → i < length xs → t (get_or xs i d) ≡ true) → all t xs ≡ true
all_from t xs d h = ⊎_elim (λ e. e) (λ e. let f = all-fails t xs d e in clash (h f.0 f.1) f.2) (decide (all t xs))

pairwise-from : {A : Type 0} (r : A → A → Bool) (xs : List A) (d : A) → ((i k : ℕ) → i < k → k < length xs → r (get_or xs i d) (get_or xs k d) ≡ true) → pairwise r xs ≡ true
pairwise-from r xs d h = ⊎_elim (λ e. e) (λ e. let f = pairwise-fails r xs d e in clash (h f.0 f.1 f.2 f.3) f.4) (decide (pairwise r xs))

pub entry-from : (q : Pair) → (q ≡ Nothing → ⊥) → has_entry q ≡ true
entry-from Copy n = refl
entry-from Cast n = refl
entry-from Nothing n = absurd (n refl)

module _ (p : Plan) (f : Facts p) where
  listed-from : (k : ℕ) → k < length p.mappings → is_listed p.source p.target (mapping_at p k) ≡ true
  unfolding is_listed
  listed-from k h = rw (lt-ltb _ _ (f.source-listed k h), lt-ltb _ _ (f.target-listed k h))

  distinct_from : (i k : ℕ) → i < k → k < length p.mappings → other_target (mapping_at p i) (mapping_at p k) ≡ true
  unfolding other_target
  distinct_from i k l h = rw (ne_eqb (mapping_at p i).target (mapping_at p k).target (f.distinct i k (omega arith) h (λ e. omega arith)))

  pair-from : (k : ℕ) → k < length p.mappings → has_pair p.source p.target (mapping_at p k) ≡ true
  unfolding has_pair
  pair-from k h = entry-from _ (f.pair k h)

  pub facts-sound : is_sound_plan p ≡ true
  facts-sound =
      plan-from p
      (record {
        source = f.source;
        target = f.target;
        listed = all_from (is_listed p.source p.target) p.mappings no_mapping listed-from;
        distinct = pairwise-from other_target p.mappings no_mapping distinct_from;
        pairs = all_from (has_pair p.source p.target) p.mappings no_mapping pair-from;
      })

pub sound-claim : SoundClaim
sound-claim = record { has = sound-facts; from = facts-sound }

-- ---- the record of a sound plan

module _ (p : PlanRecord) (h : is_sound_plan (plan_of p) ≡ true) where
  -- the counts are within their arrays
  pub plan-counts : (p.count ≤ 32) × (p.source.count ≤ 32) × (p.target.count ≤ 32)
  unfolding plan_of
  plan-counts =
      let s = plan-has (plan_of p) h in
      (omega (arith, few-mappings (plan_of p) s, length-mapped p.mappings p.count), count-few p.source s.source, count-few p.target s.target)

-- the k-th mapping is that of the array
pub mapping-here : (p : PlanRecord) (k : ℕ) → k < p.count → mapping_at (plan_of p) k ≡ get_or p.mappings k no_mapping
unfolding plan_of mapped
mapping-here p k h = first-at no_mapping p.mappings k p.count no_mapping h

pub mappings-count : (p : PlanRecord) → length (plan_of p).mappings ≡ p.count
unfolding plan_of
mappings-count p = length-mapped p.mappings p.count

pub custom-mapping-claim : CustomMappingClaim
custom-mapping-claim p s k h e = same-datatype-claim.only _ _ (custom-same _ _ ((sound-facts p s).pair k h) e)
