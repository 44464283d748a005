-- `set_custom_mapping` replaces the mapping of its target or joins the end; when it gives a plan.
use Rattle.std.specs.Prelude.{◌≡◌, ◌∷◌, ◌++◌, ◌<◌}
use Rattle.common.specs.Logic.{◌∙◌, sym, ap, refl, subst, true, List, [], None, Some, Option, ℕ, not-false, lt-ltb, eq-eqb, eqb-true, length, get_or, set, length-set}
use lib.Seq.{get_or-set_same, get_or-set_other}
use Rattle.common.specs.Lists.{all, place_from}
use Rattle.common.specs.Refusal.{got, outcome, check, not_holding, passes}
use Rattle.common.proofs.Lists.{clash, equal, place_found, place-misses}
use Rattle.common.proofs.Refusals.{passes-cons, passes-accepted, check-got}
use Rattle.pairs.specs.declared.pair.Pair.TheVariants.{Nothing}
use Rattle.plans.specs.Claims.{mapping_at, pair_between, Replaced, Put, CustomClaim}
use Rattle.plans.specs.Makers.{has_target, placed_at, with_mapping, mapping_lines, custom_plan, custom_lines, set_custom_mapping}
use Rattle.plans.specs.Plan.{Plan, is_listed, has_pair, is_sound_plan}
use Rattle.plans.specs.Records.{no_mapping}
use Rattle.plans.specs.declared.plan.Mapping.{Mapping}
use Rattle.plans.proofs.Facts.{entry-from, sound-facts}

module _ (p : Plan) (i j : ℕ) (s : is_sound_plan p ≡ true) where
  abbrev new : Mapping
  new = record { source = i; target = j }

  -- targets are distinct, so the mapping of the target is found at its place
  at_its_place : (k : ℕ) → k < length p.mappings → (mapping_at p k).target ≡ j → place_from 0 (has_target j) p.mappings ≡ Some k
  unfolding has_target
  at_its_place k h e = go (place_from 0 (has_target j) p.mappings) refl
    where
      go : (o : Option ℕ) → place_from 0 (has_target j) p.mappings ≡ o → o ≡ Some k
      go None q = clash (eq-eqb _ _ e) (place-misses 0 (has_target j) p.mappings k no_mapping q h)
      go (Some n) q =
          let f = place_found (has_target j) p.mappings n no_mapping q in
          ap Some (equal n k (λ d. (sound-facts p s).distinct n k f.0 h d (eqb-true _ _ f.1 ∙ sym e)))

  nowhere : ((k : ℕ) → k < length p.mappings → (mapping_at p k).target ≡ j → ⊥) → place_from 0 (has_target j) p.mappings ≡ None
  unfolding has_target
  nowhere out = go (place_from 0 (has_target j) p.mappings) refl
    where
      go : (o : Option ℕ) → place_from 0 (has_target j) p.mappings ≡ o → o ≡ None
      go None q = refl
      go (Some n) q = let f = place_found (has_target j) p.mappings n no_mapping q in absurd (out n f.0 (eqb-true _ _ f.1))

  in_place : (k : ℕ) → k < length p.mappings → (mapping_at p k).target ≡ j → with_mapping p.mappings new ≡ set p.mappings k new
  unfolding with_mapping placed_at
  in_place k h e = ap (placed_at p.mappings new) (at_its_place k h e)

  at-end : ((k : ℕ) → k < length p.mappings → (mapping_at p k).target ≡ j → ⊥) → with_mapping p.mappings new ≡ p.mappings ++ (new ∷ [])
  unfolding with_mapping placed_at
  at-end out = ap (placed_at p.mappings new) (nowhere out)

  replaced : (k : ℕ) → k < length p.mappings → (mapping_at p k).target ≡ j → Replaced p (custom_plan p new) i j k
  unfolding custom_plan
  replaced k h e =
      let q = in_place k h e in
      record {
        count = ap length q ∙ length-set p.mappings k new;
        new = ap (λ (ms : List Mapping). get_or ms k no_mapping) q ∙ get_or-set_same p.mappings k new no_mapping h;
        others = λ n d. ap (λ (ms : List Mapping). get_or ms n no_mapping) q ∙ get_or-set_other p.mappings k n new no_mapping d;
      }

  put : Put p (custom_plan p new) i j
  unfolding custom_plan
  put = record { source = refl; target = refl; replaces = replaced; joins = at-end }

  -- ---- accepted calls

  module _ (a : i < length p.source.attributes) (b : j < length p.target.attributes) (e : pair_between p.source p.target i j ≡ Nothing → ⊥) where
    lines-pass : passes (custom_lines p new) ≡ true
    unfolding custom_lines mapping_lines is_listed has_pair passes all not_holding
    lines-pass = rw (s, lt-ltb i (length p.source.attributes) a, lt-ltb j (length p.target.attributes) b, entry-from _ e)

    is-got : (q : Plan) × (set_custom_mapping p i j ≡ got q)
    unfolding set_custom_mapping check outcome
    is-got = (custom_plan p new, rw (passes-accepted (custom_lines p new) lines-pass))

is-put : (p q : Plan) (i j : ℕ) → set_custom_mapping p i j ≡ got q → Put p q i j
unfolding set_custom_mapping custom_lines
is-put p q i j h =
    let g = check-got _ _ _ h in
    subst (λ (r : Plan). Put p r i j) g.1 (put p i j (not-false _ (passes-cons _ _ _ g.0).0))

pub custom-claim : CustomClaim
custom-claim = record { put = is-put; accepted = is-got }
