-- The lines of the mappings of a sound plan, mapping after mapping.
use Rattle.std.specs.Prelude.{◌≡◌, ◌++◌, ◌≤◌, ◌<◌, ◌+◌}
use Rattle.common.specs.Logic.{◌∙◌, sym, true, not, List, append_assoc, append-nil, flat_map, ℕ, arith, not-false, leb-true, length, get_or, take}
use Rattle.std.proofs.lemmas.List.{get_or-take, take_more, take_all}
use Rattle.common.specs.Lists.{all, first}
use Rattle.common.proofs.Lists.{and_left, flat_map-snoc, length-first, first-take}
use Rattle.common.proofs.Refusals.{passes-cons}
use Rattle.layout.specs.Layout.{printable, good_name, definition_lines, attribute_lines, good_attribute, absent}
use Rattle.layout.specs.Records.{definition_of, attribute_of, missing, layout_of}
use Rattle.layout.specs.declared.point_layout.PointAttributeMember.{PointAttributeMember}
use Rattle.layout.proofs.Listed.{length-listed, listed_at}
use Rattle.layout.proofs.Soundness.{good-at}
use Rattle.plans.specs.Claims.{mapping_at}
use Rattle.plans.specs.Plan.{is_sound_plan}
use Rattle.plans.specs.Records.{no_mapping, mapped, plan_of}
use Rattle.plans.specs.declared.plan.Mapping.{Mapping}
use Rattle.plans.specs.declared.plan.Plan.{Plan as PlanRecord}
use Rattle.plans.proofs.Facts.{sound-facts, plan-counts, mapping-here, mappings-count}
use Rattle.listing.specs.Text.{pair_line, mapping_line}

-- a good name has at most 31 bytes
good-name : (xs : List ℕ) (n : ℕ) → good_name (first 0 xs n) ≡ true → n ≤ 31
unfolding good_name
good-name xs n h = omega (arith, leb-true (length (first 0 xs n)) 31 (and_left _ (all printable (first 0 xs n)) h), length-first 0 xs n)

short-name : (m : PointAttributeMember) → good_attribute (attribute_of m) ≡ true → m.attribute_definition.name_len ≤ 31
unfolding good_attribute attribute_lines definition_lines attribute_of definition_of
short-name m h =
    let d = m.attribute_definition in
    good-name d.name d.name_len (not-false _ (passes-cons 4 (not (good_name (first 0 d.name d.name_len))) _ h).0)

-- the k-th mapping, as a loop over those that count reads it
abbrev pub item : PlanRecord → ℕ → Mapping
item p k = get_or (take p.count p.mappings) k no_mapping

-- the places of its members are within their arrays, and its line is theirs
pub record Turn (p : PlanRecord) (k : ℕ) : Type 0 where
  pub source : (item p k).source < 32
  pub target : (item p k).target < 32
  pub name : (get_or p.target.attributes (item p k).target missing).attribute_definition.name_len ≤ 31
  pub line : pair_line (attribute_of (get_or p.source.attributes (item p k).source missing)) (attribute_of (get_or p.target.attributes (item p k).target missing))
      ≡ mapping_line (plan_of p).source (plan_of p).target (item p k)

module _ (p : PlanRecord) (h : is_sound_plan (plan_of p) ≡ true) (k : ℕ) (l : k < p.count) where
  item-at : mapping_at (plan_of p) k ≡ item p k
  item-at = mapping-here p k l ∙ sym (get_or-take p.count p.mappings k no_mapping l)

  source-listed : (item p k).source < p.source.count
  unfolding plan_of layout_of
  source-listed =
      rw (← item-at, ← length-listed p.source.attributes p.source.count) ((sound-facts (plan_of p) h).source-listed k (omega (arith, mappings-count p)))

  target-listed : (item p k).target < p.target.count
  unfolding plan_of layout_of
  target-listed =
      rw (← item-at, ← length-listed p.target.attributes p.target.count) ((sound-facts (plan_of p) h).target-listed k (omega (arith, mappings-count p)))

  short : (get_or p.target.attributes (item p k).target missing).attribute_definition.name_len ≤ 31
  unfolding plan_of
  short = short-name _ (good-at p.target (item p k).target (sound-facts (plan_of p) h).target target-listed)

  same-line :
      pair_line (attribute_of (get_or p.source.attributes (item p k).source missing)) (attribute_of (get_or p.target.attributes (item p k).target missing))
      ≡ mapping_line (plan_of p).source (plan_of p).target (item p k)
  unfolding mapping_line plan_of layout_of
  same-line =
      rw (listed_at p.source.attributes (item p k).source p.source.count absent source-listed, listed_at p.target.attributes (item p k).target p.target.count absent target-listed)

  pub turn : Turn p k
  turn =
      record {
        source = omega (arith, source-listed, (plan-counts p h).1);
        target = omega (arith, target-listed, (plan-counts p h).2);
        name = short;
        line = same-line;
      }

-- ---- the lines of the first k mappings, put at the end of a text

abbrev pub lines_of : PlanRecord → ℕ → List ℕ
lines_of p k = flat_map (mapping_line (plan_of p).source (plan_of p).target) (take k (take p.count p.mappings))

module _ (p : PlanRecord) (t : List ℕ) where
  pub lines_none : t ≡ t ++ lines_of p 0
  unfolding flat_map
  lines_none = sym (append-nil t)

  -- a loop's turn
  pub lines_more : (k : ℕ) {u v : List ℕ} → k < length (take p.count p.mappings) → Turn p k → u ≡ t ++ lines_of p k
      → v ≡ u ++ pair_line (attribute_of (get_or p.source.attributes (item p k).source missing)) (attribute_of (get_or p.target.attributes (item p k).target missing)) → v ≡ t ++ lines_of p (k + 1)
  lines_more k l m a b =
      b ∙ rw (a, m.line, take_more (take p.count p.mappings) k no_mapping l, flat_map-snoc (mapping_line (plan_of p).source (plan_of p).target) (take k (take p.count p.mappings)) (item p k)) (append_assoc t _ _)

  pub lines-all : (k : ℕ) {u : List ℕ} → p.count ≤ length p.mappings → length (take p.count p.mappings) ≤ k → u ≡ t ++ lines_of p k
      → u ≡ t ++ flat_map (mapping_line (plan_of p).source (plan_of p).target) (plan_of p).mappings
  unfolding plan_of mapped
  lines-all k h l a = a ∙ rw (take_all k (take p.count p.mappings) l, first-take no_mapping p.mappings p.count h)
