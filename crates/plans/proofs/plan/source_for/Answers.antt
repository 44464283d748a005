-- `plans::plan::source_for` meets its contract: the lookup is not refused, since the source is sound and the name good.
use Rattle.std.specs.Prelude.{◌≡◌, ◌≤◌, ◌<◌, Result, Ok}
use Rattle.common.specs.Logic.{◌∙◌, sym, ap, rules, true, not, Some, Option, List, ℕ, arith, min, get_or}
use Rattle.common.specs.Lists.{first}
use Rattle.common.specs.declared.Refusal.{Refusal}
use Rattle.common.specs.Refusal.{answered, answer, line_answer, outcome_of}
use Rattle.layout.specs.Layout.{absent, good_attribute, is_sound}
use Rattle.layout.specs.Lookup.{get_attribute_by_name}
use Rattle.layout.specs.Records.{definition_of, attribute_of, missing, layout_of}
use Rattle.layout.specs.declared.point_layout.PointAttributeDefinition.{PointAttributeDefinition}
use Rattle.layout.specs.declared.point_layout.PointAttributeMember.{PointAttributeMember}
use Rattle.layout.specs.declared.point_layout.PointLayout.{PointLayout}
use Rattle.layout.proofs.Listed.{listed_at}
use Rattle.layout.proofs.Places.{found_ok, found_within, never-refused}
use Rattle.pairs.specs.Pairs.{pair_of, has_entry}
use Rattle.plans.specs.Makers.{source_of, lacks_pair}
use Rattle.plans.specs.Steps.{lines_by}
use Rattle.plans.specs.declared.plan.MissingSource.{MissingSource}
use Rattle.plans.specs.declared.plan.MissingSource.TheVariants.{Refuse, PassOver}
use Rattle.plans.proofs.Defaults.{name-is, source-refused, source-got, lines-some, none-refused, none-passed}
use Rattle.plans.proofs.plan.source_for.Goals as goal

module _ (l : PointLayout) (t : PointAttributeMember) (s : is_sound (layout_of l) ≡ true) (g : good_attribute (attribute_of t) ≡ true)
    (r : Result (Option ℕ) Refusal) (e : outcome_of r ≡ get_attribute_by_name (layout_of l) (first 0 t.attribute_definition.name (min t.attribute_definition.name_len 31))) where
  source_is : {o : Option ℕ} → r ≡ Ok o → source_of (layout_of l) (attribute_of t) ≡ o
  unfolding source_of
  source_is h = found_ok l t s g _ (name-is t g) r e h

  within : {i : ℕ} → r ≡ Ok (Some i) → (i < l.count) × (l.count ≤ 32)
  within h = found_within l t s g _ (name-is t g) r e h

  -- what the pair's check answers
  pair-told : (how : MissingSource) {i : ℕ} (q : Result (Unit {0}) Refusal) → r ≡ Ok (Some i)
      → answered q ≡ line_answer 14 (not (has_entry (pair_of (get_or l.attributes i missing).attribute_definition.datatype t.attribute_definition.datatype)))
      → answered q ≡ answer (lines_by how (layout_of l) (attribute_of t))
  unfolding lacks_pair layout_of attribute_of definition_of
  pair-told how {i} q h a =
      a ∙ sym (lines-some how (layout_of l) (attribute_of t) i (source_is h) ∙ rw (listed_at l.attributes i l.count absent (within h).0))

-- the lookup of the name's bytes
told : (l : PointLayout) (d : PointAttributeDefinition) {name : List ℕ} (r : Result (Option ℕ) Refusal) → name ≡ first 0 d.name (min d.name_len 31) → outcome_of r ≡ get_attribute_by_name (layout_of l) name
    → outcome_of r ≡ get_attribute_by_name (layout_of l) (first 0 d.name (min d.name_len 31))
told l d r n e = e ∙ ap (get_attribute_by_name (layout_of l)) n

pub returns-in_err-i : goal.returns-in_err-i
returns-in_err-i c = absurd (never-refused c.args.source.now c.args.target c.requires.0 c.requires.1 _ (name-is c.args.target c.requires.1) c.get_attribute_by_name.result (told c.args.source.now c.args.target.attribute_definition c.get_attribute_by_name.result c.name_bytes.ensures c.get_attribute_by_name.ensures) c.in_err-i.was)

pub offset_bounds-source-i : goal.offset_bounds-source-i
offset_bounds-source-i c =
    let e = told c.args.source.now c.args.target.attribute_definition c.get_attribute_by_name.result c.name_bytes.ensures c.get_attribute_by_name.ensures in
    let w = within c.args.source.now c.args.target c.requires.0 c.requires.1 c.get_attribute_by_name.result e (c.in_ok-i.was ∙ ap Ok c.in-Some.is) in
    omega (arith, w.0, w.1)

pub bounds-source-i : goal.bounds-source-i
bounds-source-i c =
    let e = told c.args.source.now c.args.target.attribute_definition c.get_attribute_by_name.result c.name_bytes.ensures c.get_attribute_by_name.ensures in
    let w = within c.args.source.now c.args.target c.requires.0 c.requires.1 c.get_attribute_by_name.result e (c.in_ok-i.was ∙ ap Ok c.in-Some.is) in
    omega (arith, w.0, w.1)

pub returns-in_err-check_pair-in-Some : goal.returns-in_err-check_pair-in-Some
returns-in_err-check_pair-in-Some c =
    let e = told c.args.source.now c.args.target.attribute_definition c.get_attribute_by_name.result c.name_bytes.ensures c.get_attribute_by_name.ensures in
    let k = pair-told c.args.source.now c.args.target c.requires.0 c.requires.1 c.get_attribute_by_name.result e c.args.missing c.check_pair.result (c.in_ok-i.was ∙ ap Ok c.in-Some.is) c.check_pair.ensures in
    rw (← source-refused c.args.missing (layout_of c.args.source.now) (attribute_of c.args.target) (sym k ∙ ap answered c.in_err-check_pair-in-Some.was)) (search rules)

pub returns-in_ok-check_pair-in-Some : goal.returns-in_ok-check_pair-in-Some
returns-in_ok-check_pair-in-Some c =
    let e = told c.args.source.now c.args.target.attribute_definition c.get_attribute_by_name.result c.name_bytes.ensures c.get_attribute_by_name.ensures in
    let f = c.in_ok-i.was ∙ ap Ok c.in-Some.is in
    let k = pair-told c.args.source.now c.args.target c.requires.0 c.requires.1 c.get_attribute_by_name.result e c.args.missing c.check_pair.result f c.check_pair.ensures in
    source-got c.args.missing (layout_of c.args.source.now) (attribute_of c.args.target) (sym k ∙ ap answered c.in_ok-check_pair-in-Some.was)
    (source_is c.args.source.now c.args.target c.requires.0 c.requires.1 c.get_attribute_by_name.result e f)

pub returns-in-Refuse : goal.returns-in-Refuse
returns-in-Refuse c =
    let e = told c.args.source.now c.args.target.attribute_definition c.get_attribute_by_name.result c.name_bytes.ensures c.get_attribute_by_name.ensures in
    let n = source_is c.args.source.now c.args.target c.requires.0 c.requires.1 c.get_attribute_by_name.result e (c.in_ok-i.was ∙ ap Ok c.in-None.is) in
    rw c.in-Refuse.is (source-refused Refuse (layout_of c.args.source.now) (attribute_of c.args.target) (none-refused _ _ n))

pub returns-in-PassOver : goal.returns-in-PassOver
returns-in-PassOver c =
    let e = told c.args.source.now c.args.target.attribute_definition c.get_attribute_by_name.result c.name_bytes.ensures c.get_attribute_by_name.ensures in
    let n = source_is c.args.source.now c.args.target c.requires.0 c.requires.1 c.get_attribute_by_name.result e (c.in_ok-i.was ∙ ap Ok c.in-None.is) in
    rw c.in-PassOver.is (source-got PassOver (layout_of c.args.source.now) (attribute_of c.args.target) (none-passed _ _ n) n)
