-- `layout::point_layout::PointLayout::offset_of` meets its contract: the offset at the place that `index_of` finds.
use Rattle.std.specs.Prelude.{◌≡◌, ◌≤◌, ◌<◌, Result, Ok, Err}
use Rattle.common.specs.Logic.{◌∙◌, sym, ap, refl, rules, Some, None, Option, ℕ, arith, not-false, get_or}
use Rattle.common.specs.declared.Refusal.{Refusal}
use Rattle.common.specs.Refusal.{Accepted, Refused, Answer, Outcome, got, refused, and_then, check, number_of, outcome, outcome_of}
use Rattle.common.proofs.Lists.{place_found}
use Rattle.common.proofs.Refusals.{passes-cons, check-got}
use Rattle.layout.specs.Lookup.{defined, index_of, offset_at, offset_of}
use Rattle.layout.specs.Layout.{Definition, Layout, absent}
use Rattle.layout.specs.Records.{definition_of, attribute_of, missing, listed, layout_of}
use Rattle.layout.specs.declared.point_layout.PointAttributeDefinition.{PointAttributeDefinition}
use Rattle.layout.specs.declared.point_layout.PointLayout.{PointLayout}
use Rattle.layout.proofs.Listed.{length-listed, listed_at}
use Rattle.layout.proofs.Soundness.{count-few}
use Rattle.layout.proofs.point_layout.PointLayout.offset_of.Goals as goal

after : (l : Layout) (d : Definition) → offset_of l d ≡ and_then (index_of l d) (λ o. got (offset_at l.attributes o))
unfolding offset_of index_of check outcome and_then
after l d = go _ _
  where
    go : (a : Answer) (o : Option ℕ) → outcome a (offset_at l.attributes o) ≡ and_then (outcome a o) (λ p. got (offset_at l.attributes p))
    go Accepted o = refl
    go (Refused n) o = refl

module _ (l : PointLayout) (d : PointAttributeDefinition) (r : Result (Option ℕ) Refusal) (e : outcome_of r ≡ index_of (layout_of l) (definition_of d)) where
  stopped : (x : Refusal) → r ≡ Err x → ◌≡◌ {A = Outcome (Option ℕ)} (refused (number_of x)) (offset_of (layout_of l) (definition_of d))
  unfolding and_then
  stopped x h = sym (after (layout_of l) (definition_of d) ∙ rw (← e, h))

  nothing : r ≡ Ok None → got None ≡ offset_of (layout_of l) (definition_of d)
  unfolding and_then offset_at
  nothing h = sym (after (layout_of l) (definition_of d) ∙ rw (← e, h))

  -- a place that was found is in the list, and the list in the array
  within : {i : ℕ} → r ≡ Ok (Some i) → (i < l.count) × (l.count ≤ 32)
  unfolding index_of layout_of
  within {i} h =
      let g = check-got _ _ _ (sym e ∙ ap outcome_of h) in
      let q = place_found (defined (definition_of d)) (listed l.attributes l.count) i absent g.1 in
      (omega (arith, q.0, length-listed l.attributes l.count), count-few l (not-false _ (passes-cons _ _ _ g.0).0))

  there : {i : ℕ} → r ≡ Ok (Some i) → got (Some (get_or l.attributes i missing).offset) ≡ offset_of (layout_of l) (definition_of d)
  unfolding and_then offset_at layout_of attribute_of
  there {i} h = sym (after (layout_of l) (definition_of d) ∙ rw (← e, h, listed_at l.attributes i l.count absent (within h).0))

pub returns-in_err-i : goal.returns-in_err-i
returns-in_err-i c = rw (← stopped c.args.self c.args.definition c.index_of.result c.index_of.ensures _ c.in_err-i.was) (search rules)

pub offset_bounds-self-i : goal.offset_bounds-self-i
offset_bounds-self-i c = let w = within c.args.self c.args.definition c.index_of.result c.index_of.ensures (c.in_ok-i.was ∙ ap Ok c.in-Some.is) in omega (arith, w.0, w.1)

pub bounds-self-i : goal.bounds-self-i
bounds-self-i c = let w = within c.args.self c.args.definition c.index_of.result c.index_of.ensures (c.in_ok-i.was ∙ ap Ok c.in-Some.is) in omega (arith, w.0, w.1)

pub returns-in-Some : goal.returns-in-Some
returns-in-Some c = there c.args.self c.args.definition c.index_of.result c.index_of.ensures (c.in_ok-i.was ∙ ap Ok c.in-Some.is)

pub returns-in-None : goal.returns-in-None
returns-in-None c = nothing c.args.self c.args.definition c.index_of.result c.index_of.ensures (c.in_ok-i.was ∙ ap Ok c.in-None.is)
