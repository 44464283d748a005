-- `plans::plan::all_fit` meets its contract. The invariant: both tests of the mappings passed.
use Rattle.std.specs.Prelude.{◌≡◌, ◌<◌, ◌+◌, Result, is_ok}
use Rattle.std.specs.Prelude.{is_some}
use Rattle.std.proofs.lemmas.List.{take_all}
use Rattle.common.specs.Logic.{◌∙◌, sym, ap, refl, true, Bool, false, not, not-false, List, ℕ, None, Some, Option, arith, length, take, get_or}
use Rattle.common.specs.Lists.{all, pairwise, against, place_from}
use Rattle.common.specs.declared.Refusal.{Refusal}
use Rattle.common.specs.Refusal.{answered, answer, accepts}
use Rattle.common.proofs.Lists.{clash, all_snoc, pairwise-snoc}
use Rattle.common.proofs.Refusals.{accepts-passes, ok-accepts}
use Rattle.layout.specs.Layout.{Layout}
use Rattle.layout.specs.Lookup.{is_found}
use Rattle.plans.specs.Makers.{has_target, mapping_lines}
use Rattle.plans.specs.Plan.{other_target}
use Rattle.plans.specs.Records.{no_mapping, mapped}
use Rattle.plans.specs.Steps.{fits, all_fit}
use Rattle.plans.specs.declared.plan.Mapping.{Mapping}
use Rattle.plans.proofs.Mappings.{unfit, repeated}
use Rattle.plans.proofs.Slots.{mapped-none, mapped-more, mapped-take, found-other}
use Rattle.plans.proofs.plan.all_fit.Goals.{then-is_err-via-then-is_err, then-is_err-via-else-is_err+then-is_some}
use Rattle.plans.proofs.plan.all_fit.Goals as goal

-- the check of one mapping
fits-is : (l m : Layout) (x : Mapping) (r : Result (Unit {0}) Refusal) (b : Bool) → answered r ≡ answer (mapping_lines l m x) → is_ok r ≡ not b → fits l m x ≡ not b
unfolding fits
fits-is l m x r b e n = sym (accepts-passes (mapping_lines l m x)) ∙ ap accepts (sym e) ∙ sym (ok-accepts r) ∙ n

-- the search of its target among those before it
found-is : (o : Option ℕ) {b : Bool} → b ≡ is_some o → b ≡ true → (k : ℕ) × (o ≡ Some k)
found-is None e h = clash h e
found-is (Some k) e h = (k, refl)

none-is : (o : Option ℕ) {b : Bool} → b ≡ is_some o → b ≡ false → o ≡ None
none-is None e h = refl
none-is (Some k) e h = clash e h

module _ (ms : List Mapping) (i : ℕ) (h : i < length ms) where
  before-is : (j : ℕ) {o p : Option ℕ} → o ≡ place_from 0 (has_target j) (take i ms) → o ≡ p → place_from 0 (has_target j) (mapped ms i) ≡ p
  before-is j e q = rw (mapped-take ms i (omega arith)) (sym e ∙ q)

  fit-turn : (l m : Layout) → all (fits l m) (mapped ms i) ≡ true → fits l m (get_or ms i no_mapping) ≡ true → all (fits l m) (mapped ms (i + 1)) ≡ true
  fit-turn l m v f = rw mapped-more (all_snoc (fits l m) (mapped ms i) (get_or ms i no_mapping) ∙ rw (v, f))

  distinct-turn : pairwise other_target (mapped ms i) ≡ true → place_from 0 (has_target (get_or ms i no_mapping).target) (mapped ms i) ≡ None → pairwise other_target (mapped ms (i + 1)) ≡ true
  unfolding is_found
  distinct-turn v n =
      let x = get_or ms i no_mapping in
      let k : not (all (against other_target x) (mapped ms i)) ≡ false = sym (found-other 0 x (mapped ms i)) ∙ rw n in
      rw mapped-more (pairwise-snoc other_target (mapped ms i) x ∙ rw (v, not-false _ k))

whole : (l m : Layout) (ms : List Mapping) (i : ℕ) → i ≡ length ms → all (fits l m) (mapped ms i) ≡ true → pairwise other_target (mapped ms i) ≡ true → true ≡ all_fit l m ms
unfolding all_fit
whole l m ms i e v w =
    let q : mapped ms i ≡ ms = mapped-take ms i (omega arith) ∙ take_all i ms (omega arith) in
    rw (← q, v, w)

none-yet : (l m : Layout) (ms : List Mapping) → (all (fits l m) (mapped ms 0) ≡ true) × (pairwise other_target (mapped ms 0) ≡ true)
unfolding all pairwise
none-yet l m ms = rw mapped-none (refl, refl)

pub loop-i-init : goal.loop-i-init
loop-i-init c = none-yet _ _ _

pub returns-then-is_err : goal.returns-then-is_err
returns-then-is_err c =
    elim c.then-is_err.branch [
      | then-is_err-via-then-is_err w ↦ unfit _ _ c.args.mappings.now c.loop-i.i (omega arith) (fits-is _ _ _ c.check_mapping.result c.is_err.result c.check_mapping.ensures c.is_err.ensures.negation ∙ ap not w.if-is_err.true)
      | then-is_err-via-else-is_err+then-is_some w ↦ let f = found-is w.place_of_target.result w.is_some.ensures w.if-is_some.true in repeated _ _ c.args.mappings.now c.loop-i.i (omega arith) (before-is c.args.mappings.now c.loop-i.i (omega arith) _ w.place_of_target.ensures f.1)
    ]

pub loop-i-preserved : goal.loop-i-preserved
loop-i-preserved c = (
  fit-turn c.args.mappings.now c.loop-i.i (omega arith) _ _ c.loop-i.invariant.0 (fits-is _ _ _ c.check_mapping.result c.is_err.result c.check_mapping.ensures c.is_err.ensures.negation ∙ ap not c.if-is_err.false),
  distinct-turn c.args.mappings.now c.loop-i.i (omega arith) c.loop-i.invariant.1 (before-is c.args.mappings.now c.loop-i.i (omega arith) _ c.place_of_target.ensures (none-is c.place_of_target.result c.is_some.ensures c.if-is_some.false)),
)

pub returns : goal.returns
returns c = whole _ _ c.args.mappings.now c.loop-i.i (omega arith) c.loop-i.invariant.0 c.loop-i.invariant.1
