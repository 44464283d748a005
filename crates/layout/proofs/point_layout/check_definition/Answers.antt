-- `layout::point_layout::check_definition` meets its contract.
use Rattle.std.specs.Prelude.{◌≡◌, ◌<◌, ◌≤◌, Result}
use Rattle.common.specs.Logic.{◌∙◌, sym, ap, true, Bool, false, rules, ℕ, min, arith, lt-leb}
use Rattle.common.specs.Lists.{first}
use Rattle.common.specs.declared.Refusal.{Refusal}
use Rattle.common.specs.Refusal.{Refused, answer, answered, outcome_of}
use Rattle.common.proofs.Lists.{length-first}
use Rattle.datatype.specs.Datatype.{datatype_of}
use Rattle.datatype.specs.declared.datatype.Properties.{Properties}
use Rattle.datatype.proofs.Properties.{lines-in}
use Rattle.layout.specs.Layout.{good_name, definition_lines}
use Rattle.layout.specs.Records.{definition_of}
use Rattle.layout.specs.declared.point_layout.PointAttributeDefinition.{PointAttributeDefinition}
use Rattle.layout.proofs.point_layout.check_definition.Goals.{then-definition-gt31-via-then-definition-gt31, then-definition-gt31-via-else-definition-gt31+then-not-good_name}
use Rattle.layout.proofs.point_layout.check_definition.Goals as goal

module _ (d : PointAttributeDefinition) where
  long : 31 < d.name_len → good_name (definition_of d).name ≡ false
  unfolding definition_of good_name
  long h = rw (length-first 0 d.name d.name_len, lt-leb d.name_len 31 h)

  -- a name of at most 31 bytes is what its slice shows
  short : {b : Bool} → d.name_len ≤ 31 → b ≡ good_name (first 0 d.name (min d.name_len 31)) → b ≡ good_name (definition_of d).name
  unfolding definition_of
  short h e = let z : min d.name_len 31 ≡ d.name_len = omega arith in e ∙ ap (λ (n : ℕ). good_name (first 0 d.name n)) z

  bad : good_name (definition_of d).name ≡ false → Refused 4 ≡ answer (definition_lines (definition_of d))
  unfolding definition_lines answer
  bad h = rw h

  good : good_name (definition_of d).name ≡ true → (r : Result Properties Refusal) → outcome_of r ≡ datatype_of d.datatype → answered r ≡ answer (definition_lines (definition_of d))
  unfolding definition_lines answer definition_of
  good h r e = lines-in d.datatype r e ∙ rw h

pub returns-then-definition-gt31 : goal.returns-then-definition-gt31
returns-then-definition-gt31 c = bad c.args.definition (elim c.then-definition-gt31.branch [
  | then-definition-gt31-via-then-definition-gt31 w ↦ long c.args.definition w.if-definition-gt31.true
  | then-definition-gt31-via-else-definition-gt31+then-not-good_name w ↦ sym (short c.args.definition (omega (arith, w.if-definition-gt31.false)) (w.good_name.ensures ∙ ap good_name w.name_bytes.ensures)) ∙ w.if-not-good_name.true
])

pub returns-in_err-datatype_of : goal.returns-in_err-datatype_of
returns-in_err-datatype_of c =
    let d = c.args.definition in
    let k = good d (sym (short d (omega (arith, c.if-definition-gt31.false)) (c.good_name.ensures ∙ ap good_name c.name_bytes.ensures)) ∙ c.if-not-good_name.false) c.datatype_of.result c.datatype_of.ensures in
    rw (← k, c.in_err-datatype_of.was) (search rules)

pub returns : goal.returns
returns c =
    let d = c.args.definition in
    let k = good d (sym (short d (omega (arith, c.if-definition-gt31.false)) (c.good_name.ensures ∙ ap good_name c.name_bytes.ensures)) ∙ c.if-not-good_name.false) c.datatype_of.result c.datatype_of.ensures in
    rw (← k, c.in_ok-datatype_of.was)
