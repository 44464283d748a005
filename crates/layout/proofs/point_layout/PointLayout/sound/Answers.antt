-- `layout::point_layout::PointLayout::sound` meets its contract.
use Rattle.std.specs.Prelude.{◌≡◌, ◌&&◌, ◌≤◌, ◌<◌, ◌%◌}
use Rattle.common.specs.Logic.{◌∙◌, sym, refl, true, Bool, false, and-true, arith, le-leb, eqb, leb}
use Rattle.common.specs.Lists.{all, pairwise, greatest, every}
use Rattle.common.specs.Refusal.{accepts, answered}
use Rattle.common.proofs.Lists.{clash, all-at_most}
use Rattle.common.proofs.Refusals.{accepts-passes, ok-accepts, passes-flat_map}
use Rattle.datatype.specs.Arithmetic.{is_power_of_two}
use Rattle.datatype.proofs.Alignment.{power-positive}
use Rattle.layout.specs.Layout.{attribute_lines, good_attribute, end_of, disjoint, other_name, is_sound}
use Rattle.layout.specs.Records.{listed, layout_of}
use Rattle.layout.specs.Steps.{Examination}
use Rattle.layout.specs.declared.point_layout.Examined.{Examined}
use Rattle.layout.specs.declared.point_layout.PointLayout.{PointLayout}
use Rattle.layout.proofs.Listed.{length-listed}
use Rattle.layout.proofs.Soundness.{not_sound}
use Rattle.layout.proofs.point_layout.PointLayout.sound.Goals.{then-count-gt32-via-then-count-gt32, then-count-gt32-via-else-count-gt32+then-not-is_power_of_two, then-is_ok, else-is_ok, then-e, else-e, then-e-2, else-e-2}
use Rattle.layout.proofs.point_layout.PointLayout.sound.Goals as goal

module _ (l : PointLayout) where
  no-count : 32 < l.count → false ≡ is_sound (layout_of l)
  unfolding layout_of
  no-count h = sym (not_sound (layout_of l) (λ s. omega (arith, s.few, length-listed l.attributes l.count)))

  no_power : is_power_of_two l.alignment ≡ false → false ≡ is_sound (layout_of l)
  unfolding layout_of
  no_power h = sym (not_sound (layout_of l) (λ s. clash s.power h))

  good-is : (e : Examined) → Examination (listed l.attributes l.count) e → accepts (answered e.definitions) ≡ all good_attribute (listed l.attributes l.count)
  unfolding good_attribute
  good-is e x = rw x.definitions (accepts-passes _ ∙ passes-flat_map attribute_lines good_attribute (listed l.attributes l.count) (λ a. refl))

  regroup : (a b c d e : Bool) → ((((a && b) && c) && d) && e) ≡ (a && (b && (c && (d && (e && true)))))
  regroup true true true true e = sym (and-true e)
  regroup true true true false e = refl
  regroup true true false d e = refl
  regroup true false c d e = refl
  regroup false b c d e = refl

  -- the tests that were made, and what the definition asks
  whole : (e : Examined) {a b c d r : Bool} → l.count ≤ 32 → l.size ≤ 65535 → is_power_of_two l.alignment ≡ true → Examination (listed l.attributes l.count) e
      → a ≡ accepts (answered e.definitions) → b ≡ (a && e.names) → c ≡ (b && e.disjoint) → d ≡ (c && leb e.end l.size) → r ≡ (d && eqb (l.size % l.alignment) 0) → r ≡ is_sound (layout_of l)
  unfolding is_sound layout_of every
  whole e few small power x pa pb pc pd pr =
      let xs = listed l.attributes l.count in
      pr ∙ rw (pd, pc, pb, pa, good-is e x, x.names, x.disjoint, x.end, length-listed l.attributes l.count, le-leb _ _ few, le-leb _ _ small, power, all-at_most end_of l.size (listed l.attributes l.count))
      (regroup (all good_attribute xs) (pairwise other_name xs) (pairwise disjoint xs) (leb (greatest end_of xs) l.size) (eqb (l.size % l.alignment) 0))

-- a value that `&&` gives: that of its second side, or of its first
both : {x v : Bool} (y : Bool) → x ≡ true → v ≡ y → v ≡ (x && y)
both y h e = rw h e

first : {x v : Bool} (y : Bool) → x ≡ false → v ≡ x → v ≡ (x && y)
first y h e = e ∙ rw h refl

pub returns-then-count-gt32 : goal.returns-then-count-gt32
returns-then-count-gt32 c =
    elim c.then-count-gt32.branch [
      | then-count-gt32-via-then-count-gt32 w ↦ no-count c.args.self w.if-count-gt32.true
      | then-count-gt32-via-else-count-gt32+then-not-is_power_of_two w ↦ no_power c.args.self (sym w.is_power_of_two.ensures ∙ w.if-not-is_power_of_two.true)
    ]

pub nonzero_rem-result : goal.nonzero_rem-result
nonzero_rem-result c = power-positive _ (sym c.is_power_of_two.ensures ∙ c.if-not-is_power_of_two.false)

pub returns-then-e-self : goal.returns-then-e-self
returns-then-e-self c =
    let n : c.if-is_ok.value ≡ (c.is_ok.result && c.examine-e.result.names) = elim c.if-is_ok.branch [ then-is_ok w ↦ both _ w.if-is_ok.true w.value-is | else-is_ok w ↦ first _ w.if-is_ok.false w.value-is ] in
    let d : c.if-e.value ≡ (c.if-is_ok.value && c.examine-e.result.disjoint) = elim c.if-e.branch [ then-e w ↦ both _ w.if-e.true w.value-is | else-e w ↦ first _ w.if-e.false w.value-is ] in
    let s : c.if-e-2.value ≡ (c.if-e.value && leb c.examine-e.result.end c.args.self.size) = elim c.if-e-2.branch [ then-e-2 w ↦ both _ w.if-e-2.true w.value-is | else-e-2 w ↦ first _ w.if-e-2.false w.value-is ] in
    whole c.args.self _ (omega arith) (omega arith) (sym c.is_power_of_two.ensures ∙ c.if-not-is_power_of_two.false) (rw c.first_of.ensures at c.examine-e.ensures) (c.is_ok.ensures.value ∙ ok-accepts _) n d s
    (rw c.if-e-self.true refl)

pub returns-else-e-self : goal.returns-else-e-self
returns-else-e-self c =
    let n : c.if-is_ok.value ≡ (c.is_ok.result && c.examine-e.result.names) = elim c.if-is_ok.branch [ then-is_ok w ↦ both _ w.if-is_ok.true w.value-is | else-is_ok w ↦ first _ w.if-is_ok.false w.value-is ] in
    let d : c.if-e.value ≡ (c.if-is_ok.value && c.examine-e.result.disjoint) = elim c.if-e.branch [ then-e w ↦ both _ w.if-e.true w.value-is | else-e w ↦ first _ w.if-e.false w.value-is ] in
    let s : c.if-e-2.value ≡ (c.if-e.value && leb c.examine-e.result.end c.args.self.size) = elim c.if-e-2.branch [ then-e-2 w ↦ both _ w.if-e-2.true w.value-is | else-e-2 w ↦ first _ w.if-e-2.false w.value-is ] in
    whole c.args.self _ (omega arith) (omega arith) (sym c.is_power_of_two.ensures ∙ c.if-not-is_power_of_two.false) (rw c.first_of.ensures at c.examine-e.ensures) (c.is_ok.ensures.value ∙ ok-accepts _) n d s
    (rw c.if-e-self.false refl)
