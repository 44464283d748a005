-- `raw_point_converter::pair_for` meets its contract.
use Rattle.std.specs.Prelude.{◌≡◌, ◌∷◌, Result, Ok, Option}
use Rattle.common.specs.Logic.{◌∙◌, sym, ap, rules, [], ℕ, arith}
use Rattle.common.specs.declared.Refusal.{Refusal}
use Rattle.layout.proofs.Places.{found_within, never-refused}
use Rattle.strided.specs.declared.StridedCast.{StridedCast}
use Rattle.raw_point_converter.proofs.Lookup.{its-name, found-equal, found-unequal, not_found}
use Rattle.raw_point_converter.proofs.pair_for.Goals as goal

-- what an answer's option is, by what it holds
answered-by : {r : Result (Option ℕ) Refusal} {x o : Option ℕ} → r ≡ Ok x → x ≡ o → r ≡ Ok o
answered-by e f = e ∙ ap Ok f

pub returns-in_default : goal.returns-in_default
returns-in_default c = absurd (never-refused c.args.to_layout.now c.args.source c.requires.0 c.requires.1 _ (c.name_bytes.ensures ∙ its-name c.args.source c.requires.1) _ c.get_attribute_by_name.ensures c.in_default.is)

pub returns-in_err-j : goal.returns-in_err-j
returns-in_err-j c =
    rw (not_found c.args.to_layout.now c.args.source c.requires.0 c.requires.1 _ (c.name_bytes.ensures ∙ its-name c.args.source c.requires.1) _ c.get_attribute_by_name.ensures (answered-by c.in-Ok.is c.in_err-j.was)) (search rules)

pub offset_bounds-to_layout-j : goal.offset_bounds-to_layout-j
offset_bounds-to_layout-j c =
    let w = found_within c.args.to_layout.now c.args.source c.requires.0 c.requires.1 _ (c.name_bytes.ensures ∙ its-name c.args.source c.requires.1) _ c.get_attribute_by_name.ensures (answered-by c.in-Ok.is c.in_ok-j.was) in
    omega (arith, w.0, w.1)

pub bounds-to_layout-j : goal.bounds-to_layout-j
bounds-to_layout-j c =
    let w = found_within c.args.to_layout.now c.args.source c.requires.0 c.requires.1 _ (c.name_bytes.ensures ∙ its-name c.args.source c.requires.1) _ c.get_attribute_by_name.ensures (answered-by c.in-Ok.is c.in_ok-j.was) in
    omega (arith, w.0, w.1)

pub returns-then-same_datatype : goal.returns-then-same_datatype
returns-then-same_datatype c =
    sym (found-equal c.args.to_layout.now c.args.source c.requires.0 c.requires.1 _ (c.name_bytes.ensures ∙ its-name c.args.source c.requires.1) _ c.get_attribute_by_name.ensures (answered-by c.in-Ok.is c.in_ok-j.was) c.same_datatype.ensures c.if-same_datatype.true)

pub returns : goal.returns
returns c =
    ap (λ (p : StridedCast). p ∷ []) c.pair_of_two.ensures
    ∙ sym (found-unequal c.args.to_layout.now c.args.source c.requires.0 c.requires.1 _ (c.name_bytes.ensures ∙ its-name c.args.source c.requires.1) _ c.get_attribute_by_name.ensures (answered-by c.in-Ok.is c.in_ok-j.was) c.same_datatype.ensures c.if-same_datatype.false)
