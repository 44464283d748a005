-- `datatype::datatype::same_datatype` meets its contract.
use Rattle.std.specs.Prelude.{◌≡◌}
use Rattle.common.specs.Logic.{true, Bool, false, arith, eq-eqb, ne_eqb, eqb}
use Rattle.datatype.specs.Datatype.{same_custom, same_datatype}
use Rattle.datatype.specs.declared.datatype.Datatype.{Datatype}
use Rattle.datatype.proofs.datatype.same_datatype.Goals as goal

module _ (a b : Datatype) where
  codes : (a.code ≡ b.code → ⊥) → false ≡ same_datatype a b
  unfolding same_datatype
  codes h = rw (ne_eqb _ _ h)

  arrays : a.code ≡ b.code → a.code ≡ 16 → eqb a.n b.n ≡ same_datatype a b
  unfolding same_datatype
  arrays e h = rw (eq-eqb _ _ e, eq-eqb a.code 16 h)

  customs : a.code ≡ b.code → a.code ≡ 17 → {r : Bool} → r ≡ same_custom a b → r ≡ same_datatype a b
  unfolding same_datatype
  customs e h k = rw (eq-eqb _ _ e, ne_eqb a.code 16 (λ z. omega arith), eq-eqb a.code 17 h) k

  others : a.code ≡ b.code → (a.code ≡ 16 → ⊥) → (a.code ≡ 17 → ⊥) → true ≡ same_datatype a b
  unfolding same_datatype
  others e h k = rw (eq-eqb _ _ e, ne_eqb a.code 16 h, ne_eqb a.code 17 k)

pub returns-then-a-b : goal.returns-then-a-b
returns-then-a-b c = let a = c.args in codes a.a a.b c.if-a-b.true

pub returns-then-a-eq16 : goal.returns-then-a-eq16
returns-then-a-eq16 c = let a = c.args in arrays a.a a.b c.if-a-b.false c.if-a-eq16.true

pub returns-then-a-eq17 : goal.returns-then-a-eq17
returns-then-a-eq17 c = let a = c.args in customs a.a a.b c.if-a-b.false c.if-a-eq17.true c.same_custom.ensures

pub returns : goal.returns
returns c = let a = c.args in others a.a a.b c.if-a-b.false c.if-a-eq16.false c.if-a-eq17.false
