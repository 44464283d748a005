-- `datatype::arithmetic::align_to` meets its contract.
use Rattle.std.specs.Prelude.{◌≡◌, ◌+◌, ◌-◌, ◌*◌, ◌/◌}
use Rattle.common.specs.Logic.{refl, ℕ, suc, zero, div-mul-le_self, arith}
use Rattle.datatype.specs.Arithmetic.{align_to}
use Rattle.datatype.proofs.arithmetic.align_to.Goals as goal

some : (x a : ℕ) → (a ≡ 0 → ⊥) → (x + (a - 1)) / a * a ≡ align_to x a
unfolding align_to
some x zero h = absurd (h refl)
some x (suc k) h = let e : suc k - 1 ≡ k = omega arith in rw e

pub returns-then-alignment-eq0 : goal.returns-then-alignment-eq0
unfolding align_to
returns-then-alignment-eq0 c = rw c.if-alignment-eq0.true

pub overflow_mul-result : goal.overflow_mul-result
overflow_mul-result c = let a = c.args in omega (arith, div-mul-le_self (a.x + (a.alignment - 1)) a.alignment)

pub returns : goal.returns
returns c = some _ _ c.if-alignment-eq0.false
