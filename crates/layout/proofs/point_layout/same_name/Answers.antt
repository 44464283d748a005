-- `layout::point_layout::same_name` meets its contract: past 31 bytes there are none.
use Rattle.std.specs.Prelude.{◌≡◌, ◌≤◌}
use Rattle.common.specs.Logic.{◌∙◌, sym, Bool, false, List, ℕ, min, arith, length, ne_eqb}
use Rattle.std.specs.Prelude.{nat_eq}
use Rattle.std.specs.Cmp.Lexicographic.{pointwise}
use Rattle.common.specs.Lists.{first, same_bytes}
use Rattle.common.proofs.Lists.{length-first, same-lengths, same-cut, slices-same}
use Rattle.layout.specs.Records.{definition_of}
use Rattle.layout.proofs.point_layout.same_name.Goals as goal

lengths : (xs ys : List ℕ) (m n : ℕ) → (m ≡ n → ⊥) → same_bytes (first 0 xs m) (first 0 ys n) ≡ false
lengths xs ys m n h = same-lengths (first 0 xs m) (first 0 ys n) (λ e. h (sym (length-first 0 xs m) ∙ e ∙ length-first 0 ys n))

cut : (xs ys : List ℕ) (m n : ℕ) {r : Bool} → m ≡ n → length xs ≤ 31 → length ys ≤ 31 → r ≡ pointwise nat_eq (first 0 xs (min m 31)) (first 0 ys (min n 31)) → r ≡ same_bytes (first 0 xs m) (first 0 ys n)
cut xs ys m n e p q h = rw e at h ∙ slices-same _ _ ∙ same-cut xs ys 31 n p q ∙ rw e

pub returns-then-a-b : goal.returns-then-a-b
unfolding definition_of
returns-then-a-b c = cut _ _ _ _ c.if-a-b.true (omega arith) (omega arith) (c.eq.ensures ∙ rw (c.name_bytes.ensures, c.name_bytes-then-a-b.ensures))

pub returns-else-a-b : goal.returns-else-a-b
unfolding definition_of
returns-else-a-b c = rw (lengths _ _ _ _ c.if-a-b.false, ne_eqb _ _ c.if-a-b.false)
