-- `layout::point_layout::PointLayout::from_members_and_alignment` meets its contract.
use Rattle.std.specs.Prelude.{◌≡◌, ◌≤◌, Result}
use Rattle.common.specs.Logic.{◌∙◌, sym, ap, rules, List, ℕ, arith}
use Rattle.common.specs.declared.Refusal.{Refusal}
use Rattle.common.specs.Refusal.{Outcome, got, answer, answered}
use Rattle.common.specs.Refusal.{Accepted}
use Rattle.layout.specs.Makers.{given, given_lines, from_members}
use Rattle.layout.specs.Records.{listed, given_answer}
use Rattle.datatype.specs.Arithmetic.{align_to}
use Rattle.layout.specs.Steps.{Examination, new_answer}
use Rattle.layout.specs.declared.point_layout.Examined.{Examined}
use Rattle.layout.specs.declared.point_layout.PointLayout.{PointLayout}
use Rattle.layout.specs.declared.point_layout.PointAttributeMember.{PointAttributeMember}
use Rattle.layout.proofs.Listed.{length-listed}
use Rattle.layout.proofs.Makers.{new-small, given-long, given_is, answer-refused, answer-accepted}
use Rattle.layout.proofs.point_layout.PointLayout.from_members_and_alignment.Goals as goal

module _ (ms : List PointAttributeMember) (count a : ℕ) {e : Examined} {z : ℕ} (x : Examination (listed ms count) e) (h : z ≡ align_to e.end a) where
  -- what the checks answer
  checked : (r : Result (Unit {0}) Refusal) → count ≤ 32 → answered r ≡ new_answer (answered e.definitions) e.names e.disjoint a z → answered r ≡ answer (given_lines (listed ms count) a)
  checked r few q = given_is ms count a few x h q

  size_is : z ≡ (given (listed ms count) a).size
  unfolding given
  size_is = h ∙ rw x.end

accepted : (ms : List PointAttributeMember) (count a z : ℕ) → z ≡ (given (listed ms count) a).size → answer (given_lines (listed ms count) a) ≡ Accepted → ◌≡◌ {A = Outcome PointLayout} (got (record { attributes = ms; count = count; size = z; alignment = a })) (given_answer ms count a)
unfolding given_answer from_members given
accepted ms count a z e h = rw e (answer-accepted ms (given_lines (listed ms count) a) (given (listed ms count) a) h (sym (length-listed ms count)))

pub returns-then-count-gt32 : goal.returns-then-count-gt32
unfolding given_answer from_members given
returns-then-count-gt32 c = answer-refused _ _ _ (given-long _ _ _ c.if-count-gt32.true)

pub returns-in_err-check_new : goal.returns-in_err-check_new
unfolding given_answer from_members given
returns-in_err-check_new c = rw (← answer-refused c.args.members (given_lines (listed c.args.members c.args.count) c.args.alignment) (given (listed c.args.members c.args.count) c.args.alignment) (sym (checked c.args.members c.args.count c.args.alignment (rw c.first_of.ensures at c.examine-e.ensures) c.align_to-size.ensures c.check_new.result (omega arith) c.check_new.ensures) ∙ ap answered c.in_err-check_new.was)) (search rules)

pub overflow_cast-result-2 : goal.overflow_cast-result-2
overflow_cast-result-2 c = omega (arith, new-small _ _ _ _ _ (sym c.check_new.ensures ∙ ap answered c.in_ok-check_new.was))

pub returns : goal.returns
returns c =
    let e : c.align_to-size.result ≡ (given (listed c.args.members c.args.count) c.args.alignment).size = size_is c.args.members c.args.count c.args.alignment (rw c.first_of.ensures at c.examine-e.ensures) c.align_to-size.ensures in
    accepted c.args.members c.args.count c.args.alignment _ e (sym (checked c.args.members c.args.count c.args.alignment (rw c.first_of.ensures at c.examine-e.ensures) c.align_to-size.ensures c.check_new.result (omega arith) c.check_new.ensures) ∙ ap answered c.in_ok-check_new.was)
