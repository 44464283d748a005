-- Whole listings: of the record of a plan, what is answered of one, and handed over in a lent text.
use Rattle.std.specs.Prelude.{◌≡◌, ◌++◌}
use Rattle.common.specs.Logic.{refl, true, false, List, [], append_assoc, flat_map, ℕ, arith, length}
use Rattle.common.specs.Refusal.{Outcome, got, refused, left_by, and_then}
use Rattle.common.proofs.Refusals.{check-holds, check-passes}
use Rattle.layout.specs.Records.{layout_of}
use Rattle.plans.specs.Plan.{Plan, is_sound_plan}
use Rattle.plans.specs.Records.{plan_of}
use Rattle.plans.specs.declared.plan.Plan.{Plan as PlanRecord}
use Rattle.listing.specs.Text.{source_word, target_word, layout_line, mapping_line, plan_lines, handed, text_left, listing, listed_answer}

-- ---- the record of a plan

-- the two layouts and the mappings, each put at the end
pub plan_put : (p : PlanRecord) (t u v w : List ℕ) → t ≡ [] → u ≡ t ++ layout_line source_word (layout_of p.source) → v ≡ u ++ layout_line target_word (layout_of p.target)
    → w ≡ v ++ flat_map (mapping_line (plan_of p).source (plan_of p).target) (plan_of p).mappings → w ≡ plan_lines (plan_of p)
unfolding plan_lines plan_of
plan_put p t u v w e a b c = rw (c, b, a, e) (simp append_assoc)

-- ---- the answer

module _ (p : Plan) where
  pub unsound : is_sound_plan p ≡ false → listing p ≡ refused 1
  unfolding listing
  unsound h = check-holds 1 (plan_lines p) (rw h)

  pub sound : is_sound_plan p ≡ true → listing p ≡ got (plan_lines p)
  unfolding listing
  sound h = check-passes 1 (plan_lines p) (rw h)

module _ {o : Outcome (List ℕ)} (t : List ℕ) where
  pub refusal-answered : {n : ℕ} → o ≡ refused n → (refused n ≡ listed_answer o) × (t ≡ text_left t o)
  unfolding listed_answer text_left left_by and_then
  refusal-answered h = (rw h, rw h)

  pub listing-answered : {l : List ℕ} → o ≡ got l → (got (length l) ≡ listed_answer o) × (handed t l ≡ text_left t o)
  unfolding listed_answer text_left left_by and_then
  listing-answered h = (rw h, rw h)

-- what an answer says of the listing
pub answer-refused : (o : Outcome (List ℕ)) {n : ℕ} → refused n ≡ listed_answer o → o ≡ refused n
unfolding listed_answer
answer-refused (got l) e = absurd (let z : ◌≡◌ {A = ℕ} 0 1 = cc in omega arith)
answer-refused (refused m) e = cc

pub answer-listed : (o : Outcome (List ℕ)) {n : ℕ} → got n ≡ listed_answer o → (l : List ℕ) × (o ≡ got l) × (n ≡ length l)
unfolding listed_answer
answer-listed (got l) e = (l, refl, (cc))
answer-listed (refused m) e = absurd (let z : ◌≡◌ {A = ℕ} 0 1 = cc in omega arith)
