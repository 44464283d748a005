-- The six buffer checks: the answer line by line, and what a call that passes them has.
use Rattle.std.specs.Prelude.{◌≡◌, ◌&&◌, ◌∷◌, ◌++◌, ◌≤◌, ◌*◌}
use Rattle.common.specs.Logic.{◌∙◌, sym, ap, refl, true, Bool, false, not, List, [], map, ℕ, le_trans, mul-le-mul_left, mul-le-mul_right, not-false, eqb-true, ltb-false, eqb, ltb, length, take, drop}
use Rattle.common.specs.Lists.{all, is_one_of}
use Rattle.common.specs.Refusal.{Line, answer, passes, accepts, answer_of, left_by}
use Rattle.common.specs.Refusal.{Answer}
use Rattle.common.specs.Refusal.{Accepted, Refused}
use Rattle.common.proofs.Lists.{and_left, and_right, neither}
use Rattle.common.proofs.Refusals.{refused-number, accepted-passes, passes-accepted, check-got, numbered, passes_append, passes-cons, answer-of-check, left-accepted, left-refused}
use Rattle.strided.specs.Strided.{converted}
use Rattle.buffer_conversion.specs.Claims.{Checked, CheckedClaim}
use Rattle.writes.specs.Writes.{written}
use Rattle.buffer_conversion.specs.Casts.{casts}
use Rattle.buffer_conversion.specs.Conversion.{write_of, length_number, buffer_lines, conversion_lines, buffer_checks, convert_into_range}
use Rattle.point_buffer.specs.Places.{point_bytes, is_backward, length_of}
use Rattle.point_buffer.specs.Records.{layout_in}
use Rattle.point_buffer.specs.declared.PointRange.{PointRange}
use Rattle.point_buffer.specs.declared.Storage.{Storage}
use Rattle.point_buffer.specs.declared.Storage.TheVariants.{Interleaved, Columns}
use Rattle.plans.specs.Plan.{Plan, is_sound_plan}
use Rattle.plans.specs.Records.{plan_of}
use Rattle.plans.specs.declared.plan.Plan.{Plan as PlanRecord}
use Rattle.plans.proofs.Facts.{plan-counts}
use Rattle.point_buffer.proofs.Sums.{in_array}
use Rattle.buffer_conversion.proofs.Casts.{casts-write}

-- a product is at most that of the factors' bounds
pub product : (a b m n : ℕ) → a ≤ m → b ≤ n → a * b ≤ m * n
product a b m n h k = le_trans (mul-le-mul_left a k) (mul-le-mul_right n h)

-- ---- line by line

module _ (x a : ℕ) (from : PointRange) (y b : ℕ) (to : PointRange) where
  -- the lines up to 21, and those after it
  abbrev early : List Line
  early = take 3 (buffer_lines x a from y b to)

  abbrev late : List Line
  late = drop 3 (buffer_lines x a from y b to)

  -- what a call has that passes them
  passed-early : passes early ≡ true → (a ≡ from.count * x) × (b ≡ to.count * y) × (from.start ≤ from.end) × (to.start ≤ to.end)
  unfolding buffer_lines
  passed-early h =
      let one = passes-cons (length_number 15 from.storage) _ _ h in
      let two = passes-cons (length_number 16 to.storage) _ _ one.1 in
      let three = neither (is_backward from) (is_backward to) (passes-cons 21 _ _ two.1).0 in
      (eqb-true _ _ (not-false _ one.0), eqb-true _ _ (not-false _ two.0), ltb-false _ _ three.0, ltb-false _ _ three.1)

-- ---- 1, and then they

module _ (p : Plan) (a : ℕ) (from : PointRange) (b : ℕ) (to : PointRange) where
  pub unsound : is_sound_plan p ≡ false → answer (conversion_lines p a from b to) ≡ Refused 1
  unfolding conversion_lines answer
  unsound h = rw h

  sound-then : is_sound_plan p ≡ true → answer (buffer_lines (point_bytes p.source from.storage) a from (point_bytes p.target to.storage) b to) ≡ answer (conversion_lines p a from b to)
  unfolding conversion_lines answer
  sound-then h = rw h

-- by the sizes that the code computes of the plan's layouts, which count no more than their arrays have
pub sound-answer : (p : PlanRecord) (a : ℕ) (from : PointRange) (b : ℕ) (to : PointRange) {x y : ℕ} {r : Answer} → is_sound_plan (plan_of p) ≡ true
    → x ≡ point_bytes (layout_in p.source) from.storage → y ≡ point_bytes (layout_in p.target) to.storage → r ≡ answer (buffer_lines x a from y b to) → r ≡ answer (conversion_lines (plan_of p) a from b to)
unfolding plan_of
sound-answer p a from b to s X Y r =
    let n = plan-counts p s in
    r ∙ rw (X, Y, in_array p.source n.1, in_array p.target n.2) (sound-then (plan_of p) a from b to s)

-- their numbers, in their order
by-storage : (s t : Storage) → ◌≡◌ {A = List ℕ} (length_number 15 s ∷ length_number 16 t ∷ 21 ∷ 17 ∷ 18 ∷ 19 ∷ []) (buffer_checks s t)
unfolding length_number buffer_checks
by-storage Interleaved Interleaved = refl
by-storage Interleaved Columns = refl
by-storage Columns Interleaved = refl
by-storage Columns Columns = refl

pub numbers-are : (x a : ℕ) (from : PointRange) (y b : ℕ) (to : PointRange) → map (λ (l : Line). l.number) (buffer_lines x a from y b to) ≡ buffer_checks from.storage to.storage
unfolding buffer_lines
numbers-are x a from y b to = by-storage from.storage to.storage

-- each is listed
all_listed : (s t : Storage) → (all (is_one_of (buffer_checks s t)) (buffer_checks s t) ≡ true) × (all (is_one_of (1 ∷ buffer_checks s t)) (1 ∷ buffer_checks s t) ≡ true)
unfolding buffer_checks all is_one_of
all_listed Interleaved Interleaved = (refl, refl)
all_listed Interleaved Columns = (refl, refl)
all_listed Columns Interleaved = (refl, refl)
all_listed Columns Columns = (refl, refl)

numbered-map : (p : ℕ → Bool) (ls : List Line) → all (numbered p) ls ≡ all p (map (λ (l : Line). l.number) ls)
unfolding all numbered
numbered-map p [] = refl
numbered-map p (l ∷ ls) = ap (λ (b : Bool). p l.number && b) (numbered-map p ls)

pub numbers-listed : (x a : ℕ) (from : PointRange) (y b : ℕ) (to : PointRange) → all (numbered (is_one_of (buffer_checks from.storage to.storage))) (buffer_lines x a from y b to) ≡ true
numbers-listed x a from y b to =
    numbered-map (is_one_of (buffer_checks from.storage to.storage)) (buffer_lines x a from y b to) ∙ rw (numbers-are x a from y b to) (all_listed from.storage to.storage).0

pub with-one : (p : Plan) (a : ℕ) (from : PointRange) (b : ℕ) (to : PointRange)
    → all (numbered (is_one_of (1 ∷ buffer_checks from.storage to.storage))) (conversion_lines p a from b to) ≡ true
unfolding conversion_lines
with-one p a from b to =
    numbered-map (is_one_of (1 ∷ buffer_checks from.storage to.storage)) (conversion_lines p a from b to)
    ∙ rw (numbers-are (point_bytes p.source from.storage) a from (point_bytes p.target to.storage) b to) (all_listed from.storage to.storage).1

-- ---- what an accepted call has
pub checked : (p : Plan) (src : List ℕ) (from : PointRange) (t : List ℕ) (to : PointRange) → answer (conversion_lines p (length src) from (length t) to) ≡ Accepted → Checked p src from t to
unfolding conversion_lines buffer_lines
checked p src from t to h =
    let a = early (point_bytes p.source from.storage) (length src) from (point_bytes p.target to.storage) (length t) to in
    let b = late (point_bytes p.source from.storage) (length src) from (point_bytes p.target to.storage) (length t) to in
    let sound = passes-cons 1 (not (is_sound_plan p)) (a ++ b) (accepted-passes (conversion_lines p (length src) from (length t) to) h) in
    let both : (passes a && passes b) ≡ true = sym (passes_append a b) ∙ sound.1 in
    let k = passed-early (point_bytes p.source from.storage) (length src) from (point_bytes p.target to.storage) (length t) to (and_left (passes a) (passes b) both) in
    let x = passes-cons 17 (not (eqb (length_of from) (length_of to))) _ (and_right (passes a) (passes b) both) in
    let y = passes-cons 18 (ltb from.count from.end) _ x.1 in
    let z = passes-cons 19 (ltb to.count to.end) _ y.1 in
    record {
      sound = not-false _ sound.0;
      source = record { long = k.0; forward = k.2; inside = ltb-false _ _ y.0 };
      target = record { long = k.1; forward = k.3; inside = ltb-false _ _ z.0 };
      as_long = eqb-true _ _ (not-false _ x.0);
    }

pub checked-claim : CheckedClaim
unfolding convert_into_range
checked-claim p src from t to r h = checked p src from t to (passes-accepted _ (check-got (conversion_lines p (length src) from (length t) to) _ r h).0)

-- ---- what the call gives, by the answer

module _ (p : Plan) (src : List ℕ) (from : PointRange) (t : List ℕ) (to : PointRange) where
  abbrev lines : List Line
  lines = conversion_lines p (length src) from (length t) to

  abbrev made : List ℕ
  made = written (map (write_of p src from to) p.mappings) (length_of to) t

  pub answer-is : answer (conversion_lines p (length src) from (length t) to) ≡ answer_of (convert_into_range p src from t to)
  unfolding convert_into_range
  answer-is = answer-of-check lines made

  pub bytes-accepted : answer (conversion_lines p (length src) from (length t) to) ≡ Accepted → converted (casts p from to) src (length_of to) t ≡ left_by t (convert_into_range p src from t to)
  unfolding convert_into_range
  bytes-accepted h = casts-write p src from to (length_of to) t ∙ sym (left-accepted lines made t h)

  pub bytes-refused : accepts (answer (conversion_lines p (length src) from (length t) to)) ≡ false → t ≡ left_by t (convert_into_range p src from t to)
  unfolding convert_into_range
  bytes-refused h = sym (left-refused lines made t (refused-number (answer lines) h).1)
