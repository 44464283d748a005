-- A listing, or the line of a refusal, handed over in a text that is long enough, is what is printed.
use Rattle.std.specs.Prelude.{◌≡◌, ◌++◌, ◌≤◌, ◌<◌, IfErr, IfOk, Result, Ok, Err}
use Rattle.common.specs.Logic.{◌∙◌, sym, ap, refl, List, [], ℕ, arith, le-leb, length, take, drop, length-append}
use lib.Seq.{take_at}
use Rattle.common.specs.Refusal.{got, number_of, outcome_of}
use Rattle.common.specs.declared.Refusal.{Refusal}
use Rattle.plans.specs.Records.{plan_of}
use Rattle.plans.specs.declared.plan.Plan.{Plan}
use Rattle.sheets.specs.Frame.{three_sheets}
use Rattle.sheets.specs.Records.{OfWhole}
use Rattle.sheets.proofs.Planned.{three-sheets-claim}
use Rattle.listing.specs.Text.{plan_lines, refusal_line, printed, handed, text_left, listing, listed_answer, length_in}
use Rattle.listing.proofs.Answered.{plan-refused, plan-got}
use Rattle.listing.proofs.Listings.{sound, listing-answered}
use Rattle.scanplan.specs.Printed.{Printed}

-- the line or listing l in a text that has room for it
module _ (l t : List ℕ) {v : List ℕ} {n : ℕ} (h : length l ≤ length t) (e : n ≡ length l) (x : v ≡ handed t l) where
  stands : v ≡ l ++ drop (length l) t
  unfolding handed
  stands = x ∙ rw (le-leb (length l) (length t) h)

  pub taken : take n v ≡ l
  taken = ap (take n) stands ∙ take_at l (drop (length l) t) n (sym e)

  pub within : n ≤ length v
  within = omega (arith, e, ap length stands, length-append l (drop (length l) t))

module _ (buffer : List ℕ) (k : ℕ) where
  -- an input that is refused
  pub refusal-printed : {r : Result Plan Refusal} {e : Refusal} → OfWhole buffer k (outcome_of r) → r ≡ Err e → Printed buffer k (refusal_line (number_of e))
  unfolding printed
  refusal-printed {r} {e} w h rest only = sym (ap printed (plan-refused (three_sheets (take k buffer ++ rest)) (ap outcome_of (sym h) ∙ w rest only)))

  -- the line of the refusal, in a text that has room for it
  pub line-printed : (e : Refusal) (s : List ℕ) {t v : List ℕ} {m n : ℕ} → Printed buffer k (refusal_line (number_of e)) × (t ≡ s) → m ≡ number_of e → 1996 ≤ length s → n ≡ length (refusal_line m) → n ≤ 12 → v ≡ handed t (refusal_line m) → Printed buffer k (take n v) × (n ≤ length v)
  line-printed e s {t} {v} {m} h d room l most x =
      let fits : length (refusal_line m) ≤ length t = omega (arith, room, l, most, ap length h.1) in (
        λ rest only. taken _ t fits l x ∙ ap refusal_line d ∙ h.0 rest only,
        within _ t fits l x,
      )

  -- one that gives a plan
  module _ {r : Result Plan Refusal} {p : Plan} (w : OfWhole buffer k (outcome_of r)) (h : r ≡ Ok p) where
    given : (rest : List ℕ) → (k < length buffer → rest ≡ []) → three_sheets (take k buffer ++ rest) ≡ got (plan_of p)
    given rest only = plan-got (three_sheets (take k buffer ++ rest)) (ap outcome_of (sym h) ∙ w rest only)

    lists : listing (plan_of p) ≡ got (plan_lines (plan_of p))
    lists = sound (plan_of p) (three-sheets-claim.sound (take k buffer ++ []) (plan_of p) (given [] (λ _. refl)))

    module _ (t : List ℕ) where
      -- the plan of sheets is sound
      pub never : (l : Result ℕ Refusal) (P : Refusal → Type 0) → outcome_of l ≡ listed_answer (listing (plan_of p)) → IfErr l P
      never (Ok n) P a = tt
      never (Err e) P a = absurd (let z : ◌≡◌ {A = ℕ} 0 1 = cc (a ∙ sym (listing-answered t lists).0) in omega arith)

      -- the listing of the plan
      pub plan-printed : (l : Result ℕ Refusal) {v : List ℕ} → 1996 ≤ length t → outcome_of l ≡ listed_answer (listing (plan_of p)) → length_in (outcome_of l) ≤ 1996 → v ≡ text_left t (listing (plan_of p)) → IfOk l (λ n. Printed buffer k (take n v) × (n ≤ length v))
      unfolding printed
      plan-printed (Ok n) room a s x =
          let e : n ≡ length (plan_lines (plan_of p)) = cc (a ∙ sym (listing-answered t lists).0) in
          let fits : length (plan_lines (plan_of p)) ≤ length t = omega (arith, e, s, room) in
          let y = x ∙ sym (listing-answered t lists).1 in (λ rest only. taken _ t fits e y ∙ sym (ap printed (given rest only)), within _ t fits e y)
      plan-printed (Err e) room a s x = tt
