-- The entry with which a refusal shows, and the place that tells it: exactly one of the two, an entry or none.
use Rattle.std.specs.Prelude.{◌≡◌, ◌⊎◌, ◌≤◌, ◌<◌, ◌+◌}
use Rattle.common.specs.Logic.{◌∙◌, sym, ap, refl, true, Bool, false, ⊎_elim, inl, inr, ℕ, suc, zero, arith, eq-or-lt_of_le, eq-eqb, eqb-true, lt-ltb}
use Rattle.common.specs.Refusal.{Outcome, got, refused, answer_of}
use Rattle.common.proofs.Lists.{clash, decide, order}
use Rattle.refusal_place.specs.Claims.{Shown, NotShown}
use Rattle.refusal_place.specs.Place.{least_from, is_refusal, shows, shown_with, place_among}
use Rattle.refusal_place.specs.declared.RefusalPlace.{RefusalPlace}

-- ---- the least number

record Found (p : ℕ → Bool) (i k j : ℕ) : Type 0 where
  is : least_from p i k ≡ j
  high : j < i + k
  holds : p j ≡ true
  before : (m : ℕ) → i ≤ m → m < j → p m ≡ false

record Missed (p : ℕ → Bool) (i k : ℕ) : Type 0 where
  is : least_from p i k ≡ i + k
  all : (m : ℕ) → i ≤ m → m < i + k → p m ≡ false

least-cases : (p : ℕ → Bool) (i k : ℕ) → ((j : ℕ) × Found p i k j) ⊎ Missed p i k
unfolding least_from
least-cases p i zero = inr (record { is = omega arith; all = λ m a b. absurd (omega arith) })
least-cases p i (suc k) =
    ⊎_elim (λ t. inl (i, record { is = (rw t); high = omega arith; holds = t; before = λ m a b. absurd (omega arith) }))
    (λ f.
    let step : least_from p i (suc k) ≡ least_from p (suc i) k = (rw f) in
    let here : (m : ℕ) → i ≡ m → p m ≡ false = (λ m e. ap p (sym e) ∙ f) in
    ⊎_elim
    (λ r.
    inl (
      r.0,
      record {
        is = step ∙ r.1.is;
        high = omega (arith, r.1.high);
        holds = r.1.holds;
        before = λ m a b. ⊎_elim (here m) (λ l. r.1.before m l b) (eq-or-lt_of_le a);
      },
    ))
    (λ r.
    inr (record {
      is = step ∙ r.is ∙ omega arith;
      all = λ m a b. ⊎_elim (here m) (λ l. r.all m l (omega arith)) (eq-or-lt_of_le a);
    }))
    (least-cases p (suc i) k)) (decide (p i))

-- ---- the entry

module _ {X : Type 0} (n : ℕ) (first : ℕ → Outcome X) where
  shows-refused : (j : ℕ) → shows n first j ≡ true → first j ≡ refused n
  unfolding shows is_refusal answer_of
  shows-refused j h = go (first j) h
    where
      go : (o : Outcome X) → is_refusal n (answer_of o) ≡ true → o ≡ refused n
      go (got x) e = clash e refl
      go (refused m) e = ap refused (eqb-true m n e)

  refused-shows : (j : ℕ) → first j ≡ refused n → shows n first j ≡ true
  unfolding shows is_refusal answer_of
  refused-shows j h = rw h (eq-eqb n n refl)

  pub shown-not : {j : ℕ} → Shown n first j → NotShown n first → ⊥
  shown-not {j} a (inl e) = a.without 0 (omega arith) e
  shown-not {j} a (inr e) = e (suc j) (omega (arith, a.listed)) a.with_it

  pub shown-one : (i j : ℕ) → Shown n first i → Shown n first j → i ≡ j
  shown-one i j a b =
      ⊎_elim (λ (h : i ≤ j). ⊎_elim (λ e. e) (λ l. absurd (b.without (suc i) l a.with_it)) (eq-or-lt_of_le h))
      (λ (h : j < i). absurd (a.without (suc j) h b.with_it)) (order i j)

  -- ---- the place

  module _ (other : RefusalPlace) (entry : ℕ → RefusalPlace) where
    abbrev pub told : RefusalPlace
    told = place_among other entry (shown_with n first)

    found-place : (j : ℕ) → Found (shows n first) 0 33 j → ((i : ℕ) × Shown n first i × (told ≡ entry i)) ⊎ (NotShown n first × (told ≡ other))
    unfolding shown_with place_among
    found-place zero f = inr (inl (shows-refused 0 f.holds), ap (place_among other entry) f.is)
    found-place (suc i) f =
        inl (
          i,
          record {
            listed = omega (arith, f.high);
            with_it = shows-refused (suc i) f.holds;
            without = λ m h e. clash (refused-shows m e) (f.before m (omega arith) (omega arith));
          },
          ap (place_among other entry) f.is ∙ rw (lt-ltb i 32 (omega (arith, f.high))),
        )

    pub place-cases : ((i : ℕ) × Shown n first i × (told ≡ entry i)) ⊎ (NotShown n first × (told ≡ other))
    unfolding shown_with place_among
    place-cases =
        ⊎_elim (λ r. found-place r.0 r.1)
        (λ r. inr (inr (λ i h e. clash (refused-shows i e) (r.all i (omega arith) (omega arith))), ap (place_among other entry) r.is))
        (least-cases (shows n first) 0 33)

    pub entry-is : (j : ℕ) → Shown n first j → told ≡ entry j
    entry-is j a =
        ⊎_elim (λ r. r.2 ∙ ap entry (shown-one r.0 j r.1 a)) (λ r. absurd (shown-not a r.0)) place-cases

    pub other-is : NotShown n first → told ≡ other
    other-is a = ⊎_elim (λ r. absurd (shown-not r.1 a)) (λ r. r.1) place-cases
