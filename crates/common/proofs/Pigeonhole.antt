-- Of n + 1 numbers below n two are the same.
use Rattle.std.specs.Prelude.{◌≡◌, ◌⊎◌, ◌≤◌, ◌<◌}
use Rattle.common.specs.Logic.{◌∙◌, sym, cond, ⊎_elim, inl, inr, ℕ, suc, zero, arith, eqb-true, eqb-false, eqb}
use Rattle.common.proofs.Lists.{decide}

-- f, but what it gives last where it gives n
unfoldable instead : ℕ → (ℕ → ℕ) → ℕ → ℕ
instead n f i = cond (eqb (f i) n) (f (suc n)) (f i)

abbrev Either : ℕ → (ℕ → ℕ) → ℕ → Type 0
Either n f i = ((f i ≡ n) × (instead n f i ≡ f (suc n))) ⊎ ((f i ≡ n → ⊥) × (instead n f i ≡ f i))

either : (n : ℕ) (f : ℕ → ℕ) (i : ℕ) → Either n f i
unfolding instead
either n f i = ⊎_elim (λ e. inl (eqb-true (f i) n e, rw e)) (λ e. inr (eqb-false (f i) n e, rw e)) (decide (eqb (f i) n))

pub pigeonhole : (n : ℕ) (f : ℕ → ℕ) → ((i : ℕ) → i ≤ n → f i < n) → ((i j : ℕ) → i ≤ n → j ≤ n → f i ≡ f j → i ≡ j) → ⊥
pigeonhole zero f below apart = omega (arith, below 0 (omega arith))
pigeonhole (suc n) f below apart =
    pigeonhole n (instead n f) (λ i h. lower i h (either n f i)) (λ i j h k. two i j h k (either n f i) (either n f j))
  where
    other : (i : ℕ) → i ≤ n → f i ≡ f (suc n) → ⊥
    other i h e = let z = apart i (suc n) (omega arith) (omega arith) e in omega arith

    lower : (i : ℕ) → i ≤ n → Either n f i → instead n f i < n
    lower i h (inl p) =
        let o : f (suc n) ≡ n → ⊥ = λ e. other i h (p.0 ∙ sym e) in
        let b = below (suc n) (omega arith) in
        rw p.1 (omega arith)
    lower i h (inr p) = let b = below i (omega arith) in rw p.1 (omega arith)

    two : (i j : ℕ) → i ≤ n → j ≤ n → Either n f i → Either n f j → instead n f i ≡ instead n f j → i ≡ j
    two i j h k (inl p) (inl q) e = apart i j (omega arith) (omega arith) (p.0 ∙ sym q.0)
    two i j h k (inl p) (inr q) e = absurd (other j k (sym q.1 ∙ sym e ∙ p.1))
    two i j h k (inr p) (inl q) e = absurd (other i h (sym p.1 ∙ e ∙ q.1))
    two i j h k (inr p) (inr q) e = apart i j (omega arith) (omega arith) (sym p.1 ∙ e ∙ q.1)
