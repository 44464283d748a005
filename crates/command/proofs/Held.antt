-- Laws of counts that are held at the largest number of 64 bits.
use Rattle.std.specs.Prelude.{◌≡◌, ◌&&◌, ◌+◌}
use Rattle.common.specs.Logic.{◌∙◌, sym, ap, refl, true, false, Bool, List, ℕ, arith, ltb, length, get_or}
use lib.Seq.{take_all}
use Rattle.common.specs.Lists.{first, tabulate, sum}
use Rattle.common.proofs.Lists.{first-take}
use Rattle.common.proofs.Sums.{sum-none, sum-next}
use Rattle.command.specs.Losses.{held, held_sum, added_at, added_counts, held_total, forbids, HeldClaim}

pub held-claim : HeldClaim
unfolding held_sum
held-claim a b = omega arith

-- ---- of the 32, one more

pub added-here : (xs ys : List ℕ) (i : ℕ) {s : ℕ} → s ≡ held (get_or xs i 0 + get_or ys i 0) → s ≡ added_at xs ys i
unfolding added_at held_sum
added-here xs ys i e = e

pub all-added : (xs ys sums : List ℕ) (i : ℕ) → length sums ≡ 32 → first 0 sums i ≡ tabulate (added_at xs ys) i → i ≡ 32 → sums ≡ added_counts xs ys
unfolding added_counts
all-added xs ys sums i l h e =
    sym (first-take 0 sums 32 (omega arith) ∙ take_all 32 sums (omega arith)) ∙ ap (first 0 sums) (sym e) ∙ h ∙ ap (tabulate (added_at xs ys)) e

pub none-held : (xs : List ℕ) → 0 ≡ held (sum (first 0 xs 0))
none-held xs = omega (arith, sum-none xs)

pub one-held : (xs : List ℕ) (i : ℕ) {t s : ℕ} → t ≡ held (sum (first 0 xs i)) → s ≡ held (t + get_or xs i 0) → s ≡ held (sum (first 0 xs (i + 1)))
one-held xs i T S = omega (arith, T, S, sum-next xs i refl)

pub all_held : (xs : List ℕ) (i : ℕ) {t : ℕ} → t ≡ held (sum (first 0 xs i)) → i ≡ 32 → t ≡ held_total xs
unfolding held_total
all_held xs i T e = T ∙ ap (λ (k : ℕ). held (sum (first 0 xs k))) e

module _ (xs : List ℕ) {whole : Bool} where
  pub forbidden-some : {t : ℕ} → whole ≡ true → t ≡ held_total xs → ltb 0 t ≡ forbids whole xs
  unfolding forbids
  forbidden-some W T = ap (ltb 0) T ∙ sym (ap (λ (b : Bool). b && ltb 0 (held_total xs)) W)

  pub forbidden-none : whole ≡ false → whole ≡ forbids whole xs
  unfolding forbids
  forbidden-none W = W ∙ sym (ap (λ (b : Bool). b && ltb 0 (held_total xs)) W)
